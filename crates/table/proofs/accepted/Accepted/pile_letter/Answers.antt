-- The letter is the one byte of the item's body, which lies inside the table (Layouts).
use mathlib.Core.List.{List}
use mathlib.Core.Path.{sym, ◌∙◌, ap}
use Prim.Native.Nat.{ℕ}
use native.Mathlib.Omega.{arith}
use Rattle.model.specs.Tables.{byte_of}
use Rattle.table.proofs.Layouts.{places, table_modest, item_inside, item_read, pile_in_lem}
use Rattle.table.proofs.accepted.Accepted.pile_letter.Goals as goal

pub pile_at-requires : goal.pile_at-requires
pile_at-requires c = table_modest c.args.self.now.bytes.now c.args.self.now.counts c.args.self.now.holds

pub item_body-body-requires : goal.item_body-body-requires
item_body-body-requires c =
    let x = c.args in
    item_inside x.self.now.bytes.now x.self.now.counts c.args.self.now.holds 7 x.k _ (omega arith) c.requires (c.pile_at.ensures ∙ (places x.self.now.counts).4)

pub returns : goal.returns
returns c =
    let x = c.args in
    let b = x.self.now.bytes.now in
    let e = item_read b x.self.now.counts c.args.self.now.holds 7 x.k _ _ (c.pile_at.ensures ∙ (places x.self.now.counts).4) c.item_body-body.ensures.0 in
    ap (λ (l : List ℕ). byte_of l 0) e ∙ sym (pile_in_lem b x.self.now.counts c.args.self.now.holds x.k c.requires)
