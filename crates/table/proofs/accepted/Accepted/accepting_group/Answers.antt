-- The group fills the item's body, which lies inside the table (Layouts).
use mathlib.Core.List.{List}
use mathlib.Core.Path.{sym, ◌∙◌, ap}
use Prim.Native.Nat.{ℕ}
use native.Mathlib.Omega.{arith}
use Rattle.model.specs.Tables.{group_of}
use Rattle.table.proofs.Layouts.{places, table_modest, item_inside, item_read, accepting_in_lem}
use Rattle.table.proofs.accepted.Accepted.accepting_group.Goals as goal

pub accepting_at-requires : goal.accepting_at-requires
accepting_at-requires c = table_modest c.args.self.now.bytes.now c.args.self.now.counts c.args.self.now.holds

pub item_body-requires : goal.item_body-requires
item_body-requires c =
    let x = c.args in
    item_inside x.self.now.bytes.now x.self.now.counts c.args.self.now.holds 5 x.k _ (omega arith) c.requires (c.accepting_at.ensures ∙ (places x.self.now.counts).2)

pub returns : goal.returns
returns c =
    let x = c.args in
    let b = x.self.now.bytes.now in
    let e = item_read b x.self.now.counts c.args.self.now.holds 5 x.k _ _ (c.accepting_at.ensures ∙ (places x.self.now.counts).2) c.item_body.ensures.0 in
    c.group_at.ensures ∙ ap (λ (l : List ℕ). group_of l 0) e ∙ sym (accepting_in_lem b x.self.now.counts c.args.self.now.holds x.k c.requires)
