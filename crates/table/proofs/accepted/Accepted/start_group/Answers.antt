-- The group fills the start's body, which lies inside the table (Layouts).
use mathlib.Core.List.{List}
use mathlib.Core.Path.{sym, ◌∙◌, ap}
use Prim.Native.Nat.{ℕ}
use native.Mathlib.Omega.{arith}
use Rattle.model.specs.Tables.{group_of}
use Rattle.table.proofs.Layouts.{places, table_modest, item_inside, item_read, start_in_lem}
use Rattle.table.proofs.accepted.Accepted.start_group.Goals as goal

pub start_at-requires : goal.start_at-requires
start_at-requires c = table_modest c.args.self.now.bytes.now c.args.self.now.counts c.args.self.now.holds

pub item_body-requires : goal.item_body-requires
item_body-requires c =
    let x = c.args in
    item_inside x.self.now.bytes.now x.self.now.counts c.args.self.now.holds 6 0 _ (omega arith) (omega arith) (c.start_at.ensures ∙ (places x.self.now.counts).3)

pub returns : goal.returns
returns c =
    let x = c.args in
    let h = c.args.self.now.holds in
    let e = item_read x.self.now.bytes.now x.self.now.counts h 6 0 _ _ (c.start_at.ensures ∙ (places x.self.now.counts).3) c.item_body.ensures.0 in
    c.group_at.ensures ∙ ap (λ (l : List ℕ). group_of l 0) e ∙ sym (start_in_lem x.self.now.bytes.now x.self.now.counts h)
