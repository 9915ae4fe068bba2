-- The transition's item lies inside the table, and its body has the transition's parts (Layouts).
use mathlib.Core.Path.{refl, ◌∙◌}
use native.Mathlib.Omega.{arith}
use Rattle.table.proofs.Layouts.{places, table_modest, item_inside, item_read, body_size, transition_in_lem}
use Rattle.table.proofs.accepted.Accepted.transition_body.Goals as goal

pub transitions_at-requires : goal.transitions_at-requires
transitions_at-requires c = table_modest c.args.self.now.bytes.now c.args.self.now.counts c.args.self.now.holds

pub item_body-requires : goal.item_body-requires
item_body-requires c =
    let x = c.args in
    item_inside x.self.now.bytes.now x.self.now.counts c.args.self.now.holds 4 x.k _ (omega arith) c.requires (c.transitions_at.ensures ∙ (places x.self.now.counts).1)

pub returns : goal.returns
returns c =
    let x = c.args in
    let b = x.self.now.bytes.now in
    let h = c.args.self.now.holds in
    rw (item_read b x.self.now.counts h 4 x.k _ _ (c.transitions_at.ensures ∙ (places x.self.now.counts).1) c.item_body.ensures.0, transition_in_lem b x.self.now.counts h x.k c.requires)
    (refl, refl, refl, body_size b x.self.now.counts h 4 x.k (omega arith) c.requires)
