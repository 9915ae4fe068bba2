-- The rule's item lies inside the table, and its body has the rule's parts (Layouts).
use mathlib.Core.Path.{refl, sym, ◌∙◌}
use native.Mathlib.Omega.{arith}
use Rattle.table.proofs.Layouts.{places, table_modest, item_inside, item_read, body_size, rule_in_lem, written_most, written_size}
use Rattle.table.proofs.accepted.Accepted.rule_body.Goals as goal

pub rules_at-requires : goal.rules_at-requires
rules_at-requires c = table_modest c.args.self.now.bytes.now c.args.self.now.counts c.args.self.now.holds

pub item_body-requires : goal.item_body-requires
item_body-requires c =
    let x = c.args in
    item_inside x.self.now.bytes.now x.self.now.counts c.args.self.now.holds 3 x.k _ (omega arith) c.requires (c.rules_at.ensures ∙ (places x.self.now.counts).0)

pub returns : goal.returns
returns c =
    let x = c.args in
    let b = x.self.now.bytes.now in
    let h = c.args.self.now.holds in
    let l = c.requires in
    rw (item_read b x.self.now.counts h 3 x.k _ _ (c.rules_at.ensures ∙ (places x.self.now.counts).0) c.item_body.ensures.0, rule_in_lem b x.self.now.counts h x.k l)
    (refl, refl, refl, sym (written_size b x.self.now.counts h x.k l), refl, written_most b x.self.now.counts h x.k l, body_size b x.self.now.counts h 3 x.k (omega arith) l)
