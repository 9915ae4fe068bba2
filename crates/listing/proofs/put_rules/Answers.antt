-- One rule after the other is put behind those before it (Texts).
use Rattle.listing.proofs.Texts.{puts_none, puts_rule, puts_rules}
use native.Mathlib.Omega.{arith}
use Rattle.listing.proofs.put_rules.Goals as goal

pub loop-rule-init : goal.loop-rule-init
loop-rule-init c = (omega arith, puts_none _ _ _ (omega arith))

pub put_rule-end-requires : goal.put_rule-end-requires
put_rule-end-requires c = omega arith

pub loop-rule-preserved : goal.loop-rule-preserved
loop-rule-preserved c =
    let m = c.loop-rule in
    (omega arith, puts_rule c.args.rules.now m.rule-index m.invariant.1 c.put_rule-end.ensures (omega arith) (omega arith))

pub shape_of-out : goal.shape_of-out
shape_of-out c = c.loop-rule.invariant.1.size

pub returns : goal.returns
returns c = puts_rules c.args.rules.now c.loop-rule.rule-index c.loop-rule.invariant.1 (omega arith)
