-- The step of the rule, by the bits of its letter and its length.
use native.Mathlib.Omega.{arith}
use Rattle.plans.proofs.Checks.{length_short, length_some, lengths_enough, step_is}
use Rattle.plans.proofs.rule_step.Goals as goal

pub offset_bounds-lengths-n : goal.offset_bounds-lengths-n
offset_bounds-lengths-n c = omega (arith, c.requires.1, lengths_enough _ _ c.requires.0)

pub bounds-lengths-n : goal.bounds-lengths-n
bounds-lengths-n c = omega (arith, c.requires.1, lengths_enough _ _ c.requires.0)

pub invariant_of-result : goal.invariant_of-result
invariant_of-result c = record {
  some_minute = length_some _ _ c.requires.0 c.args.n c.from.result c.requires.1 c.from.ensures;
  short = length_short _ _ c.requires.0 c.args.n c.from.result c.requires.1 c.from.ensures;
}

pub returns : goal.returns
returns c =
    let a = c.args in
    step_is a.table.now.bytes.now a.table.now.counts a.table.now.holds a.lengths.now a.n c.requires.1 c.rule_bits.result c.from.result c.rule_bits.ensures c.from.ensures
