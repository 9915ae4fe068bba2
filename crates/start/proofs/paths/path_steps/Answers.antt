-- The steps of the records in turn, the lowest number of the stack first.
use mathlib.Core.Path.{sym, subst}
use native.Mathlib.Omega.{arith}
use Rattle.records.specs.Entries.{HasRecord}
use Rattle.start.proofs.Steps.{each_down, steps_less, summed_start, summed_turn, summed_end}
use Rattle.start.proofs.paths.path_steps.Goals as goal

pub loop-k-init : goal.loop-k-init
loop-k-init c = summed_start

pub number_at-requires : goal.number_at-requires
number_at-requires c = let p = c.requires in omega (arith, p.0, c.loop-k-test.true)

pub steps_at-requires : goal.steps_at-requires
steps_at-requires c =
    let a = c.args in
    subst (HasRecord a.log.now) (sym c.number_at.ensures) (each_down (HasRecord a.log.now) a.scratch.now a.size c.loop-k.k c.loop-k-test.true c.requires.1)

pub add_steps-steps-requires : goal.add_steps-steps-requires
add_steps-steps-requires c =
    let log-known = c.shared_slice_known-1 in
    (omega (arith, c.loop-k.invariant.sum), omega (arith, c.steps_at.ensures, steps_less c.args.log.now c.number_at.result (λ m. omega (arith, log-known.given m))))

pub loop-k-preserved : goal.loop-k-preserved
loop-k-preserved c =
    summed_turn c.loop-k-test.true c.loop-k.invariant c.number_at.ensures c.steps_at.ensures c.add_steps-steps.ensures

pub returns : goal.returns
returns c = summed_end c.loop-k-test.false c.loop-k.invariant
