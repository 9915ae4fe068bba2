-- The set of the empty rest is cleared, and the accepting groups are put into it in turn.
use mathlib.Core.Path.{◌∙◌}
use native.Mathlib.Omega.{arith}
use Rattle.rings.proofs.Links.{outside_join}
use Rattle.restsets.proofs.LastSet.{numbering_start, numbering_turn, numbering_end, set_last}
use Rattle.restsets.proofs.sets.fill_accepting.Goals as goal

pub clear_set-requires : goal.clear_set-requires
clear_set-requires c = c.requires.1

pub loop-j-init : goal.loop-j-init
loop-j-init c = numbering_start c.args.table.now.holds _ c.clear_set.ensures.1

pub add_accepting-requires : goal.add_accepting-requires
add_accepting-requires c = (
  c.requires.0,
  omega (arith, c.loop-j.invariant.few, c.loop-j-test.true),
  omega
      (arith, c.requires.1, c.loop-j.invariant.same.size, c.clear_set.ensures.0.size),
)

pub loop-j-preserved : goal.loop-j-preserved
loop-j-preserved c =
    numbering_turn c.args.table.now.holds (omega (arith, c.requires.1, c.clear_set.ensures.0.size))
    c.loop-j-test.true c.loop-j.invariant c.add_accepting.ensures

pub shape_of-scratch : goal.shape_of-scratch
shape_of-scratch c = c.loop-j.invariant.same.size ∙ c.clear_set.ensures.0.size

pub returns : goal.returns
returns c =
    let filled = numbering_end c.args.table.now.holds c.loop-j-test.false c.loop-j.invariant in
    (outside_join c.clear_set.ensures.0 filled.same, λ round. set_last c.args.table.now.holds round _ _ filled)
