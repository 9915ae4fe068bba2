-- An accepting group is put into the set, mixture after mixture (LastSet).
use mathlib.Core.Path.{◌∙◌, ap}
use native.Mathlib.Omega.{arith}
use lib.ListN.{length}
use Rattle.table.proofs.Layouts.{table_modest}
use Rattle.restsets.proofs.LastSet.{accepting_room, mixture_added, mixtures_end, mixtures_only, mixtures_start}
use Rattle.restsets.proofs.sets.add_accepting.Goals as goal

pub present-requires : goal.present-requires
present-requires c = (table_modest c.args.table.now.bytes.now c.args.table.now.counts c.args.table.now.holds).processes

pub mixed_of-x-requires : goal.mixed_of-x-requires
mixed_of-x-requires c =
    let a = c.args in
    accepting_room a.table.now.bytes.now a.table.now.counts c.args.table.now.holds a.c c.requires.0 a.j c.requires.1 _ c.present.ensures _ c.accepting_group-g.ensures

pub loop-m-init : goal.loop-m-init
loop-m-init c =
    let a = c.args in
    (omega arith, mixtures_start a.table.now.counts a.at c.mixed_of-x.result a.scratch.now)

pub add_mixture-requires : goal.add_mixture-requires
add_mixture-requires c =
    let a = c.args in
    omega (arith, c.requires.2, ap length c.loop-m.invariant.1, (mixtures_only a.table.now.counts a.at c.mixed_of-x.result a.scratch.now c.loop-m.m c.requires.2).size)

pub loop-m-preserved : goal.loop-m-preserved
loop-m-preserved c =
    let a = c.args in
    (omega (arith, c.loop-m-test.true), mixture_added a.table.now.counts a.at c.mixed_of-x.result a.scratch.now c.loop-m.scratch _ c.loop-m.m c.loop-m.invariant.1 c.add_mixture.ensures)

pub shape_of-scratch : goal.shape_of-scratch
shape_of-scratch c =
    let a = c.args in
    ap length c.loop-m.invariant.1 ∙ (mixtures_only a.table.now.counts a.at c.mixed_of-x.result a.scratch.now c.loop-m.m c.requires.2).size

pub returns : goal.returns
returns c =
    let a = c.args in
    mixtures_end a.table.now.bytes.now a.table.now.counts c.args.table.now.holds a.c c.requires.0 a.j c.requires.1 _ c.present.ensures _ c.mixed_of-x.result c.accepting_group-g.ensures c.mixed_of-x.ensures
    c.set_count-sets.result c.loop-m.m c.set_count-sets.ensures c.loop-m.invariant.0 c.loop-m-test.false a.at a.scratch.now c.loop-m.scratch c.loop-m.invariant.1
