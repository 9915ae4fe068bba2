-- The record for a letter is the next one of the path.
use mathlib.Core.Path.{ap, ◌∙◌}
use Prim.Native.Nat.{◌<◌, ◌≤◌}
use native.Mathlib.Omega.{arith}
use Rattle.model.specs.declared.Group.{Group}
use Rattle.model.specs.Groups.{processes_of, merge}
use lib.ListN.{length}
use Rattle.numbers.proofs.NumberBytes.{length_number}
use Rattle.table.proofs.Layouts.{table_modest}
use Rattle.logs.proofs.RoundLogs.{round_has}
use Rattle.start.proofs.Tracing.{step_inside, advanced}
use Rattle.start.proofs.paths.advance.Goals as goal

pub letter_at-a-requires : goal.letter_at-a-requires
letter_at-a-requires c = let p = c.requires in p.inside

pub overflow_add-i : goal.overflow_add-i
overflow_add-i c =
    let few : c.args.table.now.counts.pile ≤ 64 = (table_modest c.args.table.now.bytes.now c.args.table.now.counts c.requires.scoped.some.1.holds).pile in
    omega (arith, c.requires.inside, few)

pub overflow_mul-i : goal.overflow_mul-i
overflow_mul-i c =
    let few : c.args.table.now.counts.pile ≤ 64 = (table_modest c.args.table.now.bytes.now c.args.table.now.counts c.requires.scoped.some.1.holds).pile in
    omega (arith, c.requires.inside, few)

pub first_lead-r-requires : goal.first_lead-r-requires
first_lead-r-requires c =
    let few : c.args.table.now.counts.pile ≤ 64 = (table_modest c.args.table.now.bytes.now c.args.table.now.counts c.requires.scoped.some.1.holds).pile in
    let p = c.requires in
    (p.scoped.linked, p.scoped.limited, omega (arith, p.inside, few, p.scoped.linked.room.room))

pub overflow_sub-table : goal.overflow_sub-table
overflow_sub-table c = omega (arith, c.requires.inside)

pub overflow_sub-table-2 : goal.overflow_sub-table-2
overflow_sub-table-2 c = omega (arith, c.requires.inside)

pub overflow_cast-r : goal.overflow_cast-r
overflow_cast-r c =
    let inside : c.first_lead-r.result < c.args.c.limit = step_inside c.requires c.letter_at-a.ensures c.zeroed.ensures c.first_lead-r.ensures in
    omega (arith, inside, c.requires.scoped.some.1.short)

pub put_number-requires : goal.put_number-requires
put_number-requires c =
    let few : c.args.table.now.counts.pile ≤ 64 = (table_modest c.args.table.now.bytes.now c.args.table.now.counts c.requires.scoped.some.1.holds).pile in
    omega (arith, c.requires.scoped.linked.room.room, c.requires.inside, few)

pub after_at-after-requires : goal.after_at-after-requires
after_at-after-requires c =
    let inside : c.first_lead-r.result < c.args.c.limit = step_inside c.requires c.letter_at-a.ensures c.zeroed.ensures c.first_lead-r.ensures in
    round_has c.requires.scoped.some.1 _ inside

pub shape_of-scratch : goal.shape_of-scratch
shape_of-scratch c = ap length c.put_number.ensures ∙ length_number 2 _ _ _

pub returns : goal.returns
returns c =
    advanced c.requires c.letter_at-a.ensures c.zeroed.ensures c.first_lead-r.ensures _ _ c.put_number.ensures
    (c.merged.ensures ∙ ap (λ (h : Group). merge (processes_of c.letter_at-a.result.bits) h c.args.g) c.after_at-after.ensures)
