-- The bytes so far are copied, each from a place that is not yet written over (Buffers).
use mathlib.Core.Path.{◌≡◌, ◌∙◌, ap}
use Rattle.buffers.specs.Buffers.{fronted}
use Rattle.buffers.proofs.Writing.{fronting_start, fronting_turn}
use native.Mathlib.Omega.{arith}
use Rattle.buffers.proofs.move_front.Goals as goal

pub loop-i-init : goal.loop-i-init
loop-i-init c = (omega arith, fronting_start c.args.buffer.now c.args.from)

pub overflow_add-buffer : goal.overflow_add-buffer
overflow_add-buffer c = omega arith

pub bounds-buffer-from : goal.bounds-buffer-from
bounds-buffer-from c = omega arith

pub bounds-buffer-i : goal.bounds-buffer-i
bounds-buffer-i c = omega arith

pub loop-i-preserved : goal.loop-i-preserved
loop-i-preserved c =
    (omega arith, fronting_turn c.args.buffer.now c.args.from c.loop-i.buffer c.loop-i.i (omega arith) c.loop-i.invariant.1)

pub shape_of-buffer : goal.shape_of-buffer
shape_of-buffer c = c.loop-i.invariant.1.size

pub returns : goal.returns
returns c =
    let e : c.loop-i.i ≡ c.args.count = omega arith in
    c.loop-i.invariant.1.is ∙ ap (fronted c.args.buffer.now c.args.from) e
