-- A step that is refused leaves the desk; else it stands where the step leads, and has counted it (Moving).
use mathlib.Core.Path.{sym}
use Rattle.desk.proofs.Moving.{moves_fired, moves_unfired}
use Rattle.desk.proofs.Desk.fire.Goals as goal

pub returns-in-Ok : goal.returns-in-Ok
returns-in-Ok c =
    let told = c.take_step.ensures in
    let told = rw c.in-Ok.is at told in
    rw (sym c.from.ensures) (moves_fired c.args.self.now c.requires c.from.result c.take_step.new.pile c.take_step.new.counts c.in-Ok.fired told.0 told.1)

pub returns-in-Err : goal.returns-in-Err
returns-in-Err c =
    let told = c.take_step.ensures in
    let told = rw c.in-Err.is at told in
    rw (c.refusal.ensures, sym c.from.ensures) (moves_unfired c.args.self.now c.requires c.from.result c.take_step.new.pile c.take_step.new.counts c.in-Err.number told.0 told.1)
