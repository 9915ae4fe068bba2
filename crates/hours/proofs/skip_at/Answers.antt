-- No minute is passed over where a window holds the whole step, and the fewest that any window leaves where none does (Windows).
use mathlib.Core.Path.{◌≡◌}
use lib.ListN.{length}
use native.Mathlib.Omega.{arith}
use Rattle.std.proofs.lemmas.Slice.Zip.{zip_end, zip_turn}
use Rattle.hours.proofs.Windows.{fitting_end, fitting_stop}
use Rattle.hours.proofs.skip_at.Goals as goal

pub returns-then-gap-eq0 : goal.returns-then-gap-eq0
returns-then-gap-eq0 c =
    let s = c.args in
    let first : c.into_iter-w-iterator.result.a.rest.now ≡ s.windows.now = cc in
    let second : c.into_iter-w-iterator.result.b.rest.now ≡ s.stays.now = cc in
    let turn = zip_turn s.windows.now s.stays.now c.loop-w.yielded c.into_iter-w-iterator.result c.loop-w.w-iterator c.next.new.self c.next.result first second
    c.loop-w.yielded_by (c.in-Some.w, c.in-Some.stay) c.in-Some.is c.next.ensures.steps in
    fitting_stop s.windows.now s.stays.now s.step.length s.m c.requires.2 c.requires.1 (length c.loop-w.yielded) c.until_fitting-gap.result turn.0
    (rw (turn.2 (record { opens = 0; closes = 0 }), c.from.ensures, turn.3 0) at c.until_fitting-gap.ensures) c.if-gap-eq0.true

pub returns : goal.returns
returns c =
    let s = c.args in
    let first : c.into_iter-w-iterator.result.a.rest.now ≡ s.windows.now = cc in
    let second : c.into_iter-w-iterator.result.b.rest.now ≡ s.stays.now = cc in
    let turns = zip_end s.windows.now s.stays.now c.loop-w.yielded c.into_iter-w-iterator.result c.loop-w.w-iterator c.next.new.self c.next.result first second
    c.loop-w.yielded_by c.in-None.is c.next.ensures.steps in
    fitting_end s.windows.now s.stays.now s.step.length s.m c.requires.2 c.requires.1 (length c.loop-w.yielded) c.loop-w.least s.step.some_minute s.step.short
    (omega (arith, turns, c.requires.0)) c.loop-w.invariant
