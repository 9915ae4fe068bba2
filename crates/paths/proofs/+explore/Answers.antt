-- The search arrives where the record reads the last letter, leaves a state that was passed, and else searches from there and notes it (Looping).
use mathlib.Core.Path.{refl, sym, ◌∙◌}
use native.Mathlib.Omega.{arith}
use Rattle.std.proofs.Common.{ℕ}
use Rattle.states.proofs.StateSets.{first_at}
use Rattle.paths.proofs.Looping.{Turned, follow_begins, follow_passable, follow_turned, last_begins, last_turned, looping_again, looping_end, looping_level, looping_log, looping_next, looping_record, looping_start, next_lengthens, next_passable, passed_turned, turning}
use Rattle.paths.proofs.+explore.Goals as goal
use Rattle.paths.proofs.+explore.Goals.{then-level-width, else-level-width+then-not-is_passed, else-level-width+else-not-is_passed}

pub loop-r-init : goal.loop-r-init
loop-r-init t c =
    looping_start c.requires.0 c.requires.1 refl refl c.restricted-g.ensures c.first_try-r.ensures

pub arrive-total-requires : goal.arrive-total-requires
arrive-total-requires t c =
    let o = c.loop-r.invariant in
    last_begins o (turning o c.loop-r-test.true c.after_at.ensures c.merged-next.ensures c.is_fresh-new.ensures) c.if-level-width.true

pub explore-total-requires : goal.explore-total-requires
explore-total-requires t c =
    let o = c.loop-r.invariant in
    let here = turning o c.loop-r-test.true c.after_at.ensures c.merged-next.ensures c.is_fresh-new.ensures in
    (omega (arith, c.decreases, o.more), follow_begins o here c.if-level-width.false c.longer-on.ensures)

-- the three ways of a turn meet
turned : (t : ℕ) (c : goal.Joined-level-width t) → Turned c.loop-r.invariant c.merged-next.result c.is_fresh-new.result c.if-level-width.total c.if-level-width.log c.if-level-width.scratch
turned t c =
    let o = c.loop-r.invariant in
    let here = turning o c.loop-r-test.true c.after_at.ensures c.merged-next.ensures c.is_fresh-new.ensures in
    elim c.if-level-width.branch [
      | then-level-width w ↦ rw (w.total-is, w.log-is, w.scratch-is) (last_turned o here w.if-level-width.true w.arrive-total.ensures)
      | else-level-width+then-not-is_passed w ↦ rw (w.total-is, w.log-is, w.scratch-is)
          (follow_turned o here w.if-level-width.false w.longer-on.ensures w.explore-total.ensures w.number-x.ensures.1 w.number-x.ensures.0 w.pass.ensures)
      | else-level-width+else-not-is_passed w ↦ rw (w.total-is, w.log-is, w.scratch-is)
          (passed_turned o here w.if-level-width.false w.number-x.ensures.0 (sym w.is_passed.ensures ∙ w.if-not-is_passed.false))
    ]

pub new-requires : goal.new-requires
new-requires t c =
    let o = c.loop-r.invariant in
    let next = looping_next o (turning o c.loop-r-test.true c.after_at.ensures c.merged-next.ensures c.is_fresh-new.ensures) (turned t c) in
    (next.0, next.1)

pub next_match-r-requires : goal.next_match-r-requires
next_match-r-requires t c =
    let o = c.loop-r.invariant in
    let next = looping_next o (turning o c.loop-r-test.true c.after_at.ensures c.merged-next.ensures c.is_fresh-new.ensures) (turned t c.before.before) in
    rw (c.new.ensures.0, c.new.ensures.4) (next.2, next.3)

pub loop-r-smaller : goal.loop-r-smaller
loop-r-smaller t c = omega (arith, (first_at _ _ _ _ (rw (c.new.ensures.0, c.new.ensures.4) at c.next_match-r.ensures)).low, c.loop-r-test.true)

pub loop-r-preserved : goal.loop-r-preserved
loop-r-preserved t c =
    let o = c.loop-r.invariant in
    looping_again o (turning o c.loop-r-test.true c.after_at.ensures c.merged-next.ensures c.is_fresh-new.ensures) (turned t c.before.before.before) (rw (c.new.ensures.0, c.new.ensures.4) at c.next_match-r.ensures)

pub returns : goal.returns
returns t c = looping_end c.loop-r.invariant c.loop-r-test.false
