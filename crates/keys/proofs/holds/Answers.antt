-- No record passed over has the key; the walk ends behind the bucket's least record (Seeking).
use Rattle.keys.proofs.Seeking.{seeking_end, seeking_found, seeking_turn}
use native.Mathlib.Omega.{arith}
use Rattle.keys.proofs.holds.Goals as goal

pub returns-then-has_key : goal.returns-then-has_key
returns-then-has_key c =
    seeking_found c.loop-r.invariant c.loop-r-test.true c.has_key.ensures c.if-has_key.true

pub loop-r-preserved : goal.loop-r-preserved
loop-r-preserved c =
    seeking_turn c.loop-r.invariant c.loop-r-test.true c.requires.1 c.link_at-r-in-loop-r.ensures.0 c.has_key.ensures c.if-has_key.false

pub returns : goal.returns
returns c =
    let room = c.requires.0 in
    seeking_end (omega (arith, room.short, room.fits)) c.loop-r.invariant c.loop-r-test.false
