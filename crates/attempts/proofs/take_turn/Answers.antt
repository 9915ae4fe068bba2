-- A record is tried, or the attempt gives up; where none is left, it steps back, or there is no path (Turning).
use Prim.Native.Nat.{◌<◌}
use native.Mathlib.Omega.{arith}
use Rattle.rings.proofs.Links.{outside_none}
use Rattle.scratch.specs.Regions.{stack_at}
use Rattle.logs.proofs.RoundLogs.{round_has}
use Rattle.attempts.proofs.Ways.{here_inside, past_reads}
use Rattle.attempts.proofs.Turning.{last_inside, last_room, past_back, some_round, turn_back, turn_nothing}
use Rattle.attempts.proofs.take_turn.Goals as goal

pub returns-then-x-eq0 : goal.returns-then-x-eq0
returns-then-x-eq0 c = λ g w. record { same = outside_none 128 stack_at _; to = tt }

pub try_record-requires : goal.try_record-requires
try_record-requires c =
    (c.if-x-c.true, omega (arith, c.if-x-eq0.false), c.requires)

pub returns-then-x-c : goal.returns-then-x-c
returns-then-x-c c = c.try_record.ensures

pub returns-then-x-span : goal.returns-then-x-span
returns-then-x-span c =
    λ g w. turn_nothing w c.if-x-c.false c.if-x-span.true

pub return_back-y-requires : goal.return_back-y-requires
return_back-y-requires c =
    let w = c.requires.1 in
    let later : c.args.span.low < c.args.x.place = omega (arith, c.if-x-span.false, w.at.from) in
    record {
      holds = (some_round w).holds;
      later = omega arith;
      inside = omega (arith, here_inside w.at);
      room = last_room w (omega arith);
      there = round_has (some_round w) _ (last_inside w c.if-x-c.false later);
    }

pub follow-requires : goal.follow-requires
follow-requires c =
    let w = c.requires.1 in
    let past = past_back w c.if-x-c.false (omega (arith, c.if-x-span.false, w.at.from)) _ c.return_back-y.ensures in
    (w.at.ready.scoped.linked, omega (arith, past.inside, w.at.ready.scoped.limited), past_reads past)

pub returns : goal.returns
returns c =
    λ g w. turn_back w c.if-x-c.false (omega (arith, c.if-x-span.false, w.at.from)) _ _ c.return_back-y.ensures c.follow.ensures
