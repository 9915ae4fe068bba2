-- A record of a letter that is not asked for and one like the record before it are none; else the first one like it decides (Leaders).
use Rattle.leaders.proofs.Leaders.{leader_alike, leader_test, leader_unasked}
use Rattle.leaders.proofs.is_leader.Goals as goal

pub returns-then-letters-letter-ne1 : goal.returns-then-letters-letter-ne1
returns-then-letters-letter-ne1 c =
    let a = c.args in
    leader_unasked a.log.now a.letters a.r c.letter_at-letter.ensures c.if-letters-letter-ne1.true

pub returns-then-is_alike : goal.returns-then-is_alike
returns-then-is_alike c =
    let a = c.args in
    leader_alike a.log.now a.letters a.r c.letter_at-letter.ensures c.if-letters-letter-ne1.false c.before_at-g.ensures c.is_alike.ensures c.if-is_alike.true

pub returns : goal.returns
returns c =
    let a = c.args in
    let first = rw (c.new.ensures.0, c.new.ensures.4) at c.first_match.ensures in
    leader_test a.log.now a.letters a.r c.letter_at-letter.ensures c.if-letters-letter-ne1.false c.before_at-g.ensures c.requires.1 first
