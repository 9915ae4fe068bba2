-- The leaders are chained, the sets filled, and the first one tells.
use mathlib.Core.Path.{sym, ◌∙◌}
use native.Mathlib.Omega.{arith}
use Rattle.start.proofs.Deciding.{begun_led, sets_none}
use Rattle.start.proofs.has_path_by_sets.Goals as goal

pub chain_word-requires : goal.chain_word-requires
chain_word-requires c = let p = c.requires.0 in (p.scoped.linked, p.room)

pub fill_sets-requires : goal.fill_sets-requires
fill_sets-requires c =
    (begun_led c.requires.0 c.chain_word.ensures, c.requires.1)

pub is_accepted-requires : goal.is_accepted-requires
is_accepted-requires c =
    let ready = c.fill_sets.ensures in
    omega (arith, ready.scoped.linked.room.room)

pub write_path-requires : goal.write_path-requires
write_path-requires c =
    (c.fill_sets.ensures, sym c.is_accepted.ensures ∙ c.if-is_accepted.true)

pub returns-then-is_accepted : goal.returns-then-is_accepted
returns-then-is_accepted c = c.write_path.ensures

pub returns : goal.returns
returns c =
    sets_none c.fill_sets.ensures (sym c.is_accepted.ensures ∙ c.if-is_accepted.false)
