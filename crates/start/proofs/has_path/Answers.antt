-- The attempt tells, or where it gave up the sets do.
use mathlib.Core.Path.{◌≡◌, subst}
use mathlib.Core.List.{List}
use Prim.Native.Nat.{ℕ}
use Rattle.table.specs.declared.Table.{Table}
use Rattle.rests.specs.declared.Scope.{Scope}
use Rattle.attempts.specs.declared.Tried.{Tried}
use Rattle.attempts.specs.Attempts.{Shown}
use Rattle.table.specs.Reading.{system_in}
use Rattle.start.specs.Search.{whole_word}
use Rattle.start.proofs.Deciding.{attempt_found, begun_kept}
use Rattle.start.proofs.has_path.Goals as goal

-- what an attempt that gave this answer has shown
module _ (table : List ℕ) (t : Table) (log : List ℕ) (c : Scope) (scratch : List ℕ) where
  shown : {r : Tried} (a : Tried) → r ≡ a → Shown table t log c (whole_word t) (system_in table).start.states scratch r
      → Shown table t log c (whole_word t) (system_in table).start.states scratch a
  shown a e h = subst (Shown table t log c (whole_word t) (system_in table).start.states scratch) e h

pub attempt_start-requires : goal.attempt_start-requires
attempt_start-requires c = c.requires.0

pub returns-in-Found : goal.returns-in-Found
returns-in-Found c =
    let a = c.args in attempt_found (shown a.table.now.bytes.now a.table.now.counts a.log.now a.c _ Tried.Found c.in-Found.is c.attempt_start.ensures.shown)

pub returns-in-Nothing : goal.returns-in-Nothing
returns-in-Nothing c =
    let a = c.args in shown a.table.now.bytes.now a.table.now.counts a.log.now a.c _ Tried.Nothing c.in-Nothing.is c.attempt_start.ensures.shown

pub has_path_by_sets-requires : goal.has_path_by_sets-requires
has_path_by_sets-requires c =
    (begun_kept c.requires.0 c.attempt_start.ensures.same, c.requires.1)

pub returns-in-GivenUp : goal.returns-in-GivenUp
returns-in-GivenUp c = c.has_path_by_sets.ensures
