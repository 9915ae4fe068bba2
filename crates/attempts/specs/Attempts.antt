-- An attempt at the first accepting path of a rest of the start word: what it asks for, and what holds of each of its
-- answers.
use Rattle.std.specs.Prelude.{◌≡◌, true, List, [], ◌∷◌, ℕ, ◌+◌, ◌-◌, ◌<◌, ◌≤◌}
use Rattle.std.proofs.Math.Option.{map, none}
use Rattle.model.specs.declared.Group.{Group}
use Rattle.model.specs.Groups.{merge}
use Rattle.model.specs.Records.{after_at}
use Rattle.states.specs.StateNumbers.{Over}
use Rattle.states.specs.StateSets.{set_length}
use Rattle.rings.specs.Rings.{OutsideSame}
use Rattle.scratch.specs.Regions.{leaders_at, stack_at}
use Rattle.scratch.specs.StackNumbers.{stack_place, numbers_down}
use Rattle.table.specs.declared.Table.{Table}
use Rattle.table.specs.Reading.{system_in, pile_in}
use Rattle.logs.specs.RoundLogs.{EachRound}
use Rattle.rests.specs.declared.Scope.{Scope}
use Rattle.rests.specs.Rests.{processes_of_table, Scoped, accepts_from, path_from, prepend, set_at, RightForLog}
use Rattle.attempts.specs.declared.Span.{Span}
use Rattle.attempts.specs.declared.Tried.{Tried}
use Rattle.attempts.specs.declared.Tried.TheVariants.{Found, Nothing, GivenUp}

-- the span's letters are some of the word's, the set that they shall lead into is below the leaders and right for the
-- rest behind them, and g is a state of the table's processes
pub record Ready (table : List ℕ) (t : Table) (log : List ℕ) (c : Scope) (span : Span) (g : Group)
    (s : List ℕ) : Type 0 where
  pub scoped : Scoped table t log c s
  pub some : span.low < span.high
  pub inside : span.high ≤ t.pile
  pub apart : span.goal + set_length ≤ leaders_at
  pub right : RightForLog table t log c.limit (set_at s span.goal) span.high
  pub over : Over (processes_of_table t) g

-- ---- records on the stack
-- the numbers for the letters from low on and below k, first letter first
abbrev pub trail : Table → ℕ → ℕ → List ℕ → List ℕ
trail t low k s = numbers_down s (stack_place (t.pile - k)) (k - low)

-- the state after a record that reads letter k in the state g, and after records that read the letters from k on in
-- turn
abbrev pub state_by : List ℕ → List ℕ → ℕ → ℕ → Group → Group
state_by table log k r g = merge ((system_in table).loc (pile_in table k)) (after_at log r) g

abbrev pub state_along : List ℕ → List ℕ → ℕ → List ℕ → Group → Group
state_along table log k [] g = g
state_along table log k (r ∷ ns) g = state_along table log (k + 1) ns (state_by table log k r g)

-- ---- the answers
-- these records lead from the state g through the span's letters to a state from which the rest behind them is
-- accepted, and the first accepting path begins with them
pub record Leading (table : List ℕ) (t : Table) (log : List ℕ) (c : Scope) (span : Span) (g : Group)
    (ns : List ℕ) : Type 0 where
  pub over : Over (processes_of_table t) (state_along table log span.low ns g)
  pub accepted : EachRound table t log c.limit (λ (round : ℕ).
      accepts_from table round span.high (state_along table log span.low ns g) ≡ true)
  pub first : EachRound table t log c.limit (λ (round : ℕ).
      path_from table round span.low g
      ≡ map (prepend ns) (path_from table round span.high (state_along table log span.low ns g)))

-- found: they are on the stack; nothing: there is no accepting path; given up: nothing is shown
abbrev pub Shown : List ℕ → Table → List ℕ → Scope → Span → Group → List ℕ → Tried → Type 0
Shown table t log c span g s Found = Leading table t log c span g (trail t span.low span.high s)
Shown table t log c span g s Nothing =
    EachRound table t log c.limit (λ (round : ℕ). path_from table round span.low g ≡ none)
Shown table t log c span g s GivenUp = Unit {0}

-- of the scratch only bytes of the stack have changed
pub record Attempted (table : List ℕ) (t : Table) (log : List ℕ) (c : Scope) (span : Span) (g : Group)
    (s s' : List ℕ) (a : Tried) : Type 0 where
  pub same : OutsideSame 128 stack_at s s'
  pub shown : Shown table t log c span g s' a
