-- The start's path: what the search asks, gives and leaves. Where the log is that of several rounds, it is the path of
-- each.
use Rattle.std.specs.Prelude.{◌≡◌, Bool, true, false, List, ℕ, ◌+◌, ◌-◌, ◌*◌, ◌<◌, ◌≤◌, length}
use Rattle.std.proofs.Math.Option.{Option, map, none, some}
use Rattle.model.specs.declared.Group.{Group}
use Rattle.model.specs.Log.{Record, Path, push, log_at}
use Rattle.model.specs.Unfolding.{accepting_path, path_steps}
use Rattle.numbers.specs.NumberBytes.{with_number}
use Rattle.states.specs.StateNumbers.{Over}
use Rattle.states.specs.StateSets.{set_length, member}
use Rattle.scratch.specs.Regions.{links_end}
use Rattle.scratch.specs.StackNumbers.{stack_place, stack_of}
use Rattle.table.specs.declared.Table.{Table}
use Rattle.table.specs.Reading.{saturated_in, system_in}
use Rattle.logs.specs.RoundLogs.{EachRound}
use Rattle.rests.specs.declared.Scope.{Scope}
use Rattle.rests.specs.Rests.{processes_of_table, own_number, set_at, Scoped, accepts_from, path_from, RightForLog}
use Rattle.restsets.specs.Filling.{Led}
use Rattle.attempts.specs.declared.Span.{Span}
use Rattle.std.specs.Prelude.{Option as Optional, Some, None}

-- ---- where the sets stand
-- the set of the rest from letter k on
abbrev pub set_place : ℕ → ℕ
set_place k = set_length * k

-- the whole start word, which shall lead into the last set
abbrev pub whole_word : Table → Span
whole_word t = record { low = 0; high = t.pile; goal = set_place t.pile }

-- the set of the rest from letter k on is right
abbrev pub RightAt : List ℕ → Table → List ℕ → ℕ → List ℕ → ℕ → Type 0
RightAt table t log limit s k = RightForLog table t log limit (set_at s (set_place k)) k

-- the last set is right
pub record Begun (table : List ℕ) (t : Table) (log : List ℕ) (c : Scope) (s : List ℕ) : Type 0 where
  pub scoped : Scoped table t log c s
  pub room : links_end c.n ≤ length s
  pub last : RightAt table t log c.limit s t.pile

-- and the leaders of the word's letters are chained
pub record BegunLed (table : List ℕ) (t : Table) (log : List ℕ) (c : Scope) (s : List ℕ) : Type 0 where
  pub begun : Begun table t log c s
  pub led : Led table t log c.count c.n s

-- every set is right
pub record SetsReady (table : List ℕ) (t : Table) (log : List ℕ) (c : Scope) (s : List ℕ) : Type 0 where
  pub scoped : Scoped table t log c s
  pub right : (k : ℕ) → k ≤ t.pile → RightAt table t log c.limit s k

-- the start's state is in the first set
abbrev pub start_in : List ℕ → Table → List ℕ → Bool
start_in table t s = member (set_at s 0) (own_number (processes_of_table t) (system_in table).start.states)

-- ---- the path by the sets
abbrev pub round_path : List ℕ → ℕ → Option Path
round_path table round = accepting_path (saturated_in table) (log_at (saturated_in table) round) (system_in table).start

-- the path has come to a state of the table from which the rest of the start word from letter k on is accepted
pub record OnPath (table : List ℕ) (t : Table) (log : List ℕ) (limit k : ℕ) (g : Group) : Type 0 where
  pub over : Over (processes_of_table t) g
  pub accepted : EachRound table t log limit (λ (round : ℕ). accepts_from table round k g ≡ true)

-- it can go on by letter k
pub record Underway (table : List ℕ) (t : Table) (log : List ℕ) (c : Scope) (s : List ℕ) (k : ℕ) (g : Group)
    : Type 0 where
  pub scoped : Scoped table t log c s
  pub inside : k < t.pile
  pub next : RightAt table t log c.limit s (k + 1)
  pub on_path : OnPath table t log c.limit k g

-- one record more: the path's first record from here on, and its number in its place on the stack
pub record Advanced (table : List ℕ) (t : Table) (log : List ℕ) (c : Scope) (k : ℕ) (g : Group) (s s' : List ℕ)
    (h : Group) : Type 0 where
  pub number : ℕ
  pub small : number < 65536
  pub first : EachRound table t log c.limit
      (λ (round : ℕ). path_from table round k g ≡ map (push number) (path_from table round (k + 1) h))
  pub on_path : OnPath table t log c.limit (k + 1) h
  pub written : s' ≡ with_number 2 s (stack_place (t.pile - 1 - k)) number

-- ---- the whole search
-- there is a path, and its record numbers are on the stack, the first letter's on top
pub record PathOn (table : List ℕ) (t : Table) (round : ℕ) (s : List ℕ) : Type 0 where
  pub path : Path
  pub is : round_path table round ≡ some path
  pub stack : stack_of s t.pile ≡ path.numbers

-- so it is, or there is none
abbrev pub PathIf : List ℕ → Table → ℕ → List ℕ → Bool → Type 0
PathIf table t round s true = PathOn table t round s
PathIf table t round s false = round_path table round ≡ none

abbrev pub start_found : List Record → Option Path → Optional ℕ
start_found log none = None
start_found log (some p) = Some (path_steps log p.numbers)

-- the answer, and where there is a path its record numbers as a stack in the scratch, the first letter's record on top
pub record Sought (table : List ℕ) (t : Table) (round : ℕ) (answer : Optional ℕ) (scratch : List ℕ) : Type 0 where
  pub given : answer ≡ start_found (log_at (saturated_in table) round) (round_path table round)
  pub stack : (p : Path) → round_path table round ≡ some p → stack_of scratch t.pile ≡ p.numbers
