-- The rests of the start word: from which states the records of a log accept the word from letter k on, by which path
-- first, and when a set of state numbers tells it. A log of several rounds' records is the log of each of them.
use Rattle.std.specs.Prelude.{◌≡◌, Bool, ◌&&◌, List, ◌++◌, ℕ, ◌≤◌, ltb, take, drop}
use Rattle.std.proofs.Math.Option.{Option}
use Rattle.model.specs.declared.Group.{Group}
use Rattle.model.specs.Groups.{Processes, build, processes_of, restrict, merge}
use Rattle.model.specs.Log.{Path, keys, log_at}
use Rattle.model.specs.Systems.{accepts}
use Rattle.model.specs.Unfolding.{accepting_path}
use Rattle.model.specs.Records.{after_at}
use Rattle.states.specs.StateNumbers.{state_number, Over}
use Rattle.states.specs.StateSets.{set_length, member, first_from}
use Rattle.packs.specs.Packs.{packed}
use Rattle.rings.specs.Rings.{record_reads}
use Rattle.table.specs.declared.Table.{Table}
use Rattle.table.specs.Reading.{saturated_in, system_in, pile_in, BitsOf}
use Rattle.logs.specs.RoundLogs.{SomeRound, EachRound}
use Rattle.leaders.specs.Leaders.{Linked}
use Rattle.rests.specs.declared.Letter.{Letter}
use Rattle.rests.specs.declared.Scope.{Scope}

-- the first n processes, and those of the table
abbrev pub first_processes : ℕ → Processes
first_processes n = record { b0 = ltb 0 n; b1 = ltb 1 n; b2 = ltb 2 n; b3 = ltb 3 n }

abbrev pub processes_of_table : Table → Processes
processes_of_table t = first_processes t.processes

-- g at the processes L, with 0 at every other process, and its number
abbrev pub no_states : Group
no_states = build (λ i. 0)

abbrev pub zeroed_group : Processes → Group → Group
zeroed_group L g = merge L g no_states

unfoldable pub own_number : Processes → Group → ℕ
own_number L g = state_number (zeroed_group L g)

-- letter i of the start word, with its processes
pub record LetterAt (table : List ℕ) (i : ℕ) (a : Letter) : Type 0 where
  pub number : a.number ≡ pile_in table i
  pub bits : BitsOf ((system_in table).loc (pile_in table i)) a.bits

-- the records below the limit are those of the rounds up to some round, and all records are in their rings
pub record Scoped (table : List ℕ) (t : Table) (log : List ℕ) (c : Scope) (s : List ℕ) : Type 0 where
  pub some : SomeRound table t log c.limit
  pub linked : Linked log c.count c.n s
  pub limited : c.limit ≤ c.count

-- ---- one letter, in terms of the log's bytes
-- record r reads the letter in the state g, and leads into the set
unfoldable pub leads : List ℕ → List ℕ → Letter → Group → ℕ → Bool
leads log members a g r =
    record_reads log a.number (packed (restrict (processes_of a.bits) g)) r
    && member members (state_number (merge (processes_of a.bits) (after_at log r) g))

-- the lowest record below the limit that does, or the limit
unfoldable pub first_lead : List ℕ → ℕ → List ℕ → Letter → Group → ℕ
first_lead log limit members a g = first_from (leads log members a g) 0 limit

-- some record does
abbrev pub some_lead : List ℕ → ℕ → List ℕ → Letter → Group → Bool
some_lead log limit members a g = ltb (first_lead log limit members a g) limit

-- ---- the rest from letter k on
-- the records up to a round accept it from the state g
abbrev pub accepts_from : List ℕ → ℕ → ℕ → Group → Bool
accepts_from table round k g =
    accepts (system_in table).loc (keys (log_at (saturated_in table) round)) (saturated_in table).accepting
    (drop k (system_in table).start.word) g

-- the first accepting path from the state g that reads it
abbrev pub path_from : List ℕ → ℕ → ℕ → Group → Option Path
path_from table round k g =
    accepting_path (saturated_in table) (log_at (saturated_in table) round)
    (record { states = g; word = drop k (system_in table).start.word })

-- a path with these record numbers in front
abbrev pub prepend : List ℕ → Path → Path
prepend ns p = record { numbers = ns ++ p.numbers; end = p.end }

-- ---- sets of states
-- the bytes of the set that begins at a byte of the scratch
unfoldable pub set_at : List ℕ → ℕ → List ℕ
set_at s at = take set_length (drop at s)

-- the set has the states from which the rest from letter k on is accepted; a process that the table lacks counts as 0 in
-- their numbers
abbrev pub SetRight : List ℕ → Table → ℕ → List ℕ → ℕ → Type 0
SetRight table t round members k =
    (g : Group) → Over (processes_of_table t) g
    → member members (own_number (processes_of_table t) g) ≡ accepts_from table round k g

-- so it does for every round whose log this is
abbrev pub RightForLog : List ℕ → Table → List ℕ → ℕ → List ℕ → ℕ → Type 0
RightForLog table t log limit members k = EachRound table t log limit (λ (round : ℕ). SetRight table t round members k)
