-- What the verdict and the run ask of the table, the log and the scratch, and what they leave.
use Rattle.std.specs.Prelude.{◌≡◌, List, [], ℕ, ◌≤◌, length, Result}
use Rattle.std.proofs.Math.Option.{some}
use Rattle.model.specs.declared.Refusal.{Refusal}
use Rattle.model.specs.declared.Run.{Run}
use Rattle.model.specs.declared.Verdict.{Verdict}
use Rattle.model.specs.Calls.{scratch_for, zeros, run_verdict, start_path, refused_by, page_after}
use Rattle.model.specs.Lists.{value_or}
use Rattle.model.specs.Log.{Path, limit, rounds}
use Rattle.model.specs.Unfolding.{emitted, path_steps}
use Rattle.table.specs.declared.Table.{Table}
use Rattle.table.specs.Reading.{saturated_in, system_in}
use Rattle.logs.specs.RoundLogs.{LimitLog}
use Rattle.scratch.specs.StackNumbers.{stack_of}
use Rattle.std.specs.Prelude.{Option as Optional, Some, None}
use Rattle.verdict.specs.declared.Held.{Held}
use Rattle.leaders.specs.Leaders.{Linked}

-- document 01: "gives the verdict, transitions, rounds, steps", "Unreachable has no steps"
unfoldable pub stated : Optional ℕ → ℕ → ℕ → Verdict
stated None transitions rounds = Verdict.Unreachable transitions rounds
stated (Some steps) transitions rounds = Verdict.Reachable transitions rounds steps

-- document 01: "Rounds end when one adds nothing", "Rounds is the highest round held"; the log begins with the limit's
-- records, as many as `count` of those that it has room for, and they are in their rings; the scratch is as long as
-- check 15 asks
pub record AtLimit (table : List ℕ) (t : Table) (log : List ℕ) (h : Held) (scratch : List ℕ) : Type 0 where
  pub log_of : LimitLog table t log h.count
  pub linked : Linked log h.count h.room scratch
  pub room : scratch_for h.room ≤ length scratch
  pub highest : h.rounds ≡ rounds (limit (saturated_in table))

-- document 01: "The start's path: likewise the first accepting one in the limit"; its record numbers are the stack, the
-- first letter's on top, and these are its steps
pub record PathOnStack (table : List ℕ) (t : Table) (log : List ℕ) (count most steps : ℕ)
    (scratch : List ℕ) : Type 0 where
  pub log_of : LimitLog table t log count
  pub room : scratch_for count ≤ length scratch
  pub highest : most ≡ rounds (limit (saturated_in table))
  pub path : Path
  pub is : start_path (saturated_in table) ≡ some path
  pub stack : stack_of scratch t.pile ≡ path.numbers
  pub figure : steps ≡ path_steps (limit (saturated_in table)) path.numbers

-- document 01: "Unfolding: take the first record of the path that isn't of round 0, emit its rule"; the rules that the
-- start's path emits
unfoldable pub start_run : List ℕ → List ℕ
start_run table =
    value_or [] (λ (p : Path). emitted (limit (saturated_in table)) p.numbers) (start_path (saturated_in table))

-- document 01: "scratch is left zero", "The page holds the run then zeros, unchanged if refused"
pub record RunLeft (table scratch₀ page₀ : List ℕ) (r : Result Run Refusal) (scratch page : List ℕ) : Type 0 where
  pub given : r ≡ run_verdict (system_in table) (length page₀) (start_path (saturated_in table))
  pub cleared : scratch ≡ zeros scratch₀
  pub run : page ≡ page_after (refused_by r) (start_run table) page₀
