-- What the search for the start's path and the unfolding ask of the table and the log.
use Rattle.std.specs.Prelude.{◌≡◌, List, ◌++◌, ℕ, ◌≤◌, length}
use Rattle.model.specs.Lists.{Each}
use Rattle.model.specs.Log.{log_at, saturated_at}
use Rattle.model.specs.Records.{log_bytes}
use Rattle.records.specs.Entries.{Fits}
use Rattle.table.specs.declared.Table.{Table}
use Rattle.table.specs.Reading.{Holds, saturated_in}

-- the table is accepted, and the log begins with the records up to a round, `count` of them
pub record RoundLog (table : List ℕ) (t : Table) (round : ℕ) (log : List ℕ) (count : ℕ) : Type 0 where
  pub holds : Holds table t
  pub rest : List ℕ
  pub logged : log ≡ log_bytes (log_at (saturated_in table) round) ++ rest
  pub fits : Each Fits (log_at (saturated_in table) round)
  pub size : length (log_at (saturated_in table) round) ≡ count
  pub short : count ≤ 65535

-- so it does for some round; what holds of every round for which it does
abbrev pub SomeRound : List ℕ → Table → List ℕ → ℕ → Type 0
SomeRound table t log count = (round : ℕ) × RoundLog table t round log count

abbrev pub EachRound : List ℕ → Table → List ℕ → ℕ → (ℕ → Type 0) → Type 0
EachRound table t log count P = (round : ℕ) → RoundLog table t round log count → P round

-- the round is that of the limit
abbrev pub LimitLog : List ℕ → Table → List ℕ → ℕ → Type 0
LimitLog table t log count = RoundLog table t (saturated_at (saturated_in table)) log count
