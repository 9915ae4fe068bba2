-- What the calls answer and run leave, as one equation with their outcome each.
use Rattle.std.specs.Prelude.{◌≡◌, List, ℕ, ◌≤◌, ◌<◌, length, Result, Ok, Err}
use Rattle.model.specs.declared.Refusal.{Refusal}
use Rattle.model.specs.declared.Run.{Run}
use Rattle.model.specs.declared.Verdict.{Verdict}
use Rattle.model.specs.Calls.{AnswerOutcome, RunOutcome, answer_call, answer_figures, capacity, run_call, run_figures, filled, scratch_for, zeros}
use Rattle.model.specs.Log.{limit}
use Rattle.model.specs.Records.{log_bytes}
use Rattle.table.specs.declared.Table.{Table}
use Rattle.table.specs.Reading.{saturated_in}
use Rattle.verdict.specs.Verdicts.{AtLimit}
use Rattle.verdict.specs.declared.Held.{Held}

-- the answer call gives its outcome's answer, with document 01's number and values, and leaves its log and scratch
pub record Answers (o : AnswerOutcome) (r : Result Verdict Refusal) (log scratch : List ℕ) : Type 0 where
  pub answer : r ≡ o.answer
  pub figures : answer_figures r ≡ answer_figures o.answer
  pub log_left : log ≡ o.log
  pub scratch_left : scratch ≡ o.scratch

-- the run call also leaves its outcome's page
pub record Runs (o : RunOutcome) (r : Result Run Refusal) (log scratch page : List ℕ) : Type 0 where
  pub answer : r ≡ o.answer
  pub figures : run_figures r ≡ run_figures o.answer
  pub log_left : log ≡ o.log
  pub scratch_left : scratch ≡ o.scratch
  pub page_left : page ≡ o.page

-- the log can hold n records, and the scratch has room for their saturation
pub record Roomy (n : ℕ) (log scratch : List ℕ) : Type 0 where
  pub log_room : n ≡ capacity (length log)
  pub scratch_room : scratch_for n ≤ length scratch

-- the log holds the limit's records and then zeros
pub record LimitLeft (table : List ℕ) (t : Table) (log scratch : List ℕ) (h : Held) (log' scratch' : List ℕ) : Type 0 where
  pub roomy : Roomy h.room log scratch
  pub settled : AtLimit table t log' h scratch'
  pub log_left : log' ≡ filled (log_bytes (limit (saturated_in table))) log
  pub log_length : length log' ≡ length log
  pub scratch_length : length scratch' ≡ length scratch

-- or has no room for them, and is left zero
pub record NoneLeft (table : List ℕ) (n : ℕ) (log scratch log' scratch' : List ℕ) : Type 0 where
  pub over : n < length (limit (saturated_in table))
  pub log_left : log' ≡ zeros log
  pub scratch_left : scratch' ≡ zeros scratch

-- both calls are refused alike
pub record BothRefused (table log scratch : List ℕ) (r : Refusal) (log' scratch' : List ℕ) : Type 0 where
  pub answer : Answers (answer_call table log scratch) (Err r) log' scratch'
  pub run : (page : List ℕ) → Runs (run_call table log scratch page) (Err r) log' scratch' page

abbrev pub LogLeft : List ℕ → Table → List ℕ → List ℕ → Result Held Refusal → List ℕ → List ℕ → Type 0
LogLeft table t log scratch (Ok h) log' scratch' = LimitLeft table t log scratch h log' scratch'
LogLeft table t log scratch (Err r) log' scratch' = BothRefused table log scratch r log' scratch'
