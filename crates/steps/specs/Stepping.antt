-- What one step of a walk comes to, as the definition of the whole call has it.
use Rattle.std.specs.Prelude.{◌≡◌, false, List, ◌++◌, ◌∷◌, ℕ, ◌+◌, ◌-◌, ◌≤◌, eqb, length, take, Result, Ok, Err}
use Rattle.model.specs.Calls.{changes_nothing, halt_at, walk_from}
use Rattle.model.specs.Groups.{process_bits, processes_of}
use Rattle.model.specs.Participation.{rule_processes, with_step}
use Rattle.model.specs.Systems.{System, fire}
use Rattle.states.specs.StateNumbers.{Over}
use Rattle.table.specs.declared.Table.{Table}
use Rattle.table.specs.Reading.{rule_in, system_in}
use Rattle.table.specs.Present.{present_in}
use Rattle.firing.specs.declared.Fired.{Fired}
use Rattle.model.specs.declared.Placed.{Placed}
use Rattle.firing.specs.Piles.{Stands, configuration, fired_pile}

-- a configuration that stands in the pile, of the table's letters and processes
pub record InShape (t : Table) (pile : List ℕ) (c : Placed) : Type 0 where
  pub stands : Stands t.letters pile c
  pub over : Over (present_in t) c.states

-- ---- the start
-- its word stands at the buffer's end; the bytes before it are as they were
pub record StartPlaced (table : List ℕ) (t : Table) (pile pile' : List ℕ) (r : Placed) : Type 0 where
  pub start : configuration pile' r ≡ (system_in table).start
  pub inside : r.top ≤ length pile'
  pub leaves : pile' ≡ take (length pile - t.pile) pile ++ (system_in table).start.word

-- ---- one step
-- refused by the number: neither 0 nor one that changes no buffer, and the pile is unchanged
pub record StepRefused (sys : System) (n : ℕ) (c : Placed) (pile pile' : List ℕ) (number : ℕ) : Type 0 where
  pub numbered : eqb number 0 ≡ false
  pub late : changes_nothing number ≡ false
  pub leaves : pile' ≡ pile
  pub halt : (step : ℕ) (ns : List ℕ)
      → walk_from sys (length pile) step (n ∷ ns) (configuration pile c)
      ≡ halt_at number step (n ∷ ns) (configuration pile c)

-- fired: the walk goes on from the configuration after it, whose word stands at the buffer's end, the bytes before it
-- as they were; and the processes that took part are told
pub record StepTaken (table : List ℕ) (t : Table) (n : ℕ) (c : Placed) (f : Fired) (pile pile' : List ℕ) : Type 0 where
  pub shape : InShape t pile' f.placed
  pub size : length pile' ≡ length pile
  pub onward : (step : ℕ) (ns : List ℕ)
      → walk_from (system_in table) (length pile) step (n ∷ ns) (configuration pile c)
      ≡ walk_from (system_in table) (length pile) (step + 1) ns (configuration pile' f.placed)
  pub leaves : pile' ≡ fired_pile pile (fire (system_in table).loc (rule_in table n) (configuration pile c))
  pub tells : f.processes ≡ process_bits (rule_processes (system_in table) n)

abbrev pub StepTo : List ℕ → Table → ℕ → Placed → List ℕ → List ℕ → Result Fired ℕ → Type 0
StepTo table t n c pile pile' (Err number) = StepRefused (system_in table) n c pile pile' number
StepTo table t n c pile pile' (Ok f) = StepTaken table t n c f pile pile'

-- the counts after it: a step more for each process that took part, and as they were where it is refused
abbrev pub counts_by : Result Fired ℕ → ℕ → List ℕ → List ℕ
counts_by (Err number) ceiling counts = counts
counts_by (Ok f) ceiling counts = with_step ceiling (processes_of f.processes) counts
