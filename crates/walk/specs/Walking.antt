-- What the parts of a walk come to, as the definition of the whole call has it.
use Rattle.std.specs.Prelude.{◌≡◌, false, List, ◌++◌, ℕ, ◌+◌, ◌*◌, ◌≤◌, length, drop, Option, Some, None, Result, Ok, Err}
use Rattle.model.specs.declared.Ending.{Ending}
use Rattle.model.specs.declared.Refusal.{Refusal}
use Rattle.model.specs.Calls.{Halt, WalkOutcome, changes_nothing, filled, fired_rules, halt_end, refuse, refused_by}
use Rattle.model.specs.Calls.{scratch_after, walk_figures}
use Rattle.model.specs.Groups.{at_each}
use Rattle.model.specs.Lists.{value_or}
use Rattle.model.specs.Participation.{step_counts}
use Rattle.model.specs.Systems.{System, Configuration}
use Rattle.table.specs.declared.Table.{Table}
use Rattle.table.specs.Reading.{system_in}
use Rattle.firing.specs.Piles.{configuration}
use Rattle.steps.specs.Stepping.{InShape}
use Rattle.walk.specs.declared.Stop.{Stop}
use Rattle.walk.specs.declared.Halted.{Halted}

-- ---- all steps
-- the answer at the list's end, or the refusal at a step
abbrev pub answer_or : Result Ending Refusal → Option ℕ → ℕ → Result Ending Refusal
answer_or end None step = end
answer_or end (Some number) step = refuse number step

-- what the walk gives where it stopped
abbrev pub answer_at : System → Stop → Configuration → Result Ending Refusal
answer_at sys s c = answer_or (halt_end sys c).answer s.refusal s.at

-- where the walk stopped: the answer, the counts of the rules fired, the rest of the list, and the word there
pub record Stopped (table : List ℕ) (t : Table) (list : List ℕ) (h : Halt) (pile' : List ℕ) (s : Stop) : Type 0 where
  pub shape : InShape t pile' s.placed
  pub late : changes_nothing (refused_by h.answer) ≡ false
  pub inside : s.at ≤ length list
  pub rest : drop s.at list ≡ h.rest
  pub answer : answer_at (system_in table) s (configuration pile' s.placed) ≡ h.answer
  pub counts : s.counts ≡ step_counts (system_in table) (fired_rules list h.answer)
  pub word : (pile : List ℕ)
      → value_or pile (λ (w : List ℕ). filled w pile) h.pile ≡ filled (drop s.placed.top pile') pile

-- ---- the call
-- refused before the first step, with a list of n rules: the part handed back begins at its end
abbrev pub halted_before : Refusal → ℕ → Halted
halted_before r n = record { answer = Err r; counts = at_each (λ i. 0); from = n }

-- the outcome of a walk of the list that came to h
unfoldable pub outcome_of : System → List ℕ → Halt → List ℕ → List ℕ → WalkOutcome
outcome_of sys list h pile scratch = record {
  answer = h.answer;
  counts = step_counts sys (fired_rules list h.answer);
  rest = h.rest;
  pile = value_or pile (λ (w : List ℕ). filled w pile) h.pile;
  scratch = scratch_after (refused_by h.answer) scratch;
}

-- the answer, the counts, and where the part begins that is handed back
pub record Halts (o : WalkOutcome) (list : List ℕ) (r : Halted) (pile' scratch' : List ℕ) : Type 0 where
  pub answer : r.answer ≡ o.answer
  pub counts : r.counts ≡ o.counts
  pub inside : r.from ≤ length list
  pub rest : drop r.from list ≡ o.rest
  pub pile : pile' ≡ o.pile
  pub scratch : scratch' ≡ o.scratch

-- the same of a walk that may be refused before its first step
abbrev pub HaltsOr : WalkOutcome → List ℕ → Result Halted Refusal → List ℕ → List ℕ → Type 0
HaltsOr o list (Ok r) pile' scratch' = Halts o list r pile' scratch'
HaltsOr o list (Err r) pile' scratch' = Halts o list (halted_before r (length list)) pile' scratch'

-- "hands back the part of the caller's list that begins there": so many numbers of two bytes behind the list's place,
-- which is a block of memory and the bytes before it there
abbrev pub place_in : ℕ × ℕ → ℕ → ℕ × ℕ
place_in list n = (list.0, list.1 + n * 2)

-- the figures with the counts behind them, the part handed back, and the closing contents of both buffers
pub record Walks (o : WalkOutcome) (f r p s : List ℕ) : Type 0 where
  pub figures : f ≡ walk_figures o.answer ++ o.counts
  pub rest : r ≡ o.rest
  pub pile : p ≡ o.pile
  pub scratch : s ≡ o.scratch
