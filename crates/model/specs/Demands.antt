-- Demands 2 and 3 of the mission and request 2.5, as statements about what the calls give and leave. Demand 1 is the
-- definitions of Calls.
use Rattle.std.specs.Prelude.{◌≡◌, true, false, ◌||◌, ◌⊎◌, ◌↔◌, List, ℕ, ◌-◌, ◌*◌, ◌≤◌, ◌<◌, min, eqb, length, take, drop, replicate, get_or, Result, Ok, Err}
use Rattle.std.proofs.Math.Option.{none, some}
use Rattle.std.proofs.Math.ListN.{get_elem?}
use Rattle.model.specs.declared.Refusal.{Refusal}
use Rattle.model.specs.declared.Run.{Run}
use Rattle.model.specs.declared.Verdict.{Verdict}
use Rattle.model.specs.Groups.{at_each}
use Rattle.model.specs.Automata.{Transition}
use Rattle.model.specs.Saturation.{Delta}
use Rattle.model.specs.Systems.{System, Rule, Configuration, Step, Steps, Accepted, Joins, PeakIs, fire, peak}
use Rattle.model.specs.Copies.{with_copy}
use Rattle.model.specs.Tables.{Item, accepted, read, system_of, saturated_of, group_of}
use Rattle.model.specs.Log.{Path, limit, rounds, steps_cap, longest_run}
use Rattle.model.specs.Unfolding.{Unfolds}
use Rattle.model.specs.Records.{record_length, key_at, round_at}
use Rattle.model.specs.Participation.{step_counts}
use Rattle.model.specs.Calls.{capacity, changes_nothing, filled, refuse, scratch_needed, start_path, walk_scratch}

-- the table is accepted, and P holds of the system that it describes
abbrev pub Describes : List ℕ → (System → Type 0) → Type 0
Describes table P = (items : List Item) × (read table ≡ accepted items) × P (system_of items)

-- ---- demand 2, of the log: the closing bytes hold each transition of the limit automaton and only those, each in the
-- round in which the paper first adds it. There are as many records as the limit has transitions.
pub record Demand2 (log : List ℕ) (sys : System) : Type 0 where
  pub room : length (limit sys) * record_length ≤ length log
  -- δ has a record's transition at the record's round, and at no earlier one
  pub first : (n : ℕ) → n < length (limit sys)
      → Delta sys (round_at log n) (key_at log n) × ((k : ℕ) → k < round_at log n → Delta sys k (key_at log n) → ⊥)
  -- each transition of any δ(k) has a record, and no two records have the same
  pub whole : (k : ℕ) (t : Transition) → Delta sys k t → (n : ℕ) × (n < length (limit sys)) × (key_at log n ≡ t)
  pub once : (m n : ℕ) → m < n → n < length (limit sys) → key_at log m ≡ key_at log n → ⊥
  -- behind them zeros
  pub behind : drop (length (limit sys) * record_length) log
      ≡ replicate (length log - length (limit sys) * record_length) 0

-- wherever the refusal's number, 0 if there is none, tells neither of a log that is untouched (1 to 9, 15) nor of one
-- that is too short (10)
abbrev pub LogHolds : List ℕ → ℕ → List ℕ → Type 0
LogHolds table number log =
    (changes_nothing number || eqb number 10) ≡ false → Describes table (λ (sys : System). Demand2 log (with_copy sys))

-- ---- demand 2, of a walk: it moves exactly as the paper's systems step
-- Not refused: the paper's steps lead from the start by the rules of the list to a configuration whose states and word
-- are those given, in the figures and in the pile, and the watched figure is 1 exactly if the table's automaton accepts
-- it, 2 exactly if not.
pub record WalkedTo (list figures pile : List ℕ) (sys : System) : Type 0 where
  pub end : Configuration
  pub steps : Steps sys list sys.start end
  pub states : group_of figures 4 ≡ end.states
  pub word : take (get_or figures 3 0) pile ≡ end.word
  pub watched : (get_or figures 2 0 ≡ 1) ↔ Accepted sys end
  pub unwatched : (get_or figures 2 0 ≡ 2) ↔ (Accepted sys end → ⊥)

-- Refused at step k: the paper's steps lead by the rules before it to a configuration whose word the pile holds, then
-- zeros, and where the rule of step k is refused because of P.
pub record StoppedAt (list pile : List ℕ) (k : ℕ) (P : System → ℕ → Configuration → Type 0)
    (sys : System) : Type 0 where
  pub inside : k < length list
  pub at : Configuration
  pub steps : Steps sys (take k list) sys.start at
  pub word : pile ≡ filled at.word pile
  pub why : P sys (get_or list k 0) at

-- 13: there is no rule of this number
abbrev pub NoRule : System → ℕ → Configuration → Type 0
NoRule sys n c = get_elem? sys.rules n ≡ none

-- 12: Definition 4 has no step by it from here
abbrev pub NoStep : System → ℕ → Configuration → Type 0
NoStep sys n c = (r : Rule) × (get_elem? sys.rules n ≡ some r) × ((d : Configuration) → Step sys.loc r c d → ⊥)

-- 14: it has one, and the word there is longer than the buffer
abbrev pub NoRoom : ℕ → System → ℕ → Configuration → Type 0
NoRoom size sys n c =
    (r : Rule) × (get_elem? sys.rules n ≡ some r) × (d : Configuration) × (fire sys.loc r c ≡ some d)
    × Step sys.loc r c d × (size < length d.word)

-- by the figures: the refusal's number, or 0, and its place; `scratch` is what was lent
pub record Demand2Walk (table list scratch figures pile : List ℕ) : Type 0 where
  pub reached : get_or figures 0 0 ≡ 0 → Describes table (WalkedTo list figures pile)
  pub no_rule : get_or figures 0 0 ≡ 13 → Describes table (StoppedAt list pile (get_or figures 1 0) NoRule)
  pub idle : get_or figures 0 0 ≡ 12 → Describes table (StoppedAt list pile (get_or figures 1 0) NoStep)
  -- 14 is also said of a start pile that is longer than the buffer
  pub full : get_or figures 0 0 ≡ 14
      → Describes table
      (λ (sys : System). (length pile < length sys.start.word)
      ⊎ StoppedAt list pile (get_or figures 1 0) (NoRoom (length pile)) sys)
  -- an accepted table and a scratch that serves are refused by nothing else
  pub judged : (items : List Item) → read table ≡ accepted items → walk_scratch ≤ length scratch
      → (get_or figures 0 0 ≡ 0) ⊎ ((12 ≤ get_or figures 0 0) × (get_or figures 0 0 ≤ 14))

-- ---- request 2.5, of a walk, by its refusal's number, or 0, and the place: for each process the number of steps that
-- it took part in. They are the rules of the list; "A walk refused at a step gives the counts of the steps before it,
-- beside its refusal."
pub record TookPart (table list : List ℕ) (number place : ℕ) (counts : List ℕ) : Type 0 where
  pub ended : number ≡ 0 → Describes table (λ (sys : System). counts ≡ step_counts sys list)
  pub stopped : 12 ≤ number → number ≤ 14
      → Describes table (λ (sys : System). counts ≡ step_counts sys (take place list))
  -- 1 to 9 and 15
  pub no_step : changes_nothing number ≡ true → counts ≡ at_each (λ i. 0)

-- ---- demand 3
-- some run joins the start and the watched set; no finite run does, of any length, with piles of any height
abbrev pub SomeRun : System → Type 0
SomeRun sys = (ns : List ℕ) × Joins sys sys.start ns

abbrev pub NoRun : System → Type 0
NoRun sys = (ns : List ℕ) → Joins sys sys.start ns → ⊥

-- the steps that document 01 counts, before the cap: the number of rules emitted for the start's path
pub record StepsCounted (sys : System) (n : ℕ) : Type 0 where
  pub path : Path
  pub is : start_path sys ≡ some path
  pub run : List ℕ
  pub unfolds : Unfolds (limit sys) path.numbers run
  pub counted : length run ≡ n

-- steps exceed the page's length or 1,000,000
abbrev pub TooLong : ℕ → List ℕ → Type 0
TooLong n page = (length page < n) ⊎ (longest_run < n)

-- the premises: the scratch is long enough, and the log can hold the limit automaton's transitions, which are at most
-- 65,535
abbrev pub ScratchServes : List ℕ → List ℕ → Type 0
ScratchServes log scratch = scratch_needed (length log) ≤ length scratch

abbrev pub LogServes : System → List ℕ → Type 0
LogServes sys log = length (limit sys) ≤ capacity (length log)

abbrev pub LogShort : System → List ℕ → Type 0
LogShort sys log = capacity (length log) < length (limit sys)

-- the first premise holds and the second fails
abbrev pub ShortLog : List ℕ → List ℕ → List ℕ → Type 0
ShortLog table log scratch =
    (items : List Item) × (read table ≡ accepted items) × ScratchServes log scratch × LogShort (saturated_of items) log

-- What the calls give under both premises. `sys` is the table's own system, so a run ends in the set that the table
-- itself accepts; request 2.6: "Transitions, rounds and log are those of the copied automaton". `left` is what the page
-- holds after the run call.
pub record Decided (sys : System) (page : List ℕ) (answer : Result Verdict Refusal) (ran : Result Run Refusal)
    (left : List ℕ) : Type 0 where
  -- the answer call says "unreachable" exactly when no finite run joins them, and else "reachable"
  pub unreachable : NoRun sys
      ↔ (answer ≡ Ok (Verdict.Unreachable (length (limit (with_copy sys))) (rounds (limit (with_copy sys)))))
  pub reachable : SomeRun sys
      ↔ ((n : ℕ) × StepsCounted (with_copy sys) n
      × (answer
      ≡ Ok (Verdict.Reachable (length (limit (with_copy sys))) (rounds (limit (with_copy sys))) (min n steps_cap))))
  -- where one does, the run call is refused as long exactly when the steps exceed the page's length or 1,000,000
  pub long : (n : ℕ) → StepsCounted (with_copy sys) n → TooLong n page ↔ (ran ≡ refuse 11 0)
  -- else it gives the answer call's figures, and the page's first places, as many as the steps, hold a run that joins
  -- them
  pub given : (n : ℕ) (c : StepsCounted (with_copy sys) n) → (TooLong n page → ⊥)
      → (ran
      ≡ Ok (record {
        transitions = length (limit (with_copy sys));
        rounds = rounds (limit (with_copy sys));
        steps = n;
        peak = peak sys c.run sys.start;
      }))
      × (answer ≡ Ok (Verdict.Reachable (length (limit (with_copy sys))) (rounds (limit (with_copy sys))) n))
      × Joins sys sys.start (take n left)
  -- where none does, the run call is refused for having no run
  pub no_run : NoRun sys ↔ (ran ≡ refuse 16 0)

-- whatever log, scratch and page held before
pub record Demand3 (table log scratch page : List ℕ) (answer : Result Verdict Refusal) (ran : Result Run Refusal)
    (left : List ℕ) : Type 0 where
  pub decided : (items : List Item) → read table ≡ accepted items → ScratchServes log scratch
      → LogServes (saturated_of items) log → Decided (system_of items) page answer ran left
  -- where the first premise holds and the second fails, both calls are refused for a short log, and nowhere else
  pub answer_short : ShortLog table log scratch ↔ (answer ≡ refuse 10 0)
  pub run_short : ShortLog table log scratch ↔ (ran ≡ refuse 10 0)

-- ---- the word alone, with no premise: what an answer tells of the table, and what a run call that was not refused
-- leaves on the page, with its peak
abbrev pub Tells : List ℕ → Result Verdict Refusal → Type 0
Tells table (Ok (Verdict.Unreachable t r)) = Describes table NoRun
Tells table (Ok (Verdict.Reachable t r s)) = Describes table SomeRun
Tells table (Err r) = 1 ≤ r.number

abbrev pub Writes : List ℕ → List ℕ → Result Run Refusal → Type 0
Writes table left (Ok x) =
    Describes table
    (λ (sys : System). Joins sys sys.start (take x.steps left) × PeakIs sys (take x.steps left) sys.start x.peak)
Writes table left (Err r) = 1 ≤ r.number
