-- What the calls for C and Rust leave: the 16 figures of the answer, and each lent buffer as the call's outcome has it.
use Rattle.std.specs.Prelude.{◌≡◌, ◌↔◌, List, [], ◌∷◌, ◌++◌, ℕ, ◌-◌, ◌≤◌, length, get_or, take, replicate, Result}
use Rattle.model.specs.declared.Refusal.{Refusal}
use Rattle.model.specs.declared.Run.{Run}
use Rattle.model.specs.declared.Verdict.{Verdict}
use Rattle.model.specs.Systems.{System, Joins, PeakIs, peak}
use Rattle.model.specs.Tables.{Item, accepted, read, saturated_of, system_of}
use Rattle.model.specs.Log.{limit, rounds}
use Rattle.model.specs.Calls.{AnswerOutcome, RunOutcome, WalkOutcome, answer_call, run_call, answer_figures, run_figures}
use Rattle.model.specs.Calls.{walk_figures}
use Rattle.model.specs.Demands.{Describes, NoRun, SomeRun, StepsCounted, TooLong, ScratchServes, LogServes, ShortLog}
use Rattle.model.specs.Demands.{Demand3}

-- figures are 16 numbers; places that a case does not name are 0
abbrev pub sixteen : List ℕ → List ℕ
sixteen values = values ++ replicate (16 - length values) 0

pub record AnswerLeaves (o : AnswerOutcome) (f l s : List ℕ) : Type 0 where
  pub figures : f ≡ sixteen (answer_figures o.answer)
  pub log : l ≡ o.log
  pub scratch : s ≡ o.scratch

pub record RunLeaves (o : RunOutcome) (f l s p : List ℕ) : Type 0 where
  pub figures : f ≡ sixteen (run_figures o.answer)
  pub log : l ≡ o.log
  pub scratch : s ≡ o.scratch
  pub page : p ≡ o.page

-- the walk's figures, then where the part handed back begins in the list of n rules, then its counts
pub record WalkLeaves (o : WalkOutcome) (n : ℕ) (f p s : List ℕ) : Type 0 where
  pub figures : f ≡ sixteen (walk_figures o.answer ++ ((n - length o.rest) ∷ o.counts))
  pub pile : p ≡ o.pile
  pub scratch : s ≡ o.scratch

-- ---- demand 3, as a program that reads figures sees it
-- Figure 2 tells whether some run joins the start and the watched set of an accepted table: 1 that one does, 2 that
-- none does. It is 0 where there is no verdict, so that it says this alone, without figure 0.
abbrev pub Says : ℕ → List ℕ → Type 0
Says verdict f = get_or f 2 0 ≡ verdict

pub record Word (table f : List ℕ) : Type 0 where
  pub unreachable : Says 2 f → Describes table NoRun
  pub reachable : Says 1 f → Describes table SomeRun
  pub refused : Says 0 f ↔ (1 ≤ get_or f 0 0)

-- Where the run call was not refused, the page's first places, as many as figure 5 says, hold a run that joins them,
-- and figure 6 is its peak.
pub record RunWord (table f page : List ℕ) : Type 0 where
  pub joins : get_or f 0 0 ≡ 0
      → Describes table
      (λ (sys : System). Joins sys sys.start (take (get_or f 5 0) page)
      × PeakIs sys (take (get_or f 5 0) page) sys.start (get_or f 6 0))

-- both premises of demand 3
pub record Premises (table log scratch : List ℕ) (items : List Item) : Type 0 where
  pub reads : read table ≡ accepted items
  pub serves : ScratchServes log scratch
  pub holds : LogServes (saturated_of items) log

-- The answer behind the figures meets demand 3; so, in figures, under both premises: verdict 2 exactly if no run joins
-- the start and the watched set, 1 exactly if one does; and 10 exactly where the second premise fails.
pub record AnswerDemand (table log scratch f : List ℕ) : Type 0 where
  pub answer : Result Verdict Refusal
  pub behind : f ≡ sixteen (answer_figures answer)
  pub demand : (page : List ℕ)
      → Demand3 table log scratch page answer (run_call table log scratch page).answer
      (run_call table log scratch page).page
  pub unreachable : (items : List Item) → Premises table log scratch items → NoRun (system_of items) ↔ Says 2 f
  pub reachable : (items : List Item) → Premises table log scratch items → SomeRun (system_of items) ↔ Says 1 f
  pub short : ShortLog table log scratch ↔ (get_or f 0 0 ≡ 10)

-- Likewise of a run: 16 exactly if no run joins them, 11 exactly if the steps exceed the page or 1,000,000; else the
-- figures, and a run on the page.
pub record RunDemand (table log scratch page f left : List ℕ) : Type 0 where
  pub answer : Result Run Refusal
  pub behind : f ≡ sixteen (run_figures answer)
  pub demand : Demand3 table log scratch page (answer_call table log scratch).answer answer left
  pub no_run : (items : List Item) → Premises table log scratch items → NoRun (system_of items) ↔ (get_or f 0 0 ≡ 16)
  pub long : (items : List Item) → Premises table log scratch items → (n : ℕ) → StepsCounted (saturated_of items) n
      → TooLong n page ↔ (get_or f 0 0 ≡ 11)
  pub given : (items : List Item) → Premises table log scratch items → (n : ℕ) (c : StepsCounted (saturated_of items) n)
      → (TooLong n page → ⊥)
      → (f ≡ sixteen
      (0 ∷ 0 ∷ 1 ∷ length (limit (saturated_of items)) ∷ rounds (limit (saturated_of items)) ∷ n
      ∷ peak (system_of items) c.run (system_of items).start ∷ []))
      × Joins (system_of items) (system_of items).start (take n left)
  pub short : ShortLog table log scratch ↔ (get_or f 0 0 ≡ 10)
