-- Document 01, "Calls and what they leave": for each call one definition of what it gives and of the closing contents
-- of every lent buffer. What a call gives depends on its buffers by their lengths alone. The order of the checks: 1 to
-- 9; 15; then 10, 16, 11; in a walk 14 for the start pile and, at each step, 13, 12, 14.
use Rattle.std.specs.Prelude.{Bool, cond, false, true, ◌&&◌, ◌||◌, List, [], ◌∷◌, ◌++◌, ℕ, ◌+◌, ◌-◌, ◌*◌, ◌/◌, min, eqb, ltb, leb, length, replicate, take, Result, Ok, Err}
use Rattle.std.proofs.Math.Option.{Option, none, some}
use Rattle.std.proofs.Math.ListN.{get_elem?}
use Rattle.model.specs.declared.Ending.{Ending}
use Rattle.model.specs.declared.Refusal.{Refusal}
use Rattle.model.specs.declared.Run.{Run}
use Rattle.model.specs.declared.Verdict.{Verdict}
use Rattle.model.specs.Lists.{value_or}
use Rattle.model.specs.Groups.{Processes, at_each}
use Rattle.model.specs.Systems.{System, Rule, Configuration, fire, peak, accepts}
use Rattle.model.specs.Copies.{with_copy}
use Rattle.model.specs.Tables.{Reading, accepted, refused, read, system_of, saturated_of}
use Rattle.model.specs.Log.{Record, Path, limit, rounds, longest_run}
use Rattle.model.specs.Unfolding.{accepting_path, emitted, path_steps}
use Rattle.model.specs.Records.{record_length, log_bytes}
use Rattle.model.specs.Participation.{step_counts}

-- n: the number of whole records that a log of this length can hold, at most 65,535
abbrev pub capacity : ℕ → ℕ
capacity logLength = min (logLength / record_length) 65535

-- what check 15 asks of the scratch: of answer and run, for n records (request 2.4) and for a log of this length, and
-- of a walk
abbrev pub scratch_least : ℕ
scratch_least = 34000

abbrev pub scratch_per_record : ℕ
scratch_per_record = 10

abbrev pub scratch_for : ℕ → ℕ
scratch_for n = scratch_least + scratch_per_record * n

abbrev pub scratch_needed : ℕ → ℕ
scratch_needed logLength = scratch_for (capacity logLength)

abbrev pub walk_scratch : ℕ
walk_scratch = 2048

-- the start's path: the first accepting one in the limit
abbrev pub start_path : System → Option Path
start_path sys = accepting_path sys (limit sys) sys.start

-- a call that is refused by this check at this place
abbrev pub refuse : {A : Type 0} → ℕ → ℕ → Result A Refusal
refuse number place = Err (record { number = number; place = place })

-- the number of the check that refuses a call, 0 where none does
abbrev pub refused_by : {A : Type 0} → Result A Refusal → ℕ
refused_by (Ok x) = 0
refused_by (Err r) = r.number

-- and its place, 0 likewise
abbrev pub refused_at : {A : Type 0} → Result A Refusal → ℕ
refused_at (Ok x) = 0
refused_at (Err r) = r.place

-- ---- closing contents, by the number of the refusal, 0 where there is none
-- refusals 1 to 9 and 15 change no buffer
abbrev pub changes_nothing : ℕ → Bool
changes_nothing number = (leb 1 number && leb number 9) || eqb number 15

abbrev pub zeros : List ℕ → List ℕ
zeros buffer = replicate (length buffer) 0

-- contents, then zeros up to the buffer's length
abbrev pub filled : List ℕ → List ℕ → List ℕ
filled xs buffer = xs ++ replicate (length buffer - length xs) 0

-- later, scratch is left zero
unfoldable pub scratch_after : ℕ → List ℕ → List ℕ
scratch_after number scratch = cond (changes_nothing number) scratch (zeros scratch)

-- the log holds its records then zeros, all zeros after 10
unfoldable pub log_after : ℕ → List Record → List ℕ → List ℕ
log_after number records log =
    cond (changes_nothing number) log (cond (eqb number 10) (zeros log) (filled (log_bytes records) log))

-- the page holds the run then zeros, unchanged if refused
unfoldable pub page_after : ℕ → List ℕ → List ℕ → List ℕ
page_after number run page = cond (eqb number 0) (filled run page) page

-- the limit's records, and the run that the start's path unfolds into, of an accepted table
unfoldable pub records_of : Reading → List Record
records_of (refused number place) = []
records_of (accepted items) = limit (saturated_of items)

unfoldable pub run_of : Reading → List ℕ
run_of (refused number place) = []
run_of (accepted items) =
    value_or [] (λ (p : Path). emitted (limit (saturated_of items)) p.numbers) (start_path (saturated_of items))

-- ---- the answer call: table, log, scratch
-- the verdict with transitions, rounds and steps; unreachable has no steps
abbrev pub verdict : List Record → Option Path → Verdict
verdict log none = Verdict.Unreachable (length log) (rounds log)
verdict log (some p) = Verdict.Reachable (length log) (rounds log) (path_steps log p.numbers)

unfoldable pub answer_given : Reading → ℕ → ℕ → Result Verdict Refusal
answer_given (refused number place) logLength scratchLength = refuse number place
answer_given (accepted items) logLength scratchLength =
    cond (ltb scratchLength (scratch_needed logLength)) (refuse 15 0)
    (cond (ltb (capacity logLength) (length (limit (saturated_of items)))) (refuse 10 0)
    (Ok (verdict (limit (saturated_of items)) (start_path (saturated_of items)))))

pub record AnswerOutcome : Type 0 where
  pub answer : Result Verdict Refusal
  pub log : List ℕ
  pub scratch : List ℕ

unfoldable pub answer_call : List ℕ → List ℕ → List ℕ → AnswerOutcome
answer_call table log scratch =
    let given = answer_given (read table) (length log) (length scratch) in
    record {
      answer = given;
      log = log_after (refused_by given) (records_of (read table)) log;
      scratch = scratch_after (refused_by given) scratch;
    }

-- ---- the run call: table, log, scratch, page
-- 16, no run; 11, long run: steps exceed the page's length or 1,000,000
abbrev pub is_long : ℕ → ℕ → Bool
is_long steps pageLength = ltb pageLength steps || ltb longest_run steps

-- the run's figures, by its path in the limit: transitions, rounds and steps as the verdict has them, and the peak
abbrev pub run_found : System → List Record → Path → Run
run_found sys log p = record {
  transitions = length log;
  rounds = rounds log;
  steps = path_steps log p.numbers;
  peak = peak sys (emitted log p.numbers) sys.start;
}

abbrev pub run_verdict : System → ℕ → Option Path → Result Run Refusal
run_verdict sys pageLength none = refuse 16 0
run_verdict sys pageLength (some p) =
    cond (is_long (path_steps (limit (with_copy sys)) p.numbers) pageLength) (refuse 11 0)
    (Ok (run_found sys (limit (with_copy sys)) p))

unfoldable pub run_given : Reading → ℕ → ℕ → ℕ → Result Run Refusal
run_given (refused number place) logLength scratchLength pageLength = refuse number place
run_given (accepted items) logLength scratchLength pageLength =
    cond (ltb scratchLength (scratch_needed logLength)) (refuse 15 0)
    (cond (ltb (capacity logLength) (length (limit (saturated_of items)))) (refuse 10 0)
    (run_verdict (system_of items) pageLength (start_path (saturated_of items))))

pub record RunOutcome : Type 0 where
  pub answer : Result Run Refusal
  pub log : List ℕ
  pub scratch : List ℕ
  pub page : List ℕ

unfoldable pub run_call : List ℕ → List ℕ → List ℕ → List ℕ → RunOutcome
run_call table log scratch page =
    let given = run_given (read table) (length log) (length scratch) (length page) in
    record {
      answer = given;
      log = log_after (refused_by given) (records_of (read table)) log;
      scratch = scratch_after (refused_by given) scratch;
      page = page_after (refused_by given) (run_of (read table)) page;
    }

-- ---- the walk call: table, list of rule numbers, pile, scratch
-- what a walk comes to: what it gives, the part of the caller's list that it hands back, and the pile that its buffer
-- holds; none leaves the buffer unchanged
pub record Halt : Type 0 where
  pub answer : Result Ending Refusal
  pub rest : List ℕ
  pub pile : Option (List ℕ)

-- refused before the first step
abbrev pub halt_before : ℕ → ℕ → Halt
halt_before number place = record { answer = refuse number place; rest = []; pile = none }

-- refused at a step: the list from there on, and the pile before that step
abbrev pub halt_at : ℕ → ℕ → List ℕ → Configuration → Halt
halt_at number step list c = record { answer = refuse number step; rest = list; pile = some c.word }

-- at the list's end: end states, pile length, watched or not
abbrev pub halt_end : System → Configuration → Halt
halt_end sys c =
    record {
      answer = Ok (record {
        states = c.states;
        length = length c.word;
        watched = accepts sys.loc sys.transitions sys.accepting c.word c.states;
      });
      rest = [];
      pile = some c.word;
    }

-- a step is checked by 13, 12 and 14; `go` is the walk from where it leads
abbrev pub step_to : (Configuration → Halt) → ℕ → ℕ → List ℕ → Configuration → Option Configuration → Halt
step_to go pileLength step list c none = halt_at 12 step list c
step_to go pileLength step list c (some d) = cond (ltb pileLength (length d.word)) (halt_at 14 step list c) (go d)

abbrev pub step_by : (Configuration → Halt) → (ℕ → Processes) → ℕ → ℕ → List ℕ → Configuration → Option Rule → Halt
step_by go loc pileLength step list c none = halt_at 13 step list c
step_by go loc pileLength step list c (some r) = step_to go pileLength step list c (fire loc r c)

-- `step` is the number of rules fired so far
abbrev pub walk_from : System → ℕ → ℕ → List ℕ → Configuration → Halt
walk_from sys pileLength step [] c = halt_end sys c
walk_from sys pileLength step (n ∷ ns) c =
    step_by (λ d. walk_from sys pileLength (step + 1) ns d) sys.loc pileLength step (n ∷ ns) c
    (get_elem? sys.rules n)

unfoldable pub walk_given : Reading → List ℕ → ℕ → ℕ → Halt
walk_given (refused number place) list pileLength scratchLength = halt_before number place
walk_given (accepted items) list pileLength scratchLength =
    cond (ltb scratchLength walk_scratch) (halt_before 15 0)
    (cond (ltb pileLength (length (system_of items).start.word)) (halt_before 14 0)
    (walk_from (system_of items) pileLength 0 list (system_of items).start))

-- request 2.5: the rules of the list that were fired, all where the walk ended, else those before the refused step. The
-- place of a refusal before the first step is 0.
abbrev pub fired_rules : List ℕ → Result Ending Refusal → List ℕ
fired_rules list (Ok end) = list
fired_rules list (Err r) = take r.place list

-- "A walk gives, for each station, the number of steps it took part in"; a table that is refused has no steps
unfoldable pub walk_counts : Reading → List ℕ → Result Ending Refusal → List ℕ
walk_counts (refused number place) list answer = at_each (λ i. 0)
walk_counts (accepted items) list answer = step_counts (system_of items) (fired_rules list answer)

pub record WalkOutcome : Type 0 where
  pub answer : Result Ending Refusal
  pub counts : List ℕ
  pub rest : List ℕ
  pub pile : List ℕ
  pub scratch : List ℕ

unfoldable pub walk_call : List ℕ → List ℕ → List ℕ → List ℕ → WalkOutcome
walk_call table list pile scratch =
    let halt = walk_given (read table) list (length pile) (length scratch) in
    record {
      answer = halt.answer;
      counts = walk_counts (read table) list halt.answer;
      rest = halt.rest;
      pile = value_or pile (λ (w : List ℕ). filled w pile) halt.pile;
      scratch = scratch_after (refused_by halt.answer) scratch;
    }

-- ---- document 01's number and values for every case: the refusal's number or 0, its place or 0, then the values, 0
-- where a case has none
-- the verdict, 1 reachable and 2 unreachable, so that 0 is no verdict; transitions, rounds, steps
abbrev pub answer_figures : Result Verdict Refusal → List ℕ
answer_figures (Ok (Verdict.Reachable t r s)) = 0 ∷ 0 ∷ 1 ∷ t ∷ r ∷ s ∷ []
answer_figures (Ok (Verdict.Unreachable t r)) = 0 ∷ 0 ∷ 2 ∷ t ∷ r ∷ 0 ∷ []
answer_figures (Err r) = r.number ∷ r.place ∷ 0 ∷ 0 ∷ 0 ∷ 0 ∷ []

-- the verdict, 1, transitions, rounds, steps, peak
abbrev pub run_figures : Result Run Refusal → List ℕ
run_figures (Ok x) = 0 ∷ 0 ∷ 1 ∷ x.transitions ∷ x.rounds ∷ x.steps ∷ x.peak ∷ []
run_figures (Err r) = r.number ∷ r.place ∷ 0 ∷ 0 ∷ 0 ∷ 0 ∷ 0 ∷ []

-- watched, 1, or not, 2, so that 0 is no answer; pile length, end states
abbrev pub watched_figure : Bool → ℕ
watched_figure true = 1
watched_figure false = 2

abbrev pub walk_figures : Result Ending Refusal → List ℕ
walk_figures (Ok x) =
    0 ∷ 0 ∷ watched_figure x.watched ∷ x.length ∷ x.states.s0 ∷ x.states.s1 ∷ x.states.s2 ∷ x.states.s3 ∷ []
walk_figures (Err r) = r.number ∷ r.place ∷ 0 ∷ 0 ∷ 0 ∷ 0 ∷ 0 ∷ 0 ∷ []
