-- What the calls give is their outcome.
use mathlib.Core.Path.{◌∙◌, ◌≡◌, ap, refl, sym}
use mathlib.Core.Bool.{false}
use mathlib.Core.Option.{Option, none, some}
use mathlib.Core.List.{List}
use Prim.Native.Nat.{◌<◌, ◌≤◌, ℕ}
use native.Mathlib.Omega.{arith}
use lib.Dec.{eqb}
use lib.ListN.{length}
use borrow.Author.Tests.{le-ltb, lt-ltb, ne_eqb}
use Rattle.std.specs.Prelude.{Result, Ok, Err}
use Rattle.model.specs.declared.Refusal.{Refusal}
use Rattle.model.specs.declared.Run.{Run}
use Rattle.model.specs.declared.Verdict.{Verdict}
use Rattle.model.specs.Calls.{answer_call, answer_given, capacity, changes_nothing, is_long, log_after, page_after, records_of, refused_by, run_call, run_given, run_of, run_verdict, scratch_after, scratch_for, scratch_needed, start_path, verdict, zeros}
use Rattle.model.specs.Demands.{Demand3, LogHolds}
use Rattle.model.specs.Copies.{with_copy}
use Rattle.model.specs.Log.{Path, limit}
use Rattle.model.specs.Systems.{System}
use Rattle.model.specs.Tables.{Reading, read}
use Rattle.model.specs.Unfolding.{path_steps}
use Rattle.model.proofs.Closing.{refusal_changes_nothing, refusal_number, zeros_same}
use Rattle.model.proofs.Main.{demand_2_answer, demand_2_run, demand_3}
use Rattle.model.proofs.Tests.{by_test}
use Rattle.table.specs.declared.Table.{Table}
use Rattle.table.specs.Reading.{Holds, parsed, saturated_in, system_in}
use Rattle.table.proofs.Readings.{holds_read, refused_reading}
use Rattle.verdict.specs.Verdicts.{RunLeft, start_run}
use Rattle.reach.specs.Outcomes.{Answers, BothRefused, LimitLeft, NoneLeft, Runs}
use Rattle.verdict.specs.declared.Held.{Held}

-- what a call that gives this number leaves in the log and the scratch
abbrev Left : List ℕ → List ℕ → List ℕ → ℕ → List ℕ → List ℕ → Type 0
Left table log scratch number log' scratch' = (log' ≡ log_after number (records_of (read table)) log) × (scratch' ≡ scratch_after number scratch)

module _ (table log scratch : List ℕ) {log' scratch' : List ℕ} {x : Reading} (reading : read table ≡ x) where
  answers : {r : Result Verdict Refusal} → answer_given x (length log) (length scratch) ≡ r → Left table log scratch (refused_by r) log' scratch' → Answers (answer_call table log scratch) r log' scratch'
  unfolding answer_call
  answers given l = rw (ap (λ (y : Reading). answer_given y (length log) (length scratch)) reading ∙ given) (record { answer = refl; figures = refl; log_left = l.0; scratch_left = l.1 })

  runs : (page : List ℕ) {page' : List ℕ} {r : Result Run Refusal} → run_given x (length log) (length scratch) (length page) ≡ r → Left table log scratch (refused_by r) log' scratch'
      → page' ≡ page_after (refused_by r) (run_of (read table)) page → Runs (run_call table log scratch page) r log' scratch' page'
  unfolding run_call
  runs page given l p = rw (ap (λ (y : Reading). run_given y (length log) (length scratch) (length page)) reading ∙ given)
      (record { answer = refl; figures = refl; log_left = l.0; scratch_left = l.1; page_left = p })

-- ---- a verdict changes all that a call may change
abbrev Late : ℕ → Type 0
Late number = (changes_nothing number ≡ false) × (eqb number 10 ≡ false)

-- its numbers are 0, 11 and 16
run_late : (sys : System) (size : ℕ) (p : Option Path) → Late (refused_by (run_verdict sys size p))
run_late sys size none = (refl, refl)
run_late sys size (some p) = by_test (is_long (path_steps (limit (with_copy sys)) p.numbers) size) (λ y. rw y (refl, refl)) (λ m. rw m (refl, refl))

-- ---- an accepted table
module _ {table : List ℕ} {t : Table} (holds : Holds table t) {log scratch : List ℕ} where
  module _ {n : ℕ} (e : n ≡ capacity (length log)) where
    pub short_refused : length scratch < scratch_for n → BothRefused table log scratch (record { number = 15; place = 0 }) log scratch
    unfolding answer_given run_given log_after scratch_after page_after
    short_refused h =
        let low = lt-ltb (length scratch) (scratch_needed (length log)) (omega arith) in
        record {
          answer = answers table log scratch (holds_read table t holds) (rw low) (refl, refl);
          run = λ page. runs table log scratch (holds_read table t holds) page (rw low) (refl, refl) refl;
        }

    pub full_refused : scratch_for n ≤ length scratch → {log' scratch' : List ℕ} → NoneLeft table n log scratch log' scratch'
        → BothRefused table log scratch (record { number = 10; place = 0 }) log' scratch'
    unfolding answer_given run_given log_after scratch_after page_after system_in
    full_refused long l =
        let served = le-ltb (length scratch) (scratch_needed (length log)) (omega arith) in
        let over = lt-ltb (capacity (length log)) (length (limit (saturated_in table))) (omega (arith, l.over)) in
        record {
          answer = answers table log scratch (holds_read table t holds) (rw (served, over)) (l.log_left, l.scratch_left);
          run = λ page. runs table log scratch (holds_read table t holds) page (rw (served, over)) (l.log_left, l.scratch_left) refl;
        }

  module _ {h : Held} {log' scratch₁ : List ℕ} (l : LimitLeft table t log scratch h log' scratch₁) where
    few : length (limit (saturated_in table)) ≤ capacity (length log)
    few = omega (arith, l.roomy.log_room, l.settled.log_of.size, l.settled.linked.room.fits)

    served : scratch_needed (length log) ≤ length scratch
    served = omega (arith, l.roomy.log_room, l.roomy.scratch_room)

    limit_left : {scratch' : List ℕ} (number : ℕ) → Late number → scratch' ≡ zeros scratch₁ → Left table log scratch number log' scratch'
    unfolding log_after scratch_after records_of system_in
    limit_left number late z = (l.log_left ∙ rw (late.0, late.1, holds_read table t holds), z ∙ zeros_same scratch₁ scratch l.scratch_length ∙ rw late.0)

    pub answers_limit : {scratch' : List ℕ} {r : Result Verdict Refusal} → r ≡ Ok (verdict (limit (saturated_in table)) (start_path (saturated_in table))) → scratch' ≡ zeros scratch₁
        → Answers (answer_call table log scratch) r log' scratch'
    unfolding answer_given system_in
    answers_limit {r = r} g z = answers table log scratch (holds_read table t holds)
        (rw (le-ltb (length scratch) (scratch_needed (length log)) served, le-ltb (capacity (length log)) (length (limit (saturated_in table))) few) (sym g))
        (limit_left (refused_by r) (rw g (refl, refl)) z)

    pub runs_limit : {scratch' page page' : List ℕ} {r : Result Run Refusal} → RunLeft table scratch₁ page r scratch' page' → Runs (run_call table log scratch page) r log' scratch' page'
    unfolding run_given run_of start_run system_in
    runs_limit {page = page} {r = r} d = runs table log scratch (holds_read table t holds) page
        (rw (le-ltb (length scratch) (scratch_needed (length log)) served, le-ltb (capacity (length log)) (length (limit (saturated_in table))) few) (sym d.given))
        (limit_left (refused_by r) (rw d.given (run_late (system_in table) (length page) (start_path (saturated_in table)))) d.cleared)
        (d.run ∙ ap (λ (y : Reading). page_after (refused_by r) (run_of y) page) (sym (holds_read table t holds)))

-- ---- a table that is refused
pub table_refused : (table log scratch : List ℕ) (r : Refusal) → parsed (read table) ≡ Err r → BothRefused table log scratch r log scratch
unfolding answer_given run_given log_after scratch_after page_after
table_refused table log scratch r e =
    let is = refused_reading (read table) r e in
    let same = refusal_changes_nothing table r.number r.place is in
    let unchanged : Left table log scratch r.number log scratch = (rw same, rw same) in
    let late = ne_eqb r.number 0 (λ z. omega (arith, (refusal_number table r.number r.place is).0)) in
    record { answer = answers table log scratch is refl unchanged; run = λ page. runs table log scratch is page refl unchanged (rw late) }

-- ---- all demands on a call follow from the first
pub answer_demands : (table log scratch : List ℕ) {r : Result Verdict Refusal} {log' scratch' : List ℕ} → Answers (answer_call table log scratch) r log' scratch'
    → Answers (answer_call table log scratch) r log' scratch' × (LogHolds table (refused_by r) log'
    × ((page : List ℕ) → Demand3 table log scratch page r (run_call table log scratch page).answer (run_call table log scratch page).page))
answer_demands table log scratch a = (a, (rw (a.answer, a.log_left) (demand_2_answer table log scratch), λ page. rw a.answer (demand_3 table log scratch page)))

pub run_demands : (table log scratch page : List ℕ) {r : Result Run Refusal} {log' scratch' page' : List ℕ} → Runs (run_call table log scratch page) r log' scratch' page'
    → Runs (run_call table log scratch page) r log' scratch' page' × (LogHolds table (refused_by r) log' × Demand3 table log scratch page (answer_call table log scratch).answer r page')
run_demands table log scratch page a = (a, (rw (a.answer, a.log_left) (demand_2_run table log scratch page), rw (a.answer, a.page_left) (demand_3 table log scratch page)))

pub both_demands : (table log scratch page : List ℕ) {a : Result Verdict Refusal} {r : Result Run Refusal} {log' scratch' page' : List ℕ} → Answers (answer_call table log scratch) a log' scratch'
    → Runs (run_call table log scratch page) r log' scratch' page'
    → Answers (answer_call table log scratch) a log' scratch' × (Runs (run_call table log scratch page) r log' scratch' page'
    × (LogHolds table (refused_by r) log' × Demand3 table log scratch page a r page'))
both_demands table log scratch page a r = let d = run_demands table log scratch page r in (a, (r, (d.1.0, rw a.answer d.1.1)))
