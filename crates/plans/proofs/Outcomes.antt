-- What a plan gives and leaves, by what its parts found.
use mathlib.Core.Path.{◌≡◌, refl, ap, sym, ◌∙◌}
use mathlib.Core.Bool.{true, false, ◌&&◌}
use mathlib.Core.List.{List, ◌++◌}
use mathlib.Core.Option.{Option, none, some}
use Prim.Native.Nat.{ℕ, ◌≤◌}
use native.Mathlib.Omega.{arith}
use lib.Dec.{leb}
use lib.IntN.{ℤ}
use lib.ListN.{length, drop, length-map}
use borrow.Author.Tests.{leb-true}
use mir.Syntax.{w64}
use mir.Val.{SFits}
use Rattle.std.specs.Prelude.{Err}
use Rattle.model.specs.declared.Refusal.{Refusal}
use Rattle.model.specs.Calls.{refuse, refused_at, refused_by}
use Rattle.plan_model.specs.declared.Window.{Window}
use Rattle.plan_model.proofs.Plans.{begins_count}
use Rattle.plan_model.specs.Hours.{PlanMeans, Planned, at_start, begins_from, first_never, given, hours_fit, lengths_fit, plan_begins, plan_call, plan_fits, plan_given, run_fits, start_fits, step_of, steps_of, week_of}
use Rattle.model.specs.Tables.{count, read, refused, system_of}
use Rattle.plan_model.proofs.Main.{plan_holds}
use Rattle.model.proofs.Tests.{and_left, and_right}
use Rattle.table.specs.declared.Table.{Table}
use Rattle.table.specs.Reading.{Holds, items_in, system_in}
use Rattle.table.proofs.Layouts.{count_in}
use Rattle.table.proofs.Readings.{holds_read}
use Rattle.minutes.proofs.Signed.{read_back, read_back_lem}
use Rattle.hours.specs.Searching.{answered}
use Rattle.std.specs.Prelude
use Rattle.plans.specs.Planning.{Plans}

-- ---- what the first pass saw
pub answered_some : (o : Option ℕ) (k : ℕ) → Prelude.Some k ≡ answered o → o ≡ some k
answered_some none k e = absurd (cc)
answered_some (some n) k e = cc

pub answered_none : (o : Option ℕ) → Prelude.None ≡ answered o → o ≡ none
answered_none none e = refl
answered_none (some n) e = cc

-- ---- the parts of check 19 that the passes need
pub record FitParts (rules : ℕ) (run lengths : List ℕ) (start : ℤ) (room : ℕ) : Type 0 where
  pub lengths_checked : lengths_fit rules lengths ≡ true
  pub start_fits : start_fits start ≡ true
  pub run_fits : run_fits rules run ≡ true
  pub enough : length run ≤ room

pub fit_parts : (processes rules : ℕ) (run : List ℕ) (hours : List (List Window)) (counts lengths : List ℕ) (start : ℤ) (room : ℕ)
    → plan_fits processes rules run hours counts lengths start room ≡ true → FitParts rules run lengths start room
unfolding plan_fits
fit_parts processes rules run hours counts lengths start room e =
    let four = and_left (hours_fit processes hours counts && lengths_fit rules lengths && start_fits start && run_fits rules run) (leb (length run) room) e in
    let three = and_left (hours_fit processes hours counts && lengths_fit rules lengths && start_fits start) (run_fits rules run) four in
    let two = and_left (hours_fit processes hours counts && lengths_fit rules lengths) (start_fits start) three in
    record {
      lengths_checked = and_right (hours_fit processes hours counts) (lengths_fit rules lengths) two;
      start_fits = and_right (hours_fit processes hours counts && lengths_fit rules lengths) (start_fits start) three;
      run_fits = and_right (hours_fit processes hours counts && lengths_fit rules lengths && start_fits start) (run_fits rules run) four;
      enough = leb-true (length run) room (and_right (hours_fit processes hours counts && lengths_fit rules lengths && start_fits start && run_fits rules run) (leb (length run) room) e);
    }

-- ---- the call
module _ (table run : List ℕ) (hours : List (List Window)) (counts lengths : List ℕ) (start : ℤ) (begins : List ℤ) where
  pub table_refused : (r : Refusal) → read table ≡ refused r.number r.place → Plans (plan_call table run hours counts lengths start begins) (Err r) begins
  unfolding plan_call plan_given
  table_refused r e = record { answer = rw e; begins = rw e }

  -- an accepted table, with the start as the parts of the call read it back
  module _ (t : Table) (h : Holds table t) (f : SFits w64 start) where
    fits_are : plan_fits (count 1 (items_in table)) (count 3 (items_in table)) run hours counts lengths start (length begins) ≡ plan_fits t.processes t.rules run hours counts lengths (read_back start) (length begins)
    fits_are = rw (count_in table t h 1 (omega arith), count_in table t h 3 (omega arith), read_back_lem f)

    pub bad_hours : plan_fits t.processes t.rules run hours counts lengths (read_back start) (length begins) ≡ false → Plans (plan_call table run hours counts lengths start begins) (refuse 19 0) begins
    unfolding plan_call plan_given
    bad_hours e = let q = fits_are ∙ e in record { answer = rw (holds_read table t h, q); begins = rw (holds_read table t h, q) }

    module _ (e : plan_fits t.processes t.rules run hours counts lengths (read_back start) (length begins) ≡ true) where
      pub never_open : (k : ℕ) → first_never (week_of hours counts) (steps_of (system_in table) lengths run) 0 ≡ some k
          → Plans (plan_call table run hours counts lengths start begins) (refuse 20 k) begins
      unfolding plan_call plan_given system_in
      never_open k n = let q = fits_are ∙ e in record { answer = rw (holds_read table t h, q, n); begins = rw (holds_read table t h, q, n) }

      pub laid : (b : List ℤ) → first_never (week_of hours counts) (steps_of (system_in table) lengths run) 0 ≡ none
          → b ≡ begins_from (week_of hours counts) (read_back start) (at_start (read_back start)) (steps_of (system_in table) lengths run) ++ drop (length run) begins
          → Plans (plan_call table run hours counts lengths start begins) given b
      unfolding plan_call plan_given plan_begins system_in
      laid b n w =
          let q = fits_are ∙ e in
          let steps = steps_of (system_of (items_in table)) lengths run in
          let planned = begins_from (week_of hours counts) start (at_start start) steps in
          let size : length run ≡ length planned = sym (begins_count (week_of hours counts) start (at_start start) steps ∙ length-map run (step_of (system_of (items_in table)) lengths)) in
          record { answer = rw (holds_read table t h, q, n); begins = rw (holds_read table t h, q, n) ((rw (read_back_lem f) at w) ∙ ap (λ (k : ℕ). planned ++ drop k begins) size) }

-- what it means
module _ (table run : List ℕ) (hours : List (List Window)) (counts lengths : List ℕ) (start : ℤ) (begins : List ℤ) where
  pub plans_mean : (r : Planned) (b : List ℤ) → Plans (plan_call table run hours counts lengths start begins) r b
      → PlanMeans table run hours counts lengths start (refused_by r) (refused_at r) b
  plans_mean r b p = rw (p.answer, p.begins) (plan_holds table run hours counts lengths start begins)
