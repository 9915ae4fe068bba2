-- What is passed over on the way to a step's first minute: for the processes of a step, and from minute to minute.
use mathlib.Core.Path.{◌≡◌, refl, sym, ap, ◌∙◌}
use mathlib.Core.Bool.{Bool, true, false, not}
use mathlib.Core.List.{List}
use mathlib.Core.Option.{Option, none, some}
use Prim.Native.Nat.{ℕ, ◌+◌, ◌-◌, ◌%◌, ◌≤◌, ◌<◌}
use native.Mathlib.Nat.{not-suc-le-zero}
use native.Mathlib.Omega.{arith}
use lib.Dec.{ltb}
use lib.IntN.{ℤ, pos}
use borrow.Author.Tests.{ltb-true, ltb-false}
use Rattle.plan_model.specs.declared.Window.{Window}
use Rattle.model.specs.Groups.{Process, p0, p1, p2, p3, has, number_of}
use Rattle.model.specs.Lists.{is_missing, value_or}
use Rattle.plan_model.specs.Hours.{PlannedStep, delay, fits, is_open, minute_of_week, never_fits, week_minutes}
use Rattle.model.proofs.Tests.{by_test}
use Rattle.plan_model.proofs.Weeks.{delay_found, delay_in_week, delay_none, delay_some, fits_not, fits_of, fits_same}
use Rattle.hours.specs.Searching.{Passes, ProcessPasses, Skips, answered}
use Rattle.std.specs.Prelude
use Rattle.std.specs.Option.{is_some, unwrap_or}

-- ---- the processes of a step
-- those below i stay open for the whole length
abbrev pub OpenBelow : (Process → List Window) → PlannedStep → ℕ → ℕ → Type 0
OpenBelow week s m i = (p : Process) → number_of p < i → has s.processes p ≡ true → (k : ℕ) → k < s.minutes → is_open (week p) (pos (m + k)) ≡ true

module _ (week : Process → List Window) (s : PlannedStep) (m : ℕ) where
  number_below : (p : Process) → number_of p < 4
  number_below p0 = omega arith
  number_below p1 = omega arith
  number_below p2 = omega arith
  number_below p3 = omega arith

  pub open_below_end : (i : ℕ) → 4 ≤ i → OpenBelow week s m i → Passes week s m 0
  open_below_end i h o =
      record {
        short = omega arith;
        fitting = λ e. fits_of week s (pos m) (λ p. o p (let b = number_below p in omega arith));
        misses = λ e a. absurd (not-suc-le-zero a);
      }

-- a process with a part, and one without
module _ (week : Process → List Window) (i : Process) (s : PlannedStep) (m : ℕ) where
  pub part_passes : (r : ℕ) → has s.processes i ≡ true → Skips (week i) s.minutes m r → ProcessPasses week i s m r
  part_passes r y p =
      record {
        short = p.short;
        stays = λ e h. p.stays e;
        misses = λ e a. let x = p.misses e a in fits_not week s (pos (m + e)) i y x.minute x.within x.shut;
      }

-- ---- from minute to minute
module _ (week : Process → List Window) (s : PlannedStep) (m : ℕ) where
  -- the first d minutes from minute m on do not fit
  abbrev pub Missed : ℕ → Type 0
  Missed d = (e : ℕ) → e < d → fits week s (pos (m + e)) ≡ false

  pub missed_turn : (d r : ℕ) → Missed d → Passes week s ((m + d) % week_minutes) r → Missed (d + r)
  missed_turn d r old p e l =
      by_test (ltb e d)
      (λ y. old e (ltb-true e d y))
      (λ y. let h : d ≤ e = ltb-false e d y in
      fits_same week s (pos (m + e)) (pos ((m + d) % week_minutes + (e - d))) (omega arith) ∙ p.misses (e - d) (omega arith))

  pub missed_found : (d : ℕ) → d < week_minutes → Missed d → Passes week s ((m + d) % week_minutes) 0 → Prelude.Some d ≡ answered (delay week s (pos m))
  missed_found d l old p =
      sym (ap answered (delay_some week s (pos m) d l (fits_same week s (pos (m + d)) (pos ((m + d) % week_minutes)) (omega arith) ∙ p.fitting refl) old))

  pub missed_all : (d : ℕ) → week_minutes ≤ d → Missed d → Prelude.None ≡ answered (delay week s (pos m))
  missed_all d l old = sym (ap answered (delay_none week s (pos m) (λ e a. old e (omega arith))))

-- ---- what the search tells
module _ (week : Process → List Window) (s : PlannedStep) where
  pub minutes_told : (bound : ℤ) (m r : ℕ) (w : Prelude.Option ℕ) → m ≡ minute_of_week bound → w ≡ answered (delay week s (pos m)) → r ≡ unwrap_or w 0
      → (r ≡ value_or 0 (λ (d : ℕ). d) (delay week s bound)) × (r < week_minutes)
  minutes_told bound m r w e q u = rw (u, q, e, sym (delay_in_week week s bound)) (told (delay week s bound) refl)
    where
      told : (o : Option ℕ) → delay week s bound ≡ o → (unwrap_or (answered o) 0 ≡ value_or 0 (λ (d : ℕ). d) o) × (unwrap_or (answered o) 0 < week_minutes)
      told none p = (refl, omega arith)
      told (some d) p = (refl, (delay_found week s bound d p).within)

  pub never_told : (w : Prelude.Option ℕ) (r : Bool) → w ≡ answered (delay week s (pos 0)) → is_some w ≡ not r → r ≡ never_fits week s
  unfolding never_fits
  never_told w r q e = told (delay week s (pos 0)) r (rw q at e)
    where
      told : (o : Option ℕ) (b : Bool) → is_some (answered o) ≡ not b → b ≡ is_missing o
      told none true h = refl
      told none false h = cc
      told (some d) true h = cc
      told (some d) false h = refl
