-- Request 2.7: weeks repeat. What fits is decided by the minute of the week, so a step that is not found within a week fits no minute at all.
use mathlib.Core.Path.{◌≡◌, refl, sym, ap, ◌∙◌, subst}
use mathlib.Core.Bool.{Bool, true, false, not, ◌||◌, true≢false}
use mathlib.Core.List.{List}
use mathlib.Core.Option.{Option, none, some}
use Prim.Native.Nat.{ℕ, zero, suc, ◌+◌, ◌-◌, ◌%◌, ◌≤◌, ◌<◌}
use native.Mathlib.Omega.{arith}
use lib.Dec.{eqb, ltb}
use lib.IntN.{ℤ, pos, negsuc, ◌+ℤ◌}
use borrow.Author.Tests.{eqb-true, eqb-false, ltb-true, ltb-false}
use Rattle.plan_model.specs.declared.Window.{Window}
use Rattle.model.specs.Groups.{Process, every, has}
use Rattle.model.specs.Lists.{any_of, is_missing, all_below}
use Rattle.plan_model.specs.Hours.{PlannedStep, delay, first_among, fits, in_window, is_open, minute_of_week, never_fits, week_minutes}
use Rattle.model.proofs.Tests.{by_test, every_at, every_of, all_below_of, all_below_fails}

-- ---- all numbers below n
all_ext : (n : ℕ) (f g : ℕ → Bool) → ((k : ℕ) → f k ≡ g k) → all_below n f ≡ all_below n g
all_ext zero f g h = refl
all_ext (suc n) f g h = rw (all_ext n f g h, h n)

-- ---- the first number that passes
first_here : (n k : ℕ) (f : ℕ → Bool) → f k ≡ true → first_among (suc n) k f ≡ some k
unfolding first_among
first_here n k f e = rw (e, first_among)

first_later : (n k : ℕ) (f : ℕ → Bool) → f k ≡ false → first_among (suc n) k f ≡ first_among n (suc k) f
unfolding first_among
first_later n k f e = rw (e, first_among)

-- no number between k and n passes
abbrev Missed : ℕ → ℕ → (ℕ → Bool) → Type 0
Missed k n f = (e : ℕ) → k ≤ e → e < n → f e ≡ false

missed_later : (k n : ℕ) (f : ℕ → Bool) → f k ≡ false → Missed (suc k) n f → Missed k n f
missed_later k n f y h e a b = by_test (eqb e k) (λ z. rw (eqb-true e k z) y) (λ z. let q : e ≡ k → ⊥ = eqb-false e k z in h e (omega arith) b)

first_none : (n k : ℕ) (f : ℕ → Bool) → Missed k (k + n) f → first_among n k f ≡ none
unfolding first_among
first_none zero k f h = refl
first_none (suc n) k f h = first_later n k f (h k (omega arith) (omega arith)) ∙ first_none n (suc k) f (λ e a b. h e (omega arith) (omega arith))

first_some : (n k : ℕ) (f : ℕ → Bool) (d : ℕ) → k ≤ d → d < k + n → f d ≡ true → Missed k d f → first_among n k f ≡ some d
first_some zero k f d a b t h = absurd (let z : d < d = omega arith in omega arith)
first_some (suc n) k f d a b t h =
    by_test (eqb k d)
    (λ y. let here : k ≡ d = eqb-true k d y in first_here n k f (rw here t) ∙ ap some here)
    (λ y. let q : k ≡ d → ⊥ = eqb-false k d y in
    first_later n k f (h k (omega arith) (omega arith)) ∙ first_some n (suc k) f d (omega arith) (omega arith) t (λ e l m. h e (omega arith) m))

first_ext : (n k : ℕ) (f g : ℕ → Bool) → ((d : ℕ) → f d ≡ g d) → first_among n k f ≡ first_among n k g
unfolding first_among
first_ext zero k f g h = refl
first_ext (suc n) k f g h =
    by_test (f k)
    (λ y. first_here n k f y ∙ sym (first_here n k g (sym (h k) ∙ y)))
    (λ y. first_later n k f y ∙ first_ext n (suc k) f g h ∙ sym (first_later n k g (sym (h k) ∙ y)))

-- what a search says of the n numbers from k on
pub record Found (n k : ℕ) (f : ℕ → Bool) (d : ℕ) : Type 0 where
  pub within : d < k + n
  pub holds : f d ≡ true
  pub misses : (e : ℕ) → k ≤ e → e < d → f e ≡ false

abbrev Searched : ℕ → ℕ → (ℕ → Bool) → Option ℕ → Type 0
Searched n k f none = Missed k (k + n) f
Searched n k f (some d) = Found n k f d

searched : (n k : ℕ) (f : ℕ → Bool) → Searched n k f (first_among n k f)
unfolding first_among
searched zero k f = λ e a b. absurd (let z : e < e = omega arith in omega arith)
searched (suc n) k f =
    by_test (f k)
    (λ y. subst (Searched (suc n) k f) (sym (first_here n k f y)) (record { within = omega arith; holds = y; misses = λ e a b. absurd (let z : e < e = omega arith in omega arith) }))
    (λ y. subst (Searched (suc n) k f) (sym (first_later n k f y)) (later y (first_among n (suc k) f) (searched n (suc k) f)))
  where
    later : f k ≡ false → (o : Option ℕ) → Searched n (suc k) f o → Searched (suc n) k f o
    later y none h = missed_later k (k + suc n) f y (λ e a b. h e a (omega arith))
    later y (some d) h = record { within = omega (arith, h.within); holds = h.holds; misses = missed_later k d f y h.misses }

-- ---- minutes of the week
pub minute_below : (t : ℤ) → minute_of_week t < week_minutes
minute_below (pos n) = omega arith
minute_below (negsuc n) = omega arith

-- the minute of the week d minutes on
pub minute_later : (t : ℤ) (d : ℕ) → minute_of_week (t +ℤ pos d) ≡ (minute_of_week t + d) % week_minutes
minute_later (pos n) d = omega arith
minute_later (negsuc n) d =
    by_test (ltb d (suc n))
    (λ y. rw y (let l : d < suc n = ltb-true d (suc n) y in omega arith))
    (λ y. rw y (let l : suc n ≤ d = ltb-false d (suc n) y in omega arith))

-- ---- what fits
module _ (week : Process → List Window) (s : PlannedStep) where
  -- all its processes are open at each of its minutes
  pub fits_of : (t : ℤ) → ((i : Process) → has s.processes i ≡ true → (k : ℕ) → k < s.minutes → is_open (week i) (t +ℤ pos k) ≡ true) → fits week s t ≡ true
  unfolding fits
  fits_of t h =
      all_below_of s.minutes _
      (λ k l. every_of (λ i. not (has s.processes i) || is_open (week i) (t +ℤ pos k))
      (λ i. by_test (has s.processes i) (λ y. rw (y, h i y k l)) (λ n. rw n)))

  -- one of them is shut at one of its minutes
  pub fits_not : (t : ℤ) (i : Process) → has s.processes i ≡ true → (k : ℕ) → k < s.minutes → is_open (week i) (t +ℤ pos k) ≡ false → fits week s t ≡ false
  unfolding fits
  fits_not t i y k l e =
      all_below_fails s.minutes _ k l
      (by_test (every (λ j. not (has s.processes j) || is_open (week j) (t +ℤ pos k)))
      (λ z. absurd (true≢false (sym (every_at (λ j. not (has s.processes j) || is_open (week j) (t +ℤ pos k)) z i) ∙ rw (y, e))))
      (λ z. z))

  -- two minutes of the same minute of the week
  pub fits_same : (t u : ℤ) → minute_of_week t ≡ minute_of_week u → fits week s t ≡ fits week s u
  unfolding fits
  fits_same t u e =
      all_ext s.minutes _ _
      (λ k.
      let q : minute_of_week (t +ℤ pos k) ≡ minute_of_week (u +ℤ pos k) = minute_later t k ∙ ap (λ (m : ℕ). (m + k) % week_minutes) e ∙ sym (minute_later u k) in
      ap (λ (m : ℕ). every (λ i. not (has s.processes i) || any_of (in_window m) (week i))) q)

  -- ---- the delay
  pub delay_some : (bound : ℤ) (d : ℕ) → d < week_minutes → fits week s (bound +ℤ pos d) ≡ true → ((e : ℕ) → e < d → fits week s (bound +ℤ pos e) ≡ false)
      → delay week s bound ≡ some d
  unfolding delay
  delay_some bound d l y h = first_some week_minutes 0 (λ e. fits week s (bound +ℤ pos e)) d (omega arith) l y (λ e a. h e)

  pub delay_none : (bound : ℤ) → ((e : ℕ) → e < week_minutes → fits week s (bound +ℤ pos e) ≡ false) → delay week s bound ≡ none
  unfolding delay
  delay_none bound h = first_none week_minutes 0 (λ e. fits week s (bound +ℤ pos e)) (λ e a. h e)

  -- the search may begin at the minute of the week
  pub delay_in_week : (bound : ℤ) → delay week s bound ≡ delay week s (pos (minute_of_week bound))
  unfolding delay
  delay_in_week bound = first_ext week_minutes 0 _ _ (λ d. fits_same (bound +ℤ pos d) (pos (minute_of_week bound + d)) (minute_later bound d))

  -- what the search says of the week from the bound on
  abbrev Delayed : ℤ → Option ℕ → Type 0
  Delayed bound o = Searched week_minutes 0 (λ d. fits week s (bound +ℤ pos d)) o

  delayed : (bound : ℤ) → Delayed bound (delay week s bound)
  unfolding delay
  delayed bound = searched week_minutes 0 (λ d. fits week s (bound +ℤ pos d))

  -- the first minute that fits
  pub delay_found : (bound : ℤ) (d : ℕ) → delay week s bound ≡ some d → Found week_minutes 0 (λ d. fits week s (bound +ℤ pos d)) d
  delay_found bound d q = subst (Delayed bound) q (delayed bound)

  -- what is not found within a week of some minute fits no minute of any week
  pub never_fits_lem : (bound : ℤ) → delay week s bound ≡ none → (t : ℤ) → fits week s t ≡ false
  never_fits_lem bound q t =
      let b = minute_of_week bound in
      let m = minute_of_week t in
      let d : ℕ = (m + week_minutes - b) % week_minutes in
      let hit : minute_of_week (bound +ℤ pos d) ≡ m = minute_later bound d ∙ (let x = minute_below bound in let y = minute_below t in omega arith) in
      let misses : Missed 0 week_minutes (λ e. fits week s (bound +ℤ pos e)) = subst (Delayed bound) q (delayed bound) in
      fits_same t (bound +ℤ pos d) (sym hit) ∙ misses d (omega arith) (omega arith)

  -- ---- check 20 is exact
  never_by : (o : Option ℕ) → is_missing o ≡ true → o ≡ none
  never_by none e = refl
  never_by (some d) e = absurd (true≢false (sym e))

  pub never_true : never_fits week s ≡ true → (t : ℤ) → fits week s t ≡ false
  unfolding never_fits
  never_true e t = never_fits_lem (pos 0) (never_by (delay week s (pos 0)) e) t

  -- a step that is let through is found from every minute on
  found_by : (bound : ℤ) (o p : Option ℕ) → delay week s bound ≡ o → delay week s (pos 0) ≡ p → is_missing p ≡ false → (d : ℕ) × (delay week s bound ≡ some d)
  found_by bound (some d) p q r e = (d, q)
  found_by bound none none q r e = absurd (true≢false e)
  found_by bound none (some d) q r e = absurd (true≢false (sym (delay_found (pos 0) d r).holds ∙ never_fits_lem bound q (pos 0 +ℤ pos d)))

  pub never_false : never_fits week s ≡ false → (bound : ℤ) → (d : ℕ) × (delay week s bound ≡ some d)
  unfolding never_fits
  never_false e bound = found_by bound (delay week s bound) (delay week s (pos 0)) refl refl e

  pub never_where_none : ((t : ℤ) → fits week s t ≡ false) → never_fits week s ≡ true
  never_where_none h =
      by_test (never_fits week s)
      (λ y. y)
      (λ n. let d = never_false n (pos 0) in absurd (true≢false (sym (delay_found (pos 0) d.0 d.1).holds ∙ h (pos 0 +ℤ pos d.0))))
