-- Request 2.7: what a call of the plan means. Each step of a plan that is given begins at its first minute, and a plan is refused with 20 exactly where a step
-- is never open.
use mathlib.Core.Path.{◌≡◌, refl, ap, sym, ◌∙◌, subst}
use mathlib.Core.Logic.{◌↔◌}
use mathlib.Core.Bool.{Bool, ◌&&◌, true, false, true≢false}
use mathlib.Core.List.{List, [], ◌∷◌, ◌++◌}
use mathlib.Core.Option.{Option, none, some}
use Prim.Native.Nat.{ℕ, zero, suc, ◌+◌, ◌<◌, ◌≤◌}
use native.Mathlib.Nat.{not-suc-le-zero}
use native.Mathlib.Omega.{arith}
use lib.Dec.{leb, ltb}
use lib.IntN.{ℤ, pos, ◌+ℤ◌}
use lib.ListN.{drop, length, length-append, length-drop, length-map}
use borrow.Author.Tests.{leb-true, ltb-true, ltb-false}
use Rattle.model.specs.Calls.{refuse, refused_at, refused_by}
use Rattle.plan_model.specs.declared.Window.{Window}
use Rattle.model.specs.Groups.{Process}
use Rattle.model.specs.Tables.{Item, Reading, accepted, count, read, refused, system_of}
use Rattle.plan_model.specs.Hours.{BeginsFirst, Exact20, NeverOpen, PlanMeans, Planned, PlannedStep, at_start, begins_after, begins_from, ended_at, begin_of, first_never, fits, given, hours_fit, lengths_fit, never_fits, never_or, plan_begins, plan_call, plan_fits, plan_given, run_fits, start_fits, step_at, step_of, steps_of, week_of}
use Rattle.model.proofs.Closing.{refusal_number}
use Rattle.plan_model.proofs.FirstMinutes.{NoneNever, plan_first}
use Rattle.model.proofs.Tests.{and_right, by_test}
use Rattle.plan_model.proofs.Weeks.{delay_found, never_false, never_true}

-- ---- check 20
module _ (week : Process → List Window) where
  fits_some : (s : PlannedStep) → never_fits week s ≡ false → (t : ℤ) × (fits week s t ≡ true)
  fits_some s e = let f = never_false week s e (pos 0) in (pos 0 +ℤ pos f.0, (delay_found week s (pos 0) f.0 f.1).holds)

  fits_none : (s : PlannedStep) → ((t : ℤ) → fits week s t ≡ false) → (t : ℤ) × (fits week s t ≡ true) → ⊥
  fits_none s n (t, y) = true≢false (sym y ∙ n t)

  never_here : (s : PlannedStep) (steps : List PlannedStep) → never_fits week s ≡ true → NeverOpen week (s ∷ steps) 0
  never_here s steps y = record { is_step = omega arith; never = never_true week s y; earlier = λ j l. absurd (not-suc-le-zero l) }

  never_later : (s : PlannedStep) (steps : List PlannedStep) (k : ℕ) → never_fits week s ≡ false → NeverOpen week steps k → NeverOpen week (s ∷ steps) (suc k)
  never_later s steps k y n = record { is_step = omega (arith, n.is_step); never = n.never; earlier = earlier }
    where
      earlier : (j : ℕ) → j < suc k → (t : ℤ) × (fits week (step_at (s ∷ steps) j) t ≡ true)
      earlier zero l = fits_some s y
      earlier (suc j) l = n.earlier j (omega arith)

  -- there is one first such step
  never_once : (steps : List PlannedStep) (j k : ℕ) → NeverOpen week steps j → NeverOpen week steps k → j ≡ k
  never_once steps j k m n =
      by_test (ltb j k)
      (λ y. absurd (fits_none (step_at steps j) m.never (n.earlier j (ltb-true j k y))))
      (λ y. by_test (ltb k j)
      (λ z. absurd (fits_none (step_at steps k) n.never (m.earlier k (ltb-true k j z))))
      (λ z. let a = ltb-false j k y in let b = ltb-false k j z in omega arith))

  never_none : (steps : List PlannedStep) → NoneNever week steps → (k : ℕ) → NeverOpen week steps k → ⊥
  never_none steps h k n = fits_none (step_at steps k) n.never (fits_some (step_at steps k) (h k n.is_step))

  -- what the search from step k on says of the steps
  abbrev Checked20 : List PlannedStep → ℕ → Option ℕ → Type 0
  Checked20 steps k none = NoneNever week steps
  Checked20 steps k (some m) = (j : ℕ) × (m ≡ k + j) × NeverOpen week steps j

  check_20 : (steps : List PlannedStep) (k : ℕ) → Checked20 steps k (first_never week steps k)
  unfolding first_never
  check_20 [] k = λ j l. absurd (not-suc-le-zero l)
  check_20 (s ∷ steps) k = by_test (never_fits week s)
      (λ y. rw y (0, omega arith, never_here s steps y))
      (λ y. rw y (later y (first_never week steps (k + 1)) (check_20 steps (k + 1))))
    where
      later : never_fits week s ≡ false → (o : Option ℕ) → Checked20 steps (k + 1) o → Checked20 (s ∷ steps) k o
      later y none h = none_of
        where
          none_of : (j : ℕ) → j < suc (length steps) → never_fits week (step_at (s ∷ steps) j) ≡ false
          none_of zero l = y
          none_of (suc j) l = h j (omega arith)
      later y (some m) (j, e, n) = (suc j, omega arith, never_later s steps j y n)

-- ---- the call
-- a begin for each step
pub begins_count : (week : Process → List Window) (start : ℤ) (ends : List ℤ) (steps : List PlannedStep) → length (begins_from week start ends steps) ≡ length steps
unfolding begins_from
begins_count week start ends [] = refl
begins_count week start ends (s ∷ steps) =
    ap suc (begins_count week start (ended_at s.processes (begin_of week start ends s +ℤ pos s.minutes) ends) steps)

module _ (table run : List ℕ) (hours : List (List Window)) (counts lengths : List ℕ) (start : ℤ) (begins : List ℤ) where
  -- what the call means, by its answer and its closing list
  abbrev Means : Planned → List ℤ → Type 0
  Means answer closing = PlanMeans table run hours counts lengths start (refused_by answer) (refused_at answer) closing

  refused_means : (number place : ℕ) → read table ≡ refused number place → Means (refuse number place) begins
  refused_means number place e = record {
    first_minutes = λ z. absurd (omega (arith, z, (refusal_number table number place e).0));
    refused_table = λ n p q. let same : refused number place ≡ refused n p = sym e ∙ q in (cc, cc);
    refused_19 = λ items q. absurd (one_reading items q);
    let_through = λ items q. absurd (one_reading items q);
  }
    where
      one_reading : (items : List Item) → read table ≡ accepted items → ⊥
      one_reading items q = let bad : refused number place ≡ accepted items = sym e ∙ q in let clash : ◌≡◌ {A = ℕ} 0 1 = cc in omega arith

  -- what 19 and 20 mean, if these are the table's items
  abbrev Means19 : Planned → List ℤ → List Item → Type 0
  Means19 answer closing items = (plan_fits (count 1 items) (count 3 items) run hours counts lengths start (length closing) ≡ false)
      ↔ ((refused_by answer ≡ 19) × (refused_at answer ≡ 0))

  abbrev Means20 : Planned → List ℤ → List Item → Type 0
  Means20 answer closing items = plan_fits (count 1 items) (count 3 items) run hours counts lengths start (length closing) ≡ true
      → Exact20 (week_of hours counts) (steps_of (system_of items) lengths run) (refused_by answer) (refused_at answer)

  module _ (items : List Item) (e : read table ≡ accepted items) where
    abbrev steps : List PlannedStep
    steps = steps_of (system_of items) lengths run

    abbrev week : Process → List Window
    week = week_of hours counts

    abbrev planned : List ℤ
    planned = begins_from week start (at_start start) steps

    -- a table has one reading
    of_reading : (answer : Planned) (closing : List ℤ) → (refused_by answer ≡ 0 → (k : ℕ) → k < length run → BeginsFirst week start steps closing k)
        → Means19 answer closing items → Means20 answer closing items → Means answer closing
    of_reading answer closing f m n = record {
      first_minutes = λ z. (items, e, f z);
      refused_table = λ n p q. let bad : accepted items ≡ refused n p = sym e ∙ q in let clash : ◌≡◌ {A = ℕ} 0 1 = cc in absurd (omega arith);
      refused_19 = λ others q. subst (Means19 answer closing) (same others q) m;
      let_through = λ others q. subst (Means20 answer closing) (same others q) n;
    }
      where
        same : (others : List Item) → read table ≡ accepted others → items ≡ others
        same others q = let one : accepted items ≡ accepted others = sym e ∙ q in cc

    abbrev fit : List ℤ → Bool
    fit list = plan_fits (count 1 items) (count 3 items) run hours counts lengths start (length list)

    -- let through by 19, the list keeps its length
    kept : fit begins ≡ true → length (planned ++ drop (length planned) begins) ≡ length begins
    unfolding plan_fits
    kept g =
        let room : length run ≤ length begins = leb-true (length run) (length begins) (and_right (hours_fit (count 1 items) hours counts && lengths_fit (count 3 items) lengths && start_fits start && run_fits (count 3 items) run) (leb (length run) (length begins)) g) in
        let size : length planned ≡ length run = begins_count week start (at_start start) steps ∙ length-map run (step_of (system_of items) lengths) in
        length-append planned (drop (length planned) begins) ∙ ap (λ (n : ℕ). length planned + n) (length-drop (length planned) begins) ∙ omega arith

    -- and no answer is 19
    passed : fit begins ≡ true → (o : Option ℕ) → Means19 (never_or o) (begins_after (never_or o) planned begins) items
    passed y none = (
      (λ n. absurd (true≢false (sym (subst (λ (k : ℕ). plan_fits (count 1 items) (count 3 items) run hours counts lengths start k ≡ true) (sym (kept y)) y) ∙ n))),
      (λ n. absurd (omega (arith, n.0))),
    )
    passed y (some k) = ((λ n. absurd (true≢false (sym y ∙ n))), (λ n. absurd (omega (arith, n.0))))

    given_means : fit begins ≡ true → (o : Option ℕ) → Checked20 week steps 0 o → Means (never_or o) (begins_after (never_or o) planned begins)
    given_means y none h = of_reading given _
        (λ z k l. plan_first week start _ steps h k (subst (λ (n : ℕ). k < n) (sym (length-map run _)) l))
        (passed y none)
        (λ g. record { refused_20 = λ k. ((λ n. absurd (never_none week steps h k n)), (λ n. absurd (omega (arith, n.0)))); given = λ n. refl })
    given_means y (some m) (j, q, n) = of_reading (refuse 20 m) begins
        (λ z. absurd (omega (arith, z)))
        (passed y (some m))
        (λ g. record {
          refused_20 = λ k. ((λ o. (refl, let same = never_once week steps j k n o in omega arith)), (λ o. subst (NeverOpen week steps) (omega (arith, o.1)) n));
          given = λ o. absurd (o j n);
        })

    accepted_means : let answer = plan_given (accepted items) run hours counts lengths start (length begins) in
        Means answer (begins_after answer planned begins)
    unfolding plan_given
    accepted_means = by_test (fit begins)
        (λ y. rw y (given_means y (first_never week steps 0) (check_20 week steps 0)))
        (λ y. rw y (of_reading (refuse 19 0) begins (λ z. absurd (omega (arith, z))) ((λ n. (refl, refl)), (λ n. y)) (λ g. absurd (true≢false (sym g ∙ y)))))

  by_reading : (r : Reading) → read table ≡ r
      → let answer = plan_given r run hours counts lengths start (length begins) in
      Means answer (begins_after answer (plan_begins r run hours counts lengths start) begins)
  unfolding plan_begins plan_given
  by_reading (refused number place) e = refused_means number place e
  by_reading (accepted items) e = accepted_means items e

  pub plan_means : let o = plan_call table run hours counts lengths start begins in
      PlanMeans table run hours counts lengths start (refused_by o.answer) (refused_at o.answer) o.begins
  unfolding plan_call
  plan_means = by_reading (read table) refl
