-- The loops of check 19, what their answers say, the step of a rule, and the loop of check 20 with the rules it notes.
use mathlib.Core.Path.{◌≡◌, ap, sym, ◌∙◌}
use mathlib.Core.Bool.{Bool, true, false, false≢true}
use mathlib.Core.List.{List}
use mathlib.Core.Option.{none, some}
use Prim.Native.Nat.{ℕ, ◌+◌, ◌≤◌, ◌<◌}
use native.Mathlib.Numerals.{add-one}
use native.Mathlib.Omega.{arith}
use lib.Dec.{leb, ltb}
use lib.ListN.{length, get_or, drop, replicate, drop_of_length-le}
use lib.Seq.{drop-cons}
use borrow.Author.Tests.{leb-true, ltb-true}
use Rattle.plan_model.specs.declared.Window.{Window}
use Rattle.model.specs.Groups.{Process}
use Rattle.model.specs.Lists.{all_below}
use Rattle.plan_model.specs.Hours.{first_never, length_fits, lengths_fit, longest_step, never_fits, run_fits, step_of, steps_of}
use Rattle.model.specs.Systems.{System}
use Rattle.model.proofs.Lists.{all_alike}
use Rattle.model.proofs.Tests.{and_left, and_right, all_below_at, all_below_fails, all_below_of}
use Rattle.std.proofs.Common.{MatchBool}
use Rattle.std.specs.List.{AllWithin, HoldsAt}
use Rattle.table.specs.declared.Table.{Table}
use Rattle.table.specs.Reading.{BitsOf, Holds, rule_in, system_in}
use Rattle.table.proofs.Layouts.{rule_processes_lem}
use Rattle.hours.specs.Searching.{step_by}
use Rattle.plans.specs.Planning.{Judged}

-- ---- a test of the first n of a list
pub all_below_answers : {A : Type 0} (test : A → Bool) (f : ℕ → Bool) (d : A) (r : Bool) (ys : List A) (n : ℕ) → length ys ≡ n → ((k : ℕ) → k < n → test (get_or ys k d) ≡ f k)
    → MatchBool r (AllWithin (λ x. test x ≡ true) ys 0 (length ys)) ((k : ℕ) × (k < length ys) × HoldsAt (λ x. test x ≡ false) ys k) → r ≡ all_below n f
all_below_answers test f d true ys n size same h = sym (all_below_of n f (λ k l. sym (same k l) ∙ h k d (omega arith) (omega arith)))
all_below_answers test f d false ys n size same h = let l : h.0 < n = omega (arith, h.1) in sym (all_below_fails n f h.0 l (sym (same h.0 l) ∙ h.2 d))

-- ---- what the checks say
module _ (rules : ℕ) (lengths : List ℕ) (e : lengths_fit rules lengths ≡ true) where
  pub lengths_enough : rules ≤ length lengths
  unfolding lengths_fit
  lengths_enough = leb-true rules (length lengths) (and_left (leb rules (length lengths)) (all_below rules (λ n. length_fits (get_or lengths n 0))) e)

  pub length_short : (n m : ℕ) → n < rules → m ≡ get_or lengths n 0 → m ≤ longest_step
  unfolding lengths_fit
  length_short n m l q =
      let each = and_right (leb rules (length lengths)) (all_below rules (λ n. length_fits (get_or lengths n 0))) e in
      let one = all_below_at rules (λ n. length_fits (get_or lengths n 0)) each n l in
      rw q (leb-true (get_or lengths n 0) longest_step (and_right (leb 1 (get_or lengths n 0)) (leb (get_or lengths n 0) longest_step) one))

  pub length_some : (n m : ℕ) → n < rules → m ≡ get_or lengths n 0 → 0 < m
  unfolding lengths_fit
  length_some n m l q =
      let each = and_right (leb rules (length lengths)) (all_below rules (λ n. length_fits (get_or lengths n 0))) e in
      let one = all_below_at rules (λ n. length_fits (get_or lengths n 0)) each n l in
      rw q (leb-true 1 (get_or lengths n 0) (and_left (leb 1 (get_or lengths n 0)) (leb (get_or lengths n 0) longest_step) one))

module _ (rules : ℕ) (run : List ℕ) (e : run_fits rules run ≡ true) where
  pub run_short : length run ≤ 1000000
  unfolding run_fits
  run_short = leb-true (length run) 1000000 (and_left (leb (length run) 1000000) (all_below (length run) (λ k. ltb (get_or run k 0) rules)) e)

  pub rule_in_run : (k n : ℕ) → k < length run → n ≡ get_or run k 0 → n < rules
  unfolding run_fits
  rule_in_run k n l q =
      let each = and_right (leb (length run) 1000000) (all_below (length run) (λ k. ltb (get_or run k 0) rules)) e in
      rw q (ltb-true (get_or run k 0) rules (all_below_at (length run) (λ k. ltb (get_or run k 0) rules) each k l))

-- ---- the step of a rule, from the bits of its letter and its length
module _ (table : List ℕ) (t : Table) (h : Holds table t) (lengths : List ℕ) (n : ℕ) (l : n < t.rules) where
  pub step_is : (bits size : ℕ) → BitsOf ((system_in table).loc (rule_in table n).letter) bits → size ≡ get_or lengths n 0
      → step_by bits size ≡ step_of (system_in table) lengths n
  step_is bits size b e = let p = b.same ∙ sym (rule_processes_lem table t h n l) in cc

-- ---- the first step that fits never
module _ (week : Process → List Window) (sys : System) (lengths run : List ℕ) (k : ℕ) where
  module _ (n : ℕ) (q : n ≡ get_or run k 0) (l : k < length run) where
    pub never_here : never_fits week (step_of sys lengths n) ≡ true → first_never week (steps_of sys lengths (drop k run)) k ≡ some k
    unfolding first_never
    never_here e = rw (drop-cons run k 0 l, ← q, e)

    pub never_later : never_fits week (step_of sys lengths n) ≡ false → first_never week (steps_of sys lengths (drop k run)) k ≡ first_never week (steps_of sys lengths (drop (k + 1) run)) (k + 1)
    unfolding first_never
    never_later e = rw (drop-cons run k 0 l, ← q, e) (ap (λ (m : ℕ). first_never week (steps_of sys lengths (drop m run)) (k + 1)) (sym (add-one k)))

  pub never_over : length run ≤ k → first_never week (steps_of sys lengths (drop k run)) k ≡ none
  unfolding first_never
  never_over l = rw (drop_of_length-le run {i = k} l)

-- ---- the rules noted as fitting: none at first, and one more that is not never
module _ (week : Process → List Window) (sys : System) (lengths : List ℕ) where
  pub judged_none : (m : ℕ) → Judged week sys lengths (replicate m false)
  judged_none m = record { fits = λ n e. absurd (false≢true (sym (all_alike m n false) ∙ e)) }
