-- The candidates of a head's rules are those of its positions, one after the other.
use mathlib.Core.Path.{◌≡◌, ap, sym, subst, ◌∙◌}
use mathlib.Core.Bool.{Bool, true, false, cond}
use mathlib.Core.List.{List, [], ◌++◌, map}
use Prim.Native.Nat.{ℕ, zero, suc, ◌+◌, ◌-◌, ◌<◌, ◌≤◌}
use native.Mathlib.Decide.{dec_lt}
use native.Mathlib.Omega.{arith}
use lib.ListN.{drop, drop_of_length-le, get_or, length}
use lib.Seq.{drop-cons}
use Rattle.model.specs.Groups.{Processes}
use Rattle.model.specs.Log.{Candidate, Record, candidate, paths}
use Rattle.model.specs.Systems.{Rule}
use Rattle.model.specs.Tables.{rule_of}
use Rattle.searches.specs.Searches.{candidates_of}
use Rattle.model.proofs.Tests.{by_test}
use Rattle.table.specs.declared.Table.{Table}
use Rattle.table.specs.Reading.{Holds, rule_in, system_in}
use Rattle.table.proofs.Layouts.{rules_count}
use Rattle.rules.specs.Rules.{Ordered, ordered_rule}
use Rattle.rules.proofs.RuleOrder.{head_at, numbers_rise}

-- ---- rules by their numbers
module _ (loc : ℕ → Processes) (log : List Record) (ok : Rule → Bool) (rs : List Rule) (d : Rule) where
  -- the candidates of rule k, if it is one of those looked at
  abbrev pub offers_of : ℕ → List Candidate
  offers_of k = cond (ok (get_or rs k d)) (map (candidate loc (get_or rs k d) k) (paths loc log (get_or rs k d).written (get_or rs k d).after)) []

  -- those of the rules from number k on
  abbrev candidates_from : ℕ → List Candidate
  candidates_from k = candidates_of loc log ok (drop k rs) k

  candidates_cons : (k : ℕ) → k < length rs → candidates_from k ≡ offers_of k ++ candidates_from (suc k)
  candidates_cons k l = ap (λ (qs : List Rule). candidates_of loc log ok qs k) (drop-cons rs k d l)

  -- rules that are not looked at have none
  candidates_skip : (m k : ℕ) → k + m ≤ length rs → ((j : ℕ) → k ≤ j → j < k + m → ok (get_or rs j d) ≡ false) → candidates_from k ≡ candidates_from (k + m)
  candidates_skip zero k l f = let e : k ≡ k + 0 = omega arith in ap candidates_from e
  candidates_skip (suc m) k l f =
      let e : suc k + m ≡ k + suc m = omega arith in
      candidates_cons k (omega arith) ∙ rw (f k (omega arith) (omega arith)) (candidates_skip m (suc k) (omega arith) (λ j a b. f j (omega arith) (omega arith)) ∙ ap candidates_from e)

  candidates_to : (k n : ℕ) → k ≤ n → n ≤ length rs → ((j : ℕ) → k ≤ j → j < n → ok (get_or rs j d) ≡ false) → candidates_from k ≡ candidates_from n
  candidates_to k n a b f = let e : k + (n - k) ≡ n = omega arith in candidates_skip (n - k) k (omega arith) (λ j p q. f j p (omega arith)) ∙ ap candidates_from e

  candidates_none : (k : ℕ) → k ≤ length rs → ((j : ℕ) → k ≤ j → j < length rs → ok (get_or rs j d) ≡ false) → candidates_from k ≡ []
  candidates_none k l f = candidates_to k (length rs) l (omega arith) f ∙ ap (λ (qs : List Rule). candidates_of loc log ok qs (length rs)) (drop_of_length-le rs {i = length rs} (omega arith))

  -- ---- and by positions, numbered by `at`
  module _ (at : ℕ → ℕ) where
    -- the candidates of m positions from p on
    abbrev pub run_offers : ℕ → ℕ → List Candidate
    run_offers p zero = []
    run_offers p (suc m) = offers_of (at p) ++ run_offers (suc p) m

    -- the rules looked at, from number lo on, stand at m positions from p on, with rising numbers
    pub record Run (lo p m : ℕ) : Type 0 where
      pub bound : lo ≤ length rs
      pub first : 0 < m → lo ≤ at p
      pub inside : (q : ℕ) → p ≤ q → q < p + m → at q < length rs
      pub rises : (q r : ℕ) → p ≤ q → q < r → r < p + m → at q < at r
      pub covers : (k : ℕ) → lo ≤ k → k < length rs → ok (get_or rs k d) ≡ true → (q : ℕ) × (p ≤ q) × (q < p + m) × (at q ≡ k)

    run_next : (lo p m : ℕ) → Run lo p (suc m) → Run (suc (at p)) (suc p) m
    run_next lo p m u = record {
      bound = u.inside p (omega arith) (omega arith);
      first = λ h. u.rises p (suc p) (omega arith) (omega arith) (omega arith);
      inside = λ q a b. u.inside q (omega arith) (omega arith);
      rises = λ q r a b c. u.rises q r (omega arith) b (omega arith);
      covers = λ k a b y.
          let low : lo ≤ k = omega (arith, u.first (omega arith)) in
          let x = u.covers k low b y in
          let other : x.0 ≡ p → ⊥ = λ e. (let same : at x.0 ≡ at p = ap at e in omega (arith, x.3)) in
          (x.0, omega (arith, x.1, other), omega (arith, x.2), x.3);
    }

    pub run_candidates : (m lo p : ℕ) → Run lo p m → candidates_from lo ≡ run_offers p m
    run_candidates zero lo p u = candidates_none lo u.bound (λ j a b. by_test (ok (get_or rs j d)) (λ y. absurd (let x = u.covers j a b y in omega (arith, x.1, x.2))) (λ f. f))
    run_candidates (suc m) lo p u =
        candidates_to lo (at p) (u.first (omega arith)) (omega (arith, here)) between ∙ candidates_cons (at p) here ∙ ap (λ (cs : List Candidate). offers_of (at p) ++ cs) (run_candidates m (suc (at p)) (suc p) (run_next lo p m u))
      where
        here : at p < length rs
        here = u.inside p (omega arith) (omega arith)

        between : (j : ℕ) → lo ≤ j → j < at p → ok (get_or rs j d) ≡ false
        between j a b = by_test (ok (get_or rs j d)) (λ y. absurd (let x = u.covers j a (omega (arith, here)) y in elim (dec_lt p x.0) [
          | yes l ↦ omega (arith, u.rises p x.0 (omega arith) l x.2, x.3)
          | no l ↦ let e : x.0 ≡ p = omega (arith, x.1) in let same : at x.0 ≡ at p = ap at e in omega (arith, x.3)
        ])) (λ f. f)

-- ---- the positions of one head
module _ (table : List ℕ) (t : Table) (holds : Holds table t) (s : List ℕ) (o : Ordered table t.rules s) where
  abbrev head : ℕ → List ℕ
  head p = head_at table t.rules s o p

  -- the m positions from p on have one head, and all rules looked at stand there: the candidates are those of the positions
  pub head_candidates_lem : (loc : ℕ → Processes) (log : List Record) (ok : Rule → Bool) (p m : ℕ) → p + m ≤ t.rules → ((q : ℕ) → p ≤ q → q < p + m → head q ≡ head p)
      → ((q : ℕ) → q < t.rules → ok (rule_in table (ordered_rule s q)) ≡ true → (p ≤ q) × (q < p + m))
      → candidates_of loc log ok (system_in table).rules 0 ≡ run_offers loc log ok (system_in table).rules (rule_of []) (ordered_rule s) p m
  head_candidates_lem loc log ok p m fits same all = run_candidates loc log ok (system_in table).rules (rule_of []) (ordered_rule s) m 0 p (record {
    bound = omega arith;
    first = λ h. omega arith;
    inside = λ q a b. omega (arith, o.below q (omega arith), count);
    rises = λ q r a b c. numbers_rise table t.rules s o q r b (omega arith) (same q a (omega arith) ∙ sym (same r (omega arith) c));
    covers = λ k a b y.
        let x = o.position k (omega (arith, count)) in
        let i = all x.0 x.1 (subst (λ (j : ℕ). ok (rule_in table j) ≡ true) (sym x.2) y) in
        (x.0, i.0, i.1, x.2);
  })
    where
      count : length (system_in table).rules ≡ t.rules
      count = rules_count table t holds
