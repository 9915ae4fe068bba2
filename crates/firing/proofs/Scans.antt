-- The scan from the top for the letter at which a rule fires.
use mathlib.Core.Path.{◌≡◌, refl, ap, sym, subst, ◌∙◌}
use mathlib.Core.Bool.{true, false}
use mathlib.Core.List.{List, [], ◌∷◌, ◌++◌}
use Prim.Native.Nat.{ℕ, suc, ◌+◌, ◌-◌, ◌<◌, ◌≤◌}
use native.Mathlib.Numerals.{add-one}
use native.Mathlib.Omega.{arith}
use lib.Bits.{bit_and}
use lib.Dec.{eqb, ltb}
use lib.ListN.{length, get_or, take, drop, length-drop}
use lib.Seq.{drop-cons, drop-drop}
use borrow.Author.Tests.{eq-eqb, ne_eqb, lt-ltb, le-ltb, ltb-true, ltb-false}
use Rattle.model.specs.Groups.{Processes, apart_test, processes_of, restrict, same_group}
use Rattle.model.specs.Systems.{Rule, enabled}
use Rattle.model.proofs.Words.{Located}
use Rattle.model.specs.Words.{remove_first}
use Rattle.firing.proofs.CodeTests.{tops_scan, scan_is}
use Rattle.model.proofs.Tests.{by_test, all_below_at, same_bool, same_bool_lem}
use Rattle.model.specs.Lists.{all_below}
use Rattle.model.specs.declared.Placed.{Placed}
use Rattle.firing.specs.Piles.{configuration}
use Rattle.firing.specs.Places.{place, firing_place}

-- ---- sets of processes as bits
-- no process is in both sets if no bit is in both numbers
pub apart_bits : (x y : ℕ) → x ≤ 15 → y ≤ 15 → eqb (bit_and x y) 0 ≡ apart_test (processes_of x) (processes_of y)
apart_bits x y h q =
    same_bool_lem (eqb (bit_and x y) 0) (apart_test (processes_of x) (processes_of y))
    (all_below_at 16 (λ j. same_bool (eqb (bit_and x j) 0) (apart_test (processes_of x) (processes_of j)))
    (all_below_at 16 (λ i. all_below 16 (λ j. same_bool (eqb (bit_and i j) 0) (apart_test (processes_of i) (processes_of j)))) refl x (omega arith)) y (omega arith))

-- ---- the scan, letter by letter
ltb_suc : (m n : ℕ) → ltb m n ≡ ltb (suc m) (suc n)
ltb_suc m n = by_test (ltb m n)
    (λ y. y ∙ sym (lt-ltb (suc m) (suc n) (omega (arith, ltb-true m n y))))
    (λ f. f ∙ sym (le-ltb (suc m) (suc n) (omega (arith, ltb-false m n f))))

module _ (loc : ℕ → Processes) (a : ℕ) where
  place_here : (b : ℕ) (w : List ℕ) → b ≡ a → place loc a (b ∷ w) ≡ 0
  unfolding place
  place_here b w e = rw (eq-eqb b a e)

  place_blocked : (b : ℕ) (w : List ℕ) → (b ≡ a → ⊥) → apart_test (loc a) (loc b) ≡ false → place loc a (b ∷ w) ≡ suc (length w)
  unfolding place
  place_blocked b w n e = rw (ne_eqb b a n, e)

  place_past : (b : ℕ) (w : List ℕ) → (b ≡ a → ⊥) → apart_test (loc a) (loc b) ≡ true → place loc a (b ∷ w) ≡ suc (place loc a w)
  unfolding place
  place_past b w n e = rw (ne_eqb b a n, e)

  pub place_within : (w : List ℕ) → place loc a w ≤ length w
  unfolding place
  place_within [] = omega arith
  place_within (b ∷ w) = by_test (eqb b a)
      (λ y. rw y (omega arith))
      (λ n. rw n (by_test (apart_test (loc a) (loc b)) (λ y. rw y (omega (arith, place_within w))) (λ f. rw f (omega arith))))

  -- it is the test that a tops the word
  pub place_scan : (w : List ℕ) → tops_scan loc a w ≡ ltb (place loc a w) (length w)
  unfolding place
  place_scan [] = sym (le-ltb 0 0 (omega arith))
  place_scan (b ∷ w) = by_test (eqb b a)
      (λ y. rw y (sym (lt-ltb 0 (suc (length w)) (omega arith))))
      (λ n. rw n (by_test (apart_test (loc a) (loc b))
      (λ y. rw y (place_scan w ∙ ltb_suc (place loc a w) (length w)))
      (λ f. rw f (sym (le-ltb (suc (length w)) (suc (length w)) (omega arith))))))

  -- the letter at the place is the first a
  pub place_removes : (w : List ℕ) → place loc a w < length w → remove_first a w ≡ take (place loc a w) w ++ drop (place loc a w + 1) w
  unfolding place
  place_removes [] h = absurd (omega arith)
  place_removes (b ∷ w) h = by_test (eqb b a)
      (λ y. rw y refl)
      (λ n. by_test (apart_test (loc a) (loc b))
      (λ y. rw (n, y) (
      let less : place loc a w < length w = (let q : suc (place loc a w) < suc (length w) = rw (n, y) at h in omega arith) in
      let same : suc (place loc a w + 1) ≡ suc (place loc a w) + 1 = omega arith in
      ap (λ (v : List ℕ). b ∷ v) (place_removes w less) ∙ ap (λ (k : ℕ). b ∷ (take (place loc a w) w ++ drop k (b ∷ w))) same))
      (λ f. absurd (let q : suc (length w) < suc (length w) = rw (n, f) at h in omega arith)))

  -- ---- the loop: the letters from `top` up to p were passed over
  pub record Finding (pile : List ℕ) (top p : ℕ) : Type 0 where
    pub low : top ≤ p
    pub high : p ≤ length pile
    pub same : top + place loc a (drop top pile) ≡ p + place loc a (drop p pile)

  pub finding_here : (pile : List ℕ) (top p : ℕ) → Finding pile top p → p < length pile → get_or pile p 0 ≡ a → p ≡ top + place loc a (drop top pile)
  finding_here pile top p f h e =
      let z : place loc a (drop p pile) ≡ 0 = ap (place loc a) (drop-cons pile p 0 h) ∙ place_here (get_or pile p 0) (drop (suc p) pile) e in
      omega (arith, f.same)

  pub finding_blocked : (pile : List ℕ) (top p : ℕ) → Finding pile top p → p < length pile → (get_or pile p 0 ≡ a → ⊥) → apart_test (loc a) (loc (get_or pile p 0)) ≡ false
      → length pile ≡ top + place loc a (drop top pile)
  finding_blocked pile top p f h n e =
      let z : place loc a (drop p pile) ≡ suc (length (drop (suc p) pile)) = ap (place loc a) (drop-cons pile p 0 h) ∙ place_blocked (get_or pile p 0) (drop (suc p) pile) n e in
      omega (arith, f.same, length-drop (suc p) pile)

  pub finding_turn : (pile : List ℕ) (top p : ℕ) → Finding pile top p → p < length pile → (get_or pile p 0 ≡ a → ⊥) → apart_test (loc a) (loc (get_or pile p 0)) ≡ true → Finding pile top (p + 1)
  finding_turn pile top p f h n e =
      let z : place loc a (drop p pile) ≡ suc (place loc a (drop (suc p) pile)) = ap (place loc a) (drop-cons pile p 0 h) ∙ place_past (get_or pile p 0) (drop (suc p) pile) n e in
      let s : place loc a (drop (suc p) pile) ≡ place loc a (drop (p + 1) pile) = ap (λ (k : ℕ). place loc a (drop k pile)) (sym (add-one p)) in
      record { low = omega (arith, f.low); high = omega arith; same = omega (arith, f.same) }

-- ---- the rule's letter
module _ (loc : ℕ → Processes) (ne : Located loc) (r : Rule) (pile : List ℕ) (c : Placed) (inside : c.top ≤ length pile) where
  -- the rule fires exactly where there is a place
  pub place_enabled : enabled loc r (configuration pile c) ≡ ltb (firing_place loc r pile c) (length pile)
  unfolding enabled firing_place
  place_enabled = by_test (same_group (restrict (loc r.letter) c.states) r.before)
      (λ y. rw y (sym (scan_is loc ne r.letter (drop c.top pile)) ∙ place_scan loc r.letter (drop c.top pile) ∙ shifted (place loc r.letter (drop c.top pile))))
      (λ f. rw f (sym (le-ltb (length pile) (length pile) (omega arith))))
    where
      shifted : (n : ℕ) → ltb n (length (drop c.top pile)) ≡ ltb (c.top + n) (length pile)
      shifted n =
          let d : length (drop c.top pile) ≡ length pile - c.top = length-drop c.top pile in
          by_test (ltb n (length (drop c.top pile)))
          (λ y. y ∙ sym (lt-ltb (c.top + n) (length pile) (omega (arith, ltb-true n (length (drop c.top pile)) y))))
          (λ f. f ∙ sym (le-ltb (c.top + n) (length pile) (omega (arith, ltb-false n (length (drop c.top pile)) f))))

  -- what remains of the word without the letter there
  pub place_rest : firing_place loc r pile c < length pile
      → (c.top ≤ firing_place loc r pile c) × (remove_first r.letter (drop c.top pile) ≡ take (firing_place loc r pile c - c.top) (drop c.top pile) ++ drop (firing_place loc r pile c + 1) pile)
  unfolding firing_place
  place_rest h = by_test (same_group (restrict (loc r.letter) c.states) r.before)
      (λ y. rw y (rest (place loc r.letter (drop c.top pile)) refl (rw y at h)))
      (λ f. absurd (let q : length pile < length pile = rw f at h in omega arith))
    where
      rest : (n : ℕ) → n ≡ place loc r.letter (drop c.top pile) → c.top + n < length pile
          → (c.top ≤ c.top + n) × (remove_first r.letter (drop c.top pile) ≡ take (c.top + n - c.top) (drop c.top pile) ++ drop (c.top + n + 1) pile)
      rest n e l =
          let d : length (drop c.top pile) ≡ length pile - c.top = length-drop c.top pile in
          let s : n ≡ c.top + n - c.top = omega arith in
          let k : c.top + (n + 1) ≡ c.top + n + 1 = omega arith in (
            omega arith,
            subst (λ (m : ℕ). m < length (drop c.top pile) → remove_first r.letter (drop c.top pile) ≡ take m (drop c.top pile) ++ drop (m + 1) (drop c.top pile)) (sym e) (place_removes loc r.letter (drop c.top pile)) (omega arith)
                ∙ ap (λ (m : ℕ). take m (drop c.top pile) ++ drop (n + 1) (drop c.top pile)) s
                ∙ ap (λ (v : List ℕ). take (c.top + n - c.top) (drop c.top pile) ++ v) (drop-drop (n + 1) c.top pile ∙ ap (λ (m : ℕ). drop m pile) k),
          )
