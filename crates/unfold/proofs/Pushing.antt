-- Laws of the path that is pushed on the stack.
use mathlib.Core.Path.{◌≡◌, refl, ap, sym, ◌∙◌}
use mathlib.Core.List.{List, [], ◌∷◌, ◌++◌, append_assoc}
use Prim.Native.Nat.{ℕ, zero, suc, ◌+◌, ◌-◌, ◌<◌, ◌≤◌}
use native.Mathlib.Decide.{ℕ_discrete, dec_le, dec_lt}
use native.Mathlib.Omega.{arith}
use lib.ListN.{length, get_or, drop, length-append, drop_of_length-le, get_or-eq_default}
use lib.Seq.{drop-cons}
use borrow.Author.Tests.{eq-eqb, le-leb, lt-leb, ne_eqb}
use Rattle.model.specs.Lists.{Each}
use Rattle.model.specs.Log.{no_number}
use Rattle.model.specs.Tables.{written_places}
use Rattle.model.specs.Records.{place_at}
use Rattle.model.proofs.Lists.{each_get, get_d_mem}
use Rattle.numbers.specs.NumberBytes.{with_number}
use Rattle.numbers.proofs.NumberBytes.{length_number}
use Rattle.scratch.specs.Regions.{stack_at}
use Rattle.records.specs.Entries.{path_place}
use Rattle.scratch.specs.StackNumbers.{stack_place, stack_of}
use Rattle.scratch.proofs.StackNumbers.{length_down, stack_push}
use Rattle.unfold.specs.Turns.{length_from, path_length, place_below, places, places_from, StackRoom, Pushed}

-- ---- the length of a path
length_none : (log : List ℕ) (x j k : ℕ) → place_at log x j ≡ no_number → length_from log x j k ≡ 0
unfolding length_from
length_none log x j zero e = refl
length_none log x j (suc k) e = rw (eq-eqb (place_at log x j) no_number e)

length_more : (log : List ℕ) (x j k : ℕ) → (place_at log x j ≡ no_number → ⊥) → length_from log x j (suc k) ≡ suc (length_from log x (suc j) k)
unfolding length_from
length_more log x j k n = rw (ne_eqb (place_at log x j) no_number n)

length_most : (log : List ℕ) (x j k : ℕ) → length_from log x j k ≤ k
unfolding length_from
length_most log x j zero = omega arith
length_most log x j (suc k) = elim (ℕ_discrete (place_at log x j) no_number) [
  | yes e ↦ omega (arith, length_none log x j (suc k) e)
  | no n ↦ omega (arith, length_more log x j k n, length_most log x (suc j) k)
]

-- the first n places have numbers
pub record Measuring (log : List ℕ) (x n : ℕ) : Type 0 where
  pub inside : n ≤ written_places
  pub counted : path_length log x ≡ n + length_from log x n (written_places - n)

module _ {log : List ℕ} {x n : ℕ} (m : Measuring log x n) where
  pub measured_none : {place : ℕ} → place ≡ place_at log x n → place ≡ no_number → n ≡ path_length log x
  measured_none is e = omega (arith, m.counted, length_none log x n (written_places - n) (sym is ∙ e))

  pub measuring_turn : n < written_places → {place : ℕ} → place ≡ place_at log x n → (place ≡ no_number → ⊥) → Measuring log x (n + 1)
  measuring_turn less {place} is some =
      let more : written_places - n ≡ suc (written_places - (n + 1)) = omega arith in
      let next : suc n ≡ n + 1 = omega arith in
      let one : length_from log x n (written_places - n) ≡ suc (length_from log x (n + 1) (written_places - (n + 1))) =
      ap (length_from log x n) more ∙ length_more log x n (written_places - (n + 1)) (λ e. some (is ∙ e)) ∙ ap (λ (j : ℕ). suc (length_from log x j (written_places - (n + 1)))) next in
      record { inside = omega arith; counted = omega (arith, m.counted, one) }

  pub measured_all : written_places ≤ n → n ≡ path_length log x
  measured_all all = omega (arith, m.counted, m.inside, length_most log x n (written_places - n))

-- ---- one place
below_none : (log : List ℕ) (x j n : ℕ) → n ≤ j → place_below log x j n ≡ []
unfolding place_below
below_none log x j n h = rw (le-leb n j h)

below_some : (log : List ℕ) (x j n : ℕ) → j < n → place_below log x j n ≡ place_at log x j ∷ []
unfolding place_below
below_some log x j n h = rw (lt-leb n j h)

pub pushed_none : (s log : List ℕ) (top x j n : ℕ) → n ≤ j → Pushed s top (place_below log x j n) s top
pushed_none s log top x j n h = record { size = refl; stack = sym (ap (λ (l : List ℕ). l ++ stack_of s top) (below_none log x j n h)) }

pub below_one : (log : List ℕ) (x j n : ℕ) → j < n → length (place_below log x j n) ≡ 1
below_one log x j n h = ap length (below_some log x j n h)

pub pushed_some : (s log : List ℕ) (top x j n place : ℕ) → j < n → place ≡ place_at log x j → place < 65536 → StackRoom s (top + length (place_below log x j n))
    → Pushed s top (place_below log x j n) (with_number 2 s (stack_place top) place) (top + 1)
pushed_some s log top x j n place h is f room = record {
  size = length_number 2 s (stack_place top) place;
  stack = stack_push s top place (omega (arith, below_one log x j n h)) f
      ∙ ap (λ (p : ℕ). p ∷ stack_of s top) is ∙ sym (ap (λ (l : List ℕ). l ++ stack_of s top) (below_some log x j n h));
}

-- ---- the loop: of the first n places those from j on are pushed
pub record Pushing (log s : List ℕ) (top x n j : ℕ) (s' : List ℕ) (height : ℕ) : Type 0 where
  pub left : j ≤ written_places
  pub pushed : Pushed s top (places_from log x j (n - j)) s' height

length_places : (log : List ℕ) (x j k : ℕ) → length (places_from log x j k) ≡ k
unfolding places_from
length_places log x j zero = refl
length_places log x j (suc k) = ap suc (length_places log x _ k)

no_places : (log : List ℕ) (x j k : ℕ) → k ≡ 0 → places_from log x j k ≡ []
unfolding places_from
no_places log x j k e = rw e

pub pushing_start : (log s : List ℕ) (top x n : ℕ) → n ≡ path_length log x → Pushing log s top x n written_places s top
pushing_start log s top x n is = record {
  left = omega arith;
  pushed = record { size = refl; stack = sym (ap (λ (l : List ℕ). l ++ stack_of s top) (no_places log x written_places (n - written_places) (omega (arith, is, length_most log x 0 written_places)))) };
}

-- place j - 1 is the next
places_less : (log : List ℕ) (x n j : ℕ) → 0 < j → places_from log x (j - 1) (n - (j - 1)) ≡ place_below log x (j - 1) n ++ places_from log x j (n - j)
unfolding places_from
places_less log x n j h = elim (dec_le n (j - 1)) [
  | yes none ↦
      no_places log x (j - 1) (n - (j - 1)) (omega arith) ∙ sym (no_places log x j (n - j) (omega arith))
      ∙ sym (ap (λ (l : List ℕ). l ++ places_from log x j (n - j)) (below_none log x (j - 1) n none))
  | no some ↦
      let more : n - (j - 1) ≡ suc (n - j) = omega arith in
      let next : suc (j - 1) ≡ j = omega arith in
      ap (places_from log x (j - 1)) more ∙ ap (λ (i : ℕ). place_at log x (j - 1) ∷ places_from log x i (n - j)) next
      ∙ sym (ap (λ (l : List ℕ). l ++ places_from log x j (n - j)) (below_some log x (j - 1) n (omega arith)))
]

module _ {log s : List ℕ} {top x n j : ℕ} {s' : List ℕ} {height : ℕ} (h : 0 < j) (p : Pushing log s top x n j s' height) where
  pub pushing_room : n ≡ path_length log x → StackRoom s (top + length (places log x)) → StackRoom s' (height + length (place_below log x (j - 1) n))
  pushing_room is room =
      let tall : height ≡ length (places_from log x j (n - j)) + top =
      sym (length_down s' stack_at height) ∙ ap length p.pushed.stack ∙ length-append (places_from log x j (n - j)) (stack_of s top)
      ∙ ap (λ (k : ℕ). length (places_from log x j (n - j)) + k) (length_down s stack_at top) in
      let one : length (places_from log x (j - 1) (n - (j - 1))) ≡ length (place_below log x (j - 1) n) + length (places_from log x j (n - j)) =
      ap length (places_less log x n j h) ∙ length-append (place_below log x (j - 1) n) (places_from log x j (n - j)) in
      omega (arith, length_places log x (j - 1) (n - (j - 1)), length_places log x 0 (path_length log x), p.pushed.size)

  pub pushing_turn : {s'' : List ℕ} {higher : ℕ} → Pushed s' height (place_below log x (j - 1) n) s'' higher → Pushing log s top x n (j - 1) s'' higher
  pushing_turn {s''} {higher} q = record {
    left = omega (arith, p.left);
    pushed = record {
      size = q.size ∙ p.pushed.size;
      stack = q.stack ∙ ap (λ (l : List ℕ). place_below log x (j - 1) n ++ l) p.pushed.stack
          ∙ sym (append_assoc (place_below log x (j - 1) n) (places_from log x j (n - j)) (stack_of s top)) ∙ ap (λ (l : List ℕ). l ++ stack_of s top) (sym (places_less log x n j h));
    };
  }

-- ---- the places of a record whose path is known
module _ (log : List ℕ) (x : ℕ) (path : List ℕ) (short : length path ≤ written_places) (small : Each (λ (m : ℕ). m < no_number) path) (is : (i : ℕ) → i < written_places → place_at log x i ≡ path_place path i) where
  length_known : (k j : ℕ) → j + k ≡ written_places → length_from log x j k ≡ length (drop j path)
  unfolding length_from
  length_known zero j e = sym (ap length (drop_of_length-le path {i = j} (omega arith)))
  length_known (suc k) j e = elim (dec_lt j (length path)) [
    | yes l ↦
        let m : get_or path j no_number < no_number = each_get (λ (m : ℕ). m < no_number) (get_or path j no_number) path small (get_d_mem path j no_number l) in
        length_more log x j k (λ q. omega (arith, is j (omega arith), m, q)) ∙ ap suc (length_known k (suc j) (omega arith)) ∙ ap length (sym (drop-cons path j no_number l))
    | no l ↦
        length_none log x j (suc k) (is j (omega arith) ∙ get_or-eq_default path no_number {n = j} (omega arith)) ∙ sym (ap length (drop_of_length-le path {i = j} (omega arith)))
  ]

  places_known : (k j : ℕ) → j + k ≡ length path → places_from log x j k ≡ drop j path
  unfolding places_from
  places_known zero j e = sym (drop_of_length-le path {i = j} (omega arith))
  places_known (suc k) j e =
      ap (λ (l : List ℕ). place_at log x j ∷ l) (places_known k (suc j) (omega arith))
      ∙ ap (λ (y : ℕ). y ∷ drop (suc j) path) (is j (omega arith)) ∙ sym (drop-cons path j no_number (omega arith))

  pub path_places : places log x ≡ path
  path_places = ap (places_from log x 0) (length_known written_places 0 refl) ∙ places_known (length path) 0 (omega arith)
