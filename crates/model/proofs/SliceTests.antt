-- What `all` and `any` over a slice answer, as tests of its list.
use Rattle.std.proofs.Common.{◌≡◌, refl, sym, ap, ◌∙◌, ℕ, suc, zero, ◌<◌, ◌≤◌, ◌+◌, Bool, true, false, ◌&&◌, ◌||◌, List, [], ◌∷◌, length, MatchBool, arith}
use Rattle.std.specs.List.{AllWithin, HoldsAt}
use Rattle.model.specs.Lists.{all_of, any_of}

and_false : (b : Bool) → (b && false) ≡ false
and_false true = refl
and_false false = refl

or_true : (b : Bool) → (b || true) ≡ true
or_true true = refl
or_true false = refl

all_true : {A : Type 0} (test : A → Bool) (xs : List A) → AllWithin (λ x. test x ≡ true) xs 0 (length xs) → all_of test xs ≡ true
all_true test [] h = refl
all_true test (x ∷ xs) h = rw (h 0 x (omega arith) (omega arith)) (all_true test xs (λ k d a b. h (suc k) d (omega arith) (omega arith)))

all_false : {A : Type 0} (test : A → Bool) (xs : List A) (k : ℕ) → k < length xs → HoldsAt (λ x. test x ≡ false) xs k → all_of test xs ≡ false
all_false test [] k h e = absurd (omega arith)
all_false test (x ∷ xs) zero h e = rw (e x) refl
all_false test (x ∷ xs) (suc k) h e = rw (all_false test xs k (omega arith) e) (and_false (test x))

any_true : {A : Type 0} (test : A → Bool) (xs : List A) (k : ℕ) → k < length xs → HoldsAt (λ x. test x ≡ true) xs k → any_of test xs ≡ true
any_true test [] k h e = absurd (omega arith)
any_true test (x ∷ xs) zero h e = rw (e x) refl
any_true test (x ∷ xs) (suc k) h e = rw (any_true test xs k (omega arith) e) (or_true (test x))

any_false : {A : Type 0} (test : A → Bool) (xs : List A) → AllWithin (λ x. test x ≡ false) xs 0 (length xs) → any_of test xs ≡ false
any_false test [] h = refl
any_false test (x ∷ xs) h = rw (h 0 x (omega arith) (omega arith)) (any_false test xs (λ k d a b. h (suc k) d (omega arith) (omega arith)))

pub all_answers : {A : Type 0} (test : A → Bool) (r : Bool) (xs : List A)
    → MatchBool r (AllWithin (λ x. test x ≡ true) xs 0 (length xs)) ((k : ℕ) × (k < length xs) × HoldsAt (λ x. test x ≡ false) xs k) → r ≡ all_of test xs
all_answers test true xs h = sym (all_true test xs h)
all_answers test false xs h = sym (all_false test xs h.0 h.1 h.2)

pub any_answers : {A : Type 0} (test : A → Bool) (r : Bool) (xs : List A)
    → MatchBool r ((k : ℕ) × (k < length xs) × HoldsAt (λ x. test x ≡ true) xs k) (AllWithin (λ x. test x ≡ false) xs 0 (length xs)) → r ≡ any_of test xs
any_answers test true xs h = sym (any_true test xs h.0 h.1 h.2)
any_answers test false xs h = sym (any_false test xs h)
