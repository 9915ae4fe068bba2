-- Lists put together from lists, and filtered ones: what is in them, and that nothing is there twice.
use mathlib.Core.Path.{◌∙◌, ◌≡◌, ap, refl, subst, sym}
use mathlib.Core.Bool.{Bool, true, true≢false}
use mathlib.Core.Logic.{⊎_elim}
use mathlib.Core.List.{List, Memᴰ, [], ◌∷◌}
use Rattle.model.specs.Lists.{concat_map, filter}
use Rattle.model.proofs.Lists.{Distinct, distinct_append}
use Rattle.model.proofs.Tests.{by_test}

-- ---- lists of lists
pub mem_concat : {A B : Type 0} (f : A → List B) (xs : List A) (x : A) (y : B) → Memᴰ x xs → Memᴰ y (f x) → Memᴰ y (concat_map f xs)
mem_concat f [] x y m n = absurd (mathlib.Core.List.Memᴰ.not-nil m)
mem_concat {A} {B} f (z ∷ xs) x y m n = ⊎_elim
    (λ (e : x ≡ z). mathlib.Core.List.Memᴰ.append_left (concat_map f xs) (subst (λ (w : A). Memᴰ y (f w)) e n))
    (λ (m' : Memᴰ x xs). mathlib.Core.List.Memᴰ.append_right (f z) (mem_concat f xs x y m' n))
    (mathlib.Core.List.Memᴰ.cases_cons m)

pub concat_mem : {A B : Type 0} (f : A → List B) (xs : List A) (y : B) → Memᴰ y (concat_map f xs) → (x : A) × Memᴰ x xs × Memᴰ y (f x)
concat_mem f [] y m = absurd (mathlib.Core.List.Memᴰ.not-nil m)
concat_mem f (z ∷ xs) y m = ⊎_elim
    (λ (n : Memᴰ y (f z)). (z, mathlib.Core.List.Memᴰ.head refl, n))
    (λ (n : Memᴰ y (concat_map f xs)). let r = concat_mem f xs y n in (r.0, mathlib.Core.List.Memᴰ.tail r.1, r.2))
    (mathlib.Core.List.Memᴰ.append_cases (f z) m)

-- lists without repetition that share no element make up one without repetition
pub distinct_concat : {A B : Type 0} (f : A → List B) (xs : List A) → ((x : A) → Memᴰ x xs → Distinct (f x))
    → ((x y : A) (b : B) → Memᴰ x xs → Memᴰ y xs → Memᴰ b (f x) → Memᴰ b (f y) → x ≡ y)
    → Distinct xs → Distinct (concat_map f xs)
distinct_concat f [] each apart d = tt
distinct_concat f (x ∷ xs) each apart d = distinct_append (f x) (concat_map f xs) (each x (mathlib.Core.List.Memᴰ.head refl))
    (distinct_concat f xs (λ y m. each y (mathlib.Core.List.Memᴰ.tail m)) (λ y z b m n. apart y z b (mathlib.Core.List.Memᴰ.tail m) (mathlib.Core.List.Memᴰ.tail n)) d.1)
    (λ b m n. let r = concat_mem f xs b n in d.0 (mathlib.Core.List.Memᴰ.cast (apart x r.0 b (mathlib.Core.List.Memᴰ.head refl) (mathlib.Core.List.Memᴰ.tail r.1) m r.2) r.1))

-- ---- the elements of which a test holds
pub mem_filter : {A : Type 0} (f : A → Bool) (xs : List A) (x : A) → Memᴰ x xs → f x ≡ true → Memᴰ x (filter f xs)
mem_filter f [] x m e = m
mem_filter {A} f (y ∷ xs) x m e = by_test (f y)
    (λ t. rw t (⊎_elim (λ (q : x ≡ y). mathlib.Core.List.Memᴰ.head q) (λ (n : Memᴰ x xs). mathlib.Core.List.Memᴰ.tail (mem_filter f xs x n e)) (mathlib.Core.List.Memᴰ.cases_cons m)))
    (λ n. rw n (⊎_elim (λ (q : x ≡ y). absurd (true≢false (sym e ∙ ap f q ∙ n))) (λ (k : Memᴰ x xs). mem_filter f xs x k e) (mathlib.Core.List.Memᴰ.cases_cons m)))

pub filter_mem : {A : Type 0} (f : A → Bool) (xs : List A) (x : A) → Memᴰ x (filter f xs) → Memᴰ x xs × (f x ≡ true)
filter_mem f [] x m = absurd (mathlib.Core.List.Memᴰ.not-nil m)
filter_mem {A} f (y ∷ xs) x m = by_test (f y)
    (λ t. ⊎_elim (λ (q : x ≡ y). (mathlib.Core.List.Memᴰ.head q, subst (λ (z : A). f z ≡ true) (sym q) t)) (λ (n : Memᴰ x (filter f xs)). let r = filter_mem f xs x n in (mathlib.Core.List.Memᴰ.tail r.0, r.1)) (mathlib.Core.List.Memᴰ.cases_cons (rw t at m)))
    (λ n. let r = filter_mem f xs x (rw n at m) in (mathlib.Core.List.Memᴰ.tail r.0, r.1))

pub distinct_filter : {A : Type 0} (f : A → Bool) (xs : List A) → Distinct xs → Distinct (filter f xs)
distinct_filter f [] d = tt
distinct_filter f (x ∷ xs) d = by_test (f x)
    (λ y. rw y ((λ m. d.0 (filter_mem f xs x m).0), distinct_filter f xs d.1))
    (λ n. rw n (distinct_filter f xs d.1))
