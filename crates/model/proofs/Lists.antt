-- Laws of lists.
use mathlib.Core.Path.{◌∙◌, ◌≡◌, ap, refl, subst, sym}
use mathlib.Core.Bool.{Bool, cond, false, false≢true, true, true≢false}
use mathlib.Core.Logic.{◌≢◌, ⊎_elim}
use mathlib.Core.Option.{Option, none, some}
use mathlib.Core.List.Memᴰ
use mathlib.Core.List.{List, Memᴰ, [], ◌++◌, ◌∷◌, map}
use Prim.Native.Nat.{◌+◌, ◌<◌, ◌≤◌, suc, zero, ℕ}
use native.Mathlib.Omega.{arith}
use native.Mathlib.Nat.{not-suc-le-zero}
use lib.Dec.{eqb}
use lib.ListN.{drop, drop_of_length-le, get_or, get_elem?, length, replicate}
use lib.Seq.{drop-cons}
use borrow.Author.Tests.{eqb-false, eqb-true, ne_eqb}
use Rattle.model.specs.Lists.{Each, all_of, and_then, any_of, is_empty, filter, sum_over}
use Rattle.model.proofs.Tests.{and_left, and_right, by_test}

-- ---- a walk, step by step
pub and_then_inv : {A B : Type 0} (o : Option A) (f : A → Option B) (b : B) → and_then o f ≡ some b → (a : A) × (o ≡ some a) × (f a ≡ some b)
and_then_inv none f b e = absurd (let z : ◌≡◌ {A = ℕ} 0 1 = cc in omega arith)
and_then_inv (some a) f b e = (a, refl, e)

pub all_alike : {A : Type 0} (n k : ℕ) (x : A) → get_or (replicate n x) k x ≡ x
all_alike zero k x = refl
all_alike (suc n) zero x = refl
all_alike (suc n) (suc k) x = all_alike n k x

pub elem_some : {A : Type 0} (l : List A) (k : ℕ) (d : A) → k < length l → get_elem? l k ≡ some (get_or l k d)
elem_some [] k d h = absurd (not-suc-le-zero h)
elem_some (x ∷ l) zero d h = refl
elem_some (x ∷ l) (suc k) d h = elem_some l k d (omega arith)

-- ---- candidates
pub get_elem_at : {A : Type 0} (pre : List A) (x : A) (xs : List A) (n : ℕ) → length pre ≡ n → get_elem? (pre ++ x ∷ xs) n ≡ some x
get_elem_at [] x xs zero e = refl
get_elem_at [] x xs (suc n) e = absurd (omega arith)
get_elem_at (p ∷ pre) x xs zero e = absurd (omega arith)
get_elem_at (p ∷ pre) x xs (suc n) e = get_elem_at pre x xs n (omega arith)

pub map_append : {A B : Type 0} (f : A → B) (xs ys : List A) → map f (xs ++ ys) ≡ map f xs ++ map f ys
map_append f [] ys = refl
map_append {A} {B} f (x ∷ xs) ys = ap (λ (l : List B). f x ∷ l) (map_append f xs ys)

pub each_both : {A : Type 0} (P Q R : A → Type 0) → ((x : A) → P x → Q x → R x) → (l : List A) → Each P l → Each Q l → Each R l
each_both P Q R f [] p q = tt
each_both P Q R f (x ∷ l) p q = (f x p.0 q.0, each_both P Q R f l p.1 q.1)

pub each_append {ℓ} : {A : Type ℓ} (P : A → Type 0) (xs ys : List A) → Each P xs → Each P ys → Each P (xs ++ ys)
each_append P [] ys p q = q
each_append P (x ∷ xs) ys p q = (p.0, each_append P xs ys p.1 q)

pub each_left {ℓ} : {A : Type ℓ} (P : A → Type 0) (xs ys : List A) → Each P (xs ++ ys) → Each P xs
each_left P [] ys p = tt
each_left P (x ∷ xs) ys p = (p.0, each_left P xs ys p.1)

pub each_right {ℓ} : {A : Type ℓ} (P : A → Type 0) (xs ys : List A) → Each P (xs ++ ys) → Each P ys
each_right P [] ys p = p
each_right P (x ∷ xs) ys p = each_right P xs ys p.1

pub each_map {ℓ} : {A : Type ℓ} (P Q : A → Type 0) → ((x : A) → P x → Q x) → (xs : List A) → Each P xs → Each Q xs
each_map P Q f [] p = tt
each_map P Q f (x ∷ xs) p = (f x p.0, each_map P Q f xs p.1)

pub each_of_map : {A B : Type 0} (P : B → Type 0) (f : A → B) (xs : List A) → Each (λ (x : A). P (f x)) xs → Each P (map f xs)
each_of_map P f [] e = tt
each_of_map P f (x ∷ xs) e = (e.0, each_of_map P f xs e.1)

pub each_any : {A : Type 0} (P : A → Type 0) → ((x : A) → P x) → (xs : List A) → Each P xs
each_any P f [] = tt
each_any P f (x ∷ xs) = (f x, each_any P f xs)

pub each_mem : {A : Type 0} (xs : List A) → Each (λ (x : A). Memᴰ x xs) xs
each_mem [] = tt
each_mem {A} (x ∷ xs) = (Memᴰ.head refl, each_map (λ (y : A). Memᴰ y xs) (λ (y : A). Memᴰ y (x ∷ xs)) (λ y m. Memᴰ.tail m) xs (each_mem xs))

pub mem_each : {A : Type 0} (xs : List A) (P : A → Type 0) → ((x : A) → Memᴰ x xs → P x) → Each P xs
mem_each [] P f = tt
mem_each (x ∷ xs) P f = (f x (Memᴰ.head refl), mem_each xs P (λ y m. f y (Memᴰ.tail m)))

pub each_get : {A : Type 0} (P : A → Type 0) (x : A) (xs : List A) → Each P xs → Memᴰ x xs → P x
each_get P x [] e m = absurd (Memᴰ.not-nil m)
each_get P x (y ∷ xs) e m = ⊎_elim (λ q. subst P (sym q) e.0) (λ m'. each_get P x xs e.1 m') (Memᴰ.cases_cons m)

pub each_less : (n k : ℕ) (ns : List ℕ) → n ≤ k → Each (λ (m : ℕ). m < n) ns → Each (λ (m : ℕ). m < k) ns
each_less n k ns h = each_map (λ (m : ℕ). m < n) (λ (m : ℕ). m < k) (λ m p. omega arith) ns

pub is_empty_true : {A : Type 0} (xs : List A) → is_empty xs ≡ true → xs ≡ []
is_empty_true [] e = refl
is_empty_true (x ∷ xs) e = absurd (false≢true e)

pub length_zero : {A : Type 0} (xs : List A) → length xs ≡ 0 → xs ≡ []
length_zero [] e = refl
length_zero (x ∷ xs) e = absurd (omega arith)

pub is_empty_false : {A : Type 0} (xs : List A) → is_empty xs ≡ false → 0 < length xs
is_empty_false [] e = absurd (true≢false e)
is_empty_false (x ∷ xs) e = omega arith

-- ---- distinct
abbrev pub Distinct {ℓ} : {A : Type ℓ} → List A → Type ℓ
Distinct [] = Unit
Distinct (x ∷ xs) = (Memᴰ x xs → ⊥) × Distinct xs

pub distinct_append : {A : Type 0} (xs ys : List A) → Distinct xs → Distinct ys → ((x : A) → Memᴰ x xs → Memᴰ x ys → ⊥) → Distinct (xs ++ ys)
distinct_append [] ys p q f = q
distinct_append (x ∷ xs) ys p q f = (
  (λ m. ⊎_elim p.0 (λ n. f x (Memᴰ.head refl) n) (Memᴰ.append_cases xs m)),
  distinct_append xs ys p.1 q (λ z m n. f z (Memᴰ.tail m) n),
)

pub distinct_map : {A B : Type 0} (f : A → B) (xs : List A) → ((x y : A) → Memᴰ x xs → Memᴰ y xs → f x ≡ f y → x ≡ y) → Distinct xs → Distinct (map f xs)
distinct_map f [] inj d = tt
distinct_map {A} f (x ∷ xs) inj d = (
  (λ m. let r = Memᴰ.of_map f xs m in d.0 (Memᴰ.cast (inj x r.0 (Memᴰ.head refl) (Memᴰ.tail r.1) (sym r.2)) r.1)),
  distinct_map f xs (λ y z m n e. inj y z (Memᴰ.tail m) (Memᴰ.tail n) e) d.1,
)

-- ---- the pigeonhole
abbrev without : ℕ → List ℕ → List ℕ
without n [] = []
without n (m ∷ ms) = cond (eqb m n) (without n ms) (m ∷ without n ms)

without_mem : (n x : ℕ) (ms : List ℕ) → Memᴰ x (without n ms) → Memᴰ x ms
without_mem n x [] m = m
without_mem n x (y ∷ ms) m = by_test (eqb y n)
    (λ t. Memᴰ.tail (without_mem n x ms (rw t at m)))
    (λ f. ⊎_elim (λ e. Memᴰ.head e) (λ m'. Memᴰ.tail (without_mem n x ms m')) (Memᴰ.cases_cons (rw f at m)))

without_distinct : (n : ℕ) (ms : List ℕ) → Distinct ms → Distinct (without n ms)
without_distinct n [] d = tt
without_distinct n (y ∷ ms) d = by_test (eqb y n) (λ t. rw t (without_distinct n ms d.1)) (λ f. rw f ((λ m. d.0 (without_mem n y ms m)), without_distinct n ms d.1))

without_below : (n : ℕ) (ms : List ℕ) → Each (λ (m : ℕ). m < suc n) ms → Each (λ (m : ℕ). m < n) (without n ms)
without_below n [] e = tt
without_below n (y ∷ ms) e = by_test (eqb y n) (λ t. rw t (without_below n ms e.1))
    (λ f. rw f (let ne : y ≢ n = eqb-false y n f in let lt : y < suc n = e.0 in (omega arith, without_below n ms e.1)))

without_absent : (n : ℕ) (ms : List ℕ) → (Memᴰ n ms → ⊥) → without n ms ≡ ms
without_absent n [] h = refl
without_absent n (y ∷ ms) h =
    rw (ne_eqb y n (λ e. h (Memᴰ.head (sym e)))) (ap (λ (l : List ℕ). y ∷ l) (without_absent n ms (λ m. h (Memᴰ.tail m))))

without_length : (n : ℕ) (ms : List ℕ) → Distinct ms → length ms ≤ suc (length (without n ms))
without_length n [] d = omega arith
without_length n (y ∷ ms) d = by_test (eqb y n)
    (λ t. rw t (let same : without n ms ≡ ms = without_absent n ms (subst (λ (k : ℕ). Memᴰ k ms → ⊥) (eqb-true y n t) d.0) in omega (arith, ap length same)))
    (λ f. rw f (omega (arith, without_length n ms d.1)))

-- distinct numbers below n are at most n
pub pigeonhole : (n : ℕ) (ms : List ℕ) → Distinct ms → Each (λ (m : ℕ). m < n) ms → length ms ≤ n
pigeonhole zero [] d e = omega arith
pigeonhole zero (m ∷ ms) d e = absurd (not-suc-le-zero e.0)
pigeonhole (suc n) ms d e =
    let below : length (without n ms) ≤ n = pigeonhole n (without n ms) (without_distinct n ms d) (without_below n ms e) in
    omega (arith, without_length n ms d)

pub each_elem : {A : Type 0} (P : A → Type 0) (xs : List A) → Each P xs → (n : ℕ) (x : A) → get_elem? xs n ≡ some x → P x
each_elem P [] e n x is = absurd (let z : ◌≡◌ {A = ℕ} 0 1 = cc in omega arith)
each_elem P (y ∷ xs) e zero x is = let same : y ≡ x = cc in subst P same e.0
each_elem P (y ∷ xs) e (suc n) x is = each_elem P xs e.1 n x is

pub all_each : {A : Type 0} (f : A → Bool) (xs : List A) → all_of f xs ≡ true → Each (λ (x : A). f x ≡ true) xs
all_each f [] e = tt
all_each f (x ∷ xs) e = (and_left (f x) (all_of f xs) e, all_each f xs (and_right (f x) (all_of f xs) e))

pub each_all : {A : Type 0} (f : A → Bool) (xs : List A) → Each (λ (x : A). f x ≡ true) xs → all_of f xs ≡ true
each_all f [] e = refl
each_all f (x ∷ xs) e = rw e.0 (each_all f xs e.1)

pub any_true : {A : Type 0} (f : A → Bool) (xs : List A) → any_of f xs ≡ true → (x : A) × Memᴰ x xs × (f x ≡ true)
any_true f [] e = absurd (false≢true e)
any_true f (x ∷ xs) e = by_test (f x)
    (λ y. (x, Memᴰ.head refl, y))
    (λ n. let r = any_true f xs (rw n at e) in (r.0, Memᴰ.tail r.1, r.2))

pub any_of_lem : {A : Type 0} (f : A → Bool) (xs : List A) (x : A) → Memᴰ x xs → f x ≡ true → any_of f xs ≡ true
any_of_lem f [] x m e = absurd (Memᴰ.not-nil m)
any_of_lem {A} f (y ∷ xs) x m e = by_test (f y) (λ t. rw t) (λ n. rw n (⊎_elim
    (λ (same : x ≡ y). absurd (true≢false (sym e ∙ ap f same ∙ n)))
    (λ (m' : Memᴰ x xs). any_of_lem f xs x m' e)
    (Memᴰ.cases_cons m)))

pub get_d_mem : {A : Type 0} (xs : List A) (i : ℕ) (d : A) → i < length xs → Memᴰ (get_or xs i d) xs
get_d_mem [] i d h = absurd (not-suc-le-zero h)
get_d_mem (x ∷ xs) zero d h = Memᴰ.head refl
get_d_mem (x ∷ xs) (suc i) d h = Memᴰ.tail (get_d_mem xs i d (omega arith))

-- ---- a list by its places
abbrev pub places_from : ℕ → ℕ → List ℕ → List ℕ
places_from k zero l = []
places_from k (suc n) l = get_or l k 0 ∷ places_from (suc k) n l

pub by_places : (k n : ℕ) (l : List ℕ) → length l ≡ k + n → places_from k n l ≡ drop k l
by_places k zero l e = sym (drop_of_length-le l {i = k} (omega arith))
by_places k (suc n) l e = ap (λ (xs : List ℕ). get_or l k 0 ∷ xs) (by_places (suc k) n l (omega arith)) ∙ sym (drop-cons l k 0 (omega arith))

-- ---- filtered lists
pub filter_each : {A : Type 0} (f : A → Bool) (P : A → Type 0) (xs : List A) → Each P xs → Each P (filter f xs)
filter_each f P [] e = tt
filter_each f P (x ∷ xs) e = by_test (f x) (λ y. rw y (e.0, filter_each f P xs e.1)) (λ n. rw n (filter_each f P xs e.1))

pub filter_holds : {A : Type 0} (f : A → Bool) (xs : List A) → Each (λ (x : A). f x ≡ true) (filter f xs)
filter_holds f [] = tt
filter_holds f (x ∷ xs) = by_test (f x) (λ y. rw y (y, filter_holds f xs)) (λ n. rw n (filter_holds f xs))

pub filter_all : {A : Type 0} (f : A → Bool) (xs : List A) → Each (λ (x : A). f x ≡ true) xs → filter f xs ≡ xs
filter_all f [] e = refl
filter_all {A} f (x ∷ xs) e = rw e.0 (ap (λ (l : List A). x ∷ l) (filter_all f xs e.1))

pub filter_none : {A : Type 0} (f : A → Bool) (xs : List A) → Each (λ (x : A). f x ≡ false) xs → filter f xs ≡ []
filter_none f [] e = refl
filter_none f (x ∷ xs) e = rw e.0 (filter_none f xs e.1)

pub filter_append : {A : Type 0} (f : A → Bool) (xs ys : List A) → filter f (xs ++ ys) ≡ filter f xs ++ filter f ys
filter_append f [] ys = refl
filter_append {A} f (x ∷ xs) ys = by_test (f x) (λ y. rw y (ap (λ (l : List A). x ∷ l) (filter_append f xs ys))) (λ n. rw n (filter_append f xs ys))

pub filter_map : {A B : Type 0} (f : B → Bool) (h : A → Bool) (g : A → B) → ((x : A) → f (g x) ≡ h x) → (xs : List A) → filter f (map g xs) ≡ map g (filter h xs)
filter_map f h g e [] = refl
filter_map {A} {B} f h g e (x ∷ xs) = by_test (h x)
    (λ y. rw (e x, y) (ap (λ (l : List B). g x ∷ l) (filter_map f h g e xs)))
    (λ n. rw (e x, n) (filter_map f h g e xs))

-- ---- what holds of each element, by its place
pub each_place : {A : Type 0} (P : A → Type 0) (l : List A) (d : A) (j : ℕ) → Each P l → j < length l → P (get_or l j d)
each_place P [] d j e h = absurd (not-suc-le-zero h)
each_place P (x ∷ l) d zero e h = e.0
each_place P (x ∷ l) d (suc j) e h = each_place P l d j e.1 (omega arith)

pub each_by_place : (P : ℕ → Type 0) (l : List ℕ) → ((j : ℕ) → j < length l → P (get_or l j 0)) → Each P l
each_by_place P [] f = tt
each_by_place P (x ∷ l) f = (f 0 (omega arith), each_by_place P l (λ j h. f (suc j) (omega arith)))

-- ---- sums
pub sum_snoc : (f : ℕ → ℕ) (ns : List ℕ) (n : ℕ) → sum_over f (ns ++ (n ∷ [])) ≡ sum_over f ns + f n
sum_snoc f [] n = omega arith
sum_snoc f (m ∷ ns) n = let below : sum_over f (ns ++ (n ∷ [])) ≡ sum_over f ns + f n = sum_snoc f ns n in omega arith

pub elem_place : {A : Type 0} (l : List A) (k : ℕ) (d x : A) → get_elem? l k ≡ some x → (k < length l) × (get_or l k d ≡ x)
elem_place [] k d x e = absurd (let z : ◌≡◌ {A = ℕ} 0 1 = cc in omega arith)
elem_place (y ∷ l) zero d x e = (omega arith, let same : y ≡ x = cc in same)
elem_place (y ∷ l) (suc k) d x e = let r = elem_place l k d x e in (omega (arith, r.0), r.1)
