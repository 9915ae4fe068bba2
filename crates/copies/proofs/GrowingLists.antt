-- Lists that are mapped, filtered and put together from lists, and the first parts of lists that grow.
use mathlib.Core.Path.{◌≡◌, refl, ap, ap₂, subst, sym, ◌∙◌}
use mathlib.Core.Bool.{Bool, cond, false, true}
use mathlib.Core.List.{List, [], ◌∷◌, ◌++◌, map, append_assoc, append-nil}
use Prim.Native.Nat.{ℕ, zero, suc, ◌+◌, ◌-◌, ◌<◌, ◌≤◌}
use native.Mathlib.Omega.{arith}
use lib.ListN.{get_or, length, length-append}
use Rattle.model.specs.Lists.{concat_map, filter}
use Rattle.model.proofs.Lists.{filter_append, map_append}
use Rattle.model.proofs.Tests.{by_test}

pub concat_append : {A B : Type 0} (f : A → List B) (xs ys : List A) → concat_map f (xs ++ ys) ≡ concat_map f xs ++ concat_map f ys
concat_append f [] ys = refl
concat_append {A} {B} f (x ∷ xs) ys = ap (λ (l : List B). f x ++ l) (concat_append f xs ys) ∙ sym (append_assoc (f x) (concat_map f xs) (concat_map f ys))

-- one list for each element, or the elements as they are
pub chosen_concat : {A : Type 0} (b : Bool) (f h : A → List A) → ((x : A) → cond b (f x) (x ∷ []) ≡ h x) → (xs : List A) → cond b (concat_map f xs) xs ≡ concat_map h xs
chosen_concat true f h e [] = refl
chosen_concat {A} true f h e (x ∷ xs) = ap₂ (λ (a b : List A). a ++ b) (e x) (chosen_concat true f h e xs)
chosen_concat false f h e [] = refl
chosen_concat {A} false f h e (x ∷ xs) = ap₂ (λ (a b : List A). a ++ b) (e x) (chosen_concat false f h e xs)

pub map_same : {A B : Type 0} (f g : A → B) (test : A → Bool) → ((x : A) → test x ≡ true → f x ≡ g x) → (xs : List A) → map f (filter test xs) ≡ map g (filter test xs)
map_same f g test e [] = refl
map_same {A} {B} f g test e (x ∷ xs) = by_test (test x)
    (λ y. rw y (ap₂ (λ (b : B) (l : List B). b ∷ l) (e x y) (map_same f g test e xs)))
    (λ n. rw n (map_same f g test e xs))

pub filter_last : {A : Type 0} (f : A → Bool) (xs : List A) (y : A) → f y ≡ true → filter f (xs ++ y ∷ []) ≡ filter f xs ++ y ∷ []
filter_last {A} f xs y e = filter_append f xs (y ∷ []) ∙ ap (λ (l : List A). filter f xs ++ l) (let one : filter f (y ∷ []) ≡ y ∷ [] = rw e in one)

pub filter_skip : {A : Type 0} (f : A → Bool) (xs : List A) (y : A) → f y ≡ false → filter f (xs ++ y ∷ []) ≡ filter f xs
filter_skip {A} f xs y e = filter_append f xs (y ∷ []) ∙ ap (λ (l : List A). filter f xs ++ l) (let none : filter f (y ∷ []) ≡ [] = rw e in none) ∙ append-nil (filter f xs)

-- the first part of a list, and the element behind it
pub record Part {A : Type 0} (front all : List A) : Type 0 where
  pub rest : List A
  pub is : all ≡ front ++ rest

pub part_all : {A : Type 0} (all : List A) → Part all all
part_all all = record { rest = []; is = sym (append-nil all) }

pub part_trans : {A : Type 0} {front mid all : List A} → Part front mid → Part mid all → Part front all
part_trans {A} {front} p q = record { rest = p.rest ++ q.rest; is = q.is ∙ ap (λ (l : List A). l ++ q.rest) p.is ∙ append_assoc front p.rest q.rest }

pub part_behind : {A : Type 0} (before : List A) {front all : List A} → Part front all → Part (before ++ front) (before ++ all)
part_behind {A} before {front} p = record { rest = p.rest; is = ap (λ (l : List A). before ++ l) p.is ∙ sym (append_assoc before front p.rest) }

-- of lists that only grow, each is a first part of the later ones
pub grown : {A : Type 0} (F : ℕ → List A) (top : ℕ) → ((k : ℕ) → k < top → Part (F k) (F (k + 1))) → (k n : ℕ) → k ≤ n → n ≤ top → Part (F k) (F n)
grown {A} F top step k n l h = subst (λ (j : ℕ). Part (F k) (F j)) (let e : n - k + k ≡ n = omega arith in e) (go (n - k) (omega arith))
  where
    go : (d : ℕ) → d + k ≤ top → Part (F k) (F (d + k))
    go zero b = subst (λ (j : ℕ). Part (F k) (F j)) (let e : k ≡ 0 + k = omega arith in e) (part_all (F k))
    go (suc d) b = part_trans (go d (omega arith)) (subst (λ (j : ℕ). Part (F (d + k)) (F j)) (let e : d + k + 1 ≡ suc d + k = omega arith in e) (step (d + k) (omega arith)))

pub part_map : {A B : Type 0} (f : A → B) {front all : List A} → Part front all → Part (map f front) (map f all)
part_map f {front} p = record { rest = map f p.rest; is = ap (map f) p.is ∙ map_append f front p.rest }

get_d_behind : {A : Type 0} (front : List A) (x : A) (rest : List A) (d : A) → get_or (front ++ x ∷ rest) (length front) d ≡ x
get_d_behind [] x rest d = refl
get_d_behind (y ∷ front) x rest d = get_d_behind front x rest d

pub part_next : {A : Type 0} (front : List A) (x : A) (all : List A) (d : A) → Part (front ++ x ∷ []) all → (get_or all (length front) d ≡ x) × (length front < length all)
part_next {A} front x all d p =
    let is : all ≡ front ++ x ∷ p.rest = p.is ∙ append_assoc front (x ∷ []) p.rest in (
      ap (λ (l : List A). get_or l (length front) d) is ∙ get_d_behind front x p.rest d,
      let long : length all ≡ length front + suc (length p.rest) = ap length is ∙ length-append front (x ∷ p.rest) in omega arith,
    )
