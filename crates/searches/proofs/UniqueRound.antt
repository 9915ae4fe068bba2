-- A round's new records are the only sorted list that has, for each key, the first candidate: whoever finds those has found `new`.
use mathlib.Core.Path.{◌∙◌, ◌≡◌, ap, ap₂, refl, subst, sym}
use mathlib.Core.Bool.{false, true, true≢false}
use mathlib.Core.Option.{none, some}
use mathlib.Core.List.{List, [], ◌∷◌}
use Prim.Native.Nat.{ℕ}
use native.Mathlib.Omega.{arith}
use Rattle.model.specs.Automata.{Transition}
use Rattle.model.specs.Lists.{Each}
use Rattle.model.specs.Log.{Candidate, Record, collect, in_log, key_less, same_key}
use Rattle.model.proofs.Collecting.{same_key_of, same_key_true}
use Rattle.model.proofs.FirstCandidates.{collect_first, first_of}
use Rattle.model.proofs.Lists.{each_map}
use Rattle.model.proofs.Order.{Less, Sorted, collect_fresh, collect_sorted, less_irrefl, less_total, less_trans}
use Rattle.model.proofs.Tests.{by_test}

-- a key below every key of a sorted list is not in it
absent : (k : Transition) (cs : List Candidate) → Each (λ (d : Candidate). Less k d.key) cs → first_of k cs ≡ none
absent k [] e = refl
absent k (c ∷ cs) e = by_test (same_key c.key k)
    (λ y. absurd (less_irrefl k (subst (λ (t : Transition). Less k t) (same_key_true c.key k y) e.0)))
    (λ n. rw n (absent k cs e.1))

first_here : (c : Candidate) (cs : List Candidate) → first_of c.key (c ∷ cs) ≡ some c
first_here c cs = rw (same_key_of c.key c.key refl)

clash : (k : Transition) (c : Candidate) (cs ds : List Candidate) → first_of k cs ≡ some c → first_of k ds ≡ none → first_of k cs ≡ first_of k ds → ⊥
clash k c cs ds p q e = let z : ◌≡◌ {A = ℕ} 0 1 = cc in omega arith

heads : (x y : Candidate) (xs ys : List Candidate) → Sorted (x ∷ xs) → Sorted (y ∷ ys) → ((k : Transition) → first_of k (x ∷ xs) ≡ first_of k (y ∷ ys)) → x ≡ y
heads x y xs ys s t f = by_test (same_key y.key x.key)
    (λ e. let same : some x ≡ some y = sym (first_here x xs) ∙ f x.key ∙ rw e in cc)
    (λ n. by_test (key_less y.key x.key)
    (λ l. absurd (clash y.key y (y ∷ ys) (x ∷ xs) (first_here y ys) (absent y.key (x ∷ xs) (l, above y.key x.key xs l s.0)) (sym (f y.key))))
    (λ m. let l : Less x.key y.key = less_total y.key x.key n m in
    absurd (clash x.key x (x ∷ xs) (y ∷ ys) (first_here x xs) (absent x.key (y ∷ ys) (l, above x.key y.key ys l t.0)) (f x.key))))
  where
    above : (k j : Transition) (cs : List Candidate) → Less k j → Each (λ (d : Candidate). Less j d.key) cs → Each (λ (d : Candidate). Less k d.key) cs
    above k j cs l = each_map (λ (d : Candidate). Less j d.key) (λ (d : Candidate). Less k d.key) (λ d p. less_trans k j d.key l p) cs

tails : (x : Candidate) (xs ys : List Candidate) → Sorted (x ∷ xs) → Sorted (x ∷ ys) → ((k : Transition) → first_of k (x ∷ xs) ≡ first_of k (x ∷ ys)) → (k : Transition) → first_of k xs ≡ first_of k ys
tails x xs ys s t f k = by_test (same_key x.key k)
    (λ e. let same : x.key ≡ k = same_key_true x.key k e in subst (λ (j : Transition). first_of j xs ≡ first_of j ys) same (absent x.key xs s.0 ∙ sym (absent x.key ys t.0)))
    (λ n. rw n at (f k))

pub sorted_ext : (xs ys : List Candidate) → Sorted xs → Sorted ys → ((k : Transition) → first_of k xs ≡ first_of k ys) → xs ≡ ys
sorted_ext [] [] s t f = refl
sorted_ext [] (y ∷ ys) s t f = absurd (clash y.key y (y ∷ ys) [] (first_here y ys) refl (sym (f y.key)))
sorted_ext (x ∷ xs) [] s t f = absurd (clash x.key x (x ∷ xs) [] (first_here x xs) refl (f x.key))
sorted_ext (x ∷ xs) (y ∷ ys) s t f =
    let same : x ≡ y = heads x y xs ys s t f in
    let t' : Sorted (x ∷ ys) = subst (λ (z : Candidate). Sorted (z ∷ ys)) (sym same) t in
    let f' : (k : Transition) → first_of k (x ∷ xs) ≡ first_of k (x ∷ ys) = subst (λ (z : Candidate). (k : Transition) → first_of k (x ∷ xs) ≡ first_of k (z ∷ ys)) (sym same) f in
    ap₂ (λ (c : Candidate) (l : List Candidate). c ∷ l) same (sorted_ext xs ys s.1 t.1 (tails x xs ys s t' f'))

-- no key of the log is among the new ones
additions_lacks : (k : Transition) (log : List Record) (cs : List Candidate) → Each (λ (c : Candidate). in_log c.key log ≡ false) cs → in_log k log ≡ true → first_of k cs ≡ none
additions_lacks k log [] e y = refl
additions_lacks k log (c ∷ cs) e y = by_test (same_key c.key k)
    (λ z. absurd (true≢false (sym y ∙ ap (λ (t : Transition). in_log t log) (sym (same_key_true c.key k z)) ∙ e.0)))
    (λ n. rw n (additions_lacks k log cs e.1 y))

-- what a round has to find among its candidates cs, however it goes about it
pub record Chosen (log : List Record) (cs ys : List Candidate) : Type 0 where
  pub sorted : Sorted ys
  pub lacks : (k : Transition) → in_log k log ≡ true → first_of k ys ≡ none
  pub firsts : (k : Transition) → in_log k log ≡ false → first_of k ys ≡ first_of k cs

pub collect_chosen : (log : List Record) (cs : List Candidate) → Chosen log cs (collect log cs [])
collect_chosen log cs = record {
  sorted = collect_sorted log cs [] tt;
  lacks = λ k y. additions_lacks k log (collect log cs []) (collect_fresh (λ (c : Candidate). in_log c.key log ≡ false) log (λ c n. n) cs [] tt) y;
  firsts = λ k n. collect_first k log n cs [] tt;
}

pub chosen_collect : (log : List Record) (cs ys : List Candidate) → Chosen log cs ys → ys ≡ collect log cs []
chosen_collect log cs ys r =
    let o = collect_chosen log cs in
    sorted_ext ys (collect log cs []) r.sorted o.sorted
    (λ k. by_test (in_log k log) (λ y. r.lacks k y ∙ sym (o.lacks k y)) (λ n. r.firsts k n ∙ sym (o.firsts k n)))
