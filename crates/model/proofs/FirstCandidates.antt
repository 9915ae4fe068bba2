-- A record's reason is the first: the lowest rule, and of its paths the first by record numbers. So is the start's path.
use mathlib.Core.Path.{◌∙◌, ◌≡◌, ap, refl, subst, sym}
use mathlib.Core.Bool.{cond, false, true, true≢false}
use mathlib.Core.Logic.{◌⊎◌, inl, inr, ⊎_elim}
use mathlib.Core.Option.{Option, none, some}
use mathlib.Core.List.Memᴰ
use mathlib.Core.List.{List, Memᴰ, [], ◌++◌, ◌∷◌, append_assoc, append-nil, map}
use Prim.Native.Nat.{◌≤◌, suc, ℕ}
use native.Mathlib.Omega.{arith}
use Rattle.model.specs.declared.Group.{Group}
use Rattle.model.specs.Automata.{Transition, move}
use Rattle.model.specs.Groups.{Processes}
use Rattle.model.specs.Lists.{Each}
use Rattle.model.specs.Log.{Candidate, Path, Record, additions, candidate, candidates, collect, extend, in_log, insert, key_less, lex_less, paths, push, reads_at, same_key}
use Rattle.model.specs.Systems.{Rule, System}
use Rattle.model.proofs.Collecting.{same_key_of, same_key_true}
use Rattle.model.proofs.Lists.{each_any, each_append, each_get, each_map, each_of_map}
use Rattle.model.proofs.Order.{Less, Sorted, additions_fresh, additions_sorted, insert_sorted, less_irrefl, less_trans, lex_eq, lex_lt}
use Rattle.model.proofs.Tests.{by_test}

-- ---- lists in lexicographic order of a rank
abbrev pub Rising : {A : Type 0} → (A → List ℕ) → List A → Type 0
Rising f [] = Unit {0}
Rising {A} f (x ∷ xs) = Each (λ (y : A). lex_less (f x) (f y) ≡ true) xs × Rising f xs

rising_append : {A : Type 0} (f : A → List ℕ) (xs ys : List A) → Rising f xs → Rising f ys → Each (λ (x : A). Each (λ (y : A). lex_less (f x) (f y) ≡ true) ys) xs → Rising f (xs ++ ys)
rising_append f [] ys p q e = q
rising_append {A} f (x ∷ xs) ys p q e = (each_append (λ (y : A). lex_less (f x) (f y) ≡ true) xs ys p.0 e.0, rising_append f xs ys p.1 q e.1)

rising_map : {A B : Type 0} (f : A → List ℕ) (h : B → List ℕ) (g : A → B) → ((x y : A) → lex_less (f x) (f y) ≡ true → lex_less (h (g x)) (h (g y)) ≡ true)
    → (xs : List A) → Rising f xs → Rising h (map g xs)
rising_map f h g m [] p = tt
rising_map {A} {B} f h g m (x ∷ xs) p = (
  each_of_map (λ (y : B). lex_less (h (g x)) (h y) ≡ true) g xs (each_map (λ (y : A). lex_less (f x) (f y) ≡ true) (λ (y : A). lex_less (h (g x)) (h (g y)) ≡ true) (m x) xs p.0),
  rising_map f h g m xs p.1,
)

-- a list that begins with n or more
abbrev From : ℕ → List ℕ → Type 0
From n [] = ⊥
From n (m ∷ ms) = n ≤ m

less_from : (n : ℕ) (xs ys : List ℕ) → From (suc n) ys → lex_less (n ∷ xs) ys ≡ true
less_from n xs [] h = absurd h
less_from n xs (y ∷ ys) h = lex_lt n y xs ys h

from_less : (n : ℕ) (ys : List ℕ) → From (suc n) ys → From n ys
from_less n [] h = h
from_less n (y ∷ ys) h = omega arith

-- ---- all paths, in order
module _ (loc : ℕ → Processes) (a : ℕ) (g : Group) (next : Group → List Path) where
  first_from_lem : (r : Record) (n : ℕ) → Each (λ (t : Path). From n t.numbers) (cond (reads_at loc a g r) (map (push n) (next (move loc r.key g))) [])
  first_from_lem r n = by_test (reads_at loc a g r)
      (λ y. rw y (each_of_map (λ (t : Path). From n t.numbers) (push n) (next (move loc r.key g)) (each_any (λ (t : Path). n ≤ n) (λ t. omega arith) (next (move loc r.key g)))))
      (λ m. rw m tt)

  extend_from : (rs : List Record) (n : ℕ) → Each (λ (t : Path). From n t.numbers) (extend loc a g next rs n)
  extend_from [] n = tt
  extend_from (r ∷ rs) n = each_append (λ (t : Path). From n t.numbers) (cond (reads_at loc a g r) (map (push n) (next (move loc r.key g))) []) (extend loc a g next rs (suc n)) (first_from_lem r n)
      (each_map (λ (t : Path). From (suc n) t.numbers) (λ (t : Path). From n t.numbers) (λ t h. from_less n t.numbers h) (extend loc a g next rs (suc n)) (extend_from rs (suc n)))

  extend_rising : ((h : Group) → Rising (λ (t : Path). t.numbers) (next h)) → (rs : List Record) (n : ℕ) → Rising (λ (t : Path). t.numbers) (extend loc a g next rs n)
  extend_rising ok [] n = tt
  extend_rising ok (r ∷ rs) n = rising_append (λ (t : Path). t.numbers) (cond (reads_at loc a g r) (map (push n) (next (move loc r.key g))) []) (extend loc a g next rs (suc n))
      (by_test (reads_at loc a g r)
      (λ y. rw y (rising_map (λ (t : Path). t.numbers) (λ (t : Path). t.numbers) (push n) (λ x z h. lex_eq n n x.numbers z.numbers refl h) (next (move loc r.key g)) (ok (move loc r.key g))))
      (λ m. rw m tt))
      (extend_rising ok rs (suc n))
      (by_test (reads_at loc a g r)
      (λ y. rw y (each_of_map (λ (t : Path). Each (λ (u : Path). lex_less t.numbers u.numbers ≡ true) (extend loc a g next rs (suc n))) (push n) (next (move loc r.key g))
      (each_any (λ (t : Path). Each (λ (u : Path). lex_less (n ∷ t.numbers) u.numbers ≡ true) (extend loc a g next rs (suc n)))
      (λ t. each_map (λ (u : Path). From (suc n) u.numbers) (λ (u : Path). lex_less (n ∷ t.numbers) u.numbers ≡ true) (λ u h. less_from n t.numbers u.numbers h) (extend loc a g next rs (suc n)) (extend_from rs (suc n)))
      (next (move loc r.key g)))))
      (λ m. rw m tt))

pub paths_rising : (loc : ℕ → Processes) (log : List Record) (w : List ℕ) (g : Group) → Rising (λ (t : Path). t.numbers) (paths loc log w g)
paths_rising loc log [] g = (tt, tt)
paths_rising loc log (a ∷ w) g = extend_rising loc a g (λ h. paths loc log w h) (λ h. paths_rising loc log w h) log 0

-- ---- candidates, in order of rule and then of path
abbrev pub rank : Candidate → List ℕ
rank c = c.rule ∷ c.path

candidates_from_lem : (loc : ℕ → Processes) (log : List Record) (rs : List Rule) (n : ℕ) → Each (λ (c : Candidate). From n (rank c)) (candidates loc log rs n)
candidates_from_lem loc log [] n = tt
candidates_from_lem loc log (r ∷ rs) n = each_append (λ (c : Candidate). From n (rank c)) (map (candidate loc r n) (paths loc log r.written r.after)) (candidates loc log rs (suc n))
    (each_of_map (λ (c : Candidate). From n (rank c)) (candidate loc r n) (paths loc log r.written r.after) (each_any (λ (t : Path). n ≤ n) (λ t. omega arith) (paths loc log r.written r.after)))
    (each_map (λ (c : Candidate). From (suc n) (rank c)) (λ (c : Candidate). From n (rank c)) (λ c h. from_less n (rank c) h) (candidates loc log rs (suc n)) (candidates_from_lem loc log rs (suc n)))

pub candidates_rising : (loc : ℕ → Processes) (log : List Record) (rs : List Rule) (n : ℕ) → Rising rank (candidates loc log rs n)
candidates_rising loc log [] n = tt
candidates_rising loc log (r ∷ rs) n = rising_append rank (map (candidate loc r n) (paths loc log r.written r.after)) (candidates loc log rs (suc n))
    (rising_map (λ (t : Path). t.numbers) rank (candidate loc r n) (λ x y h. lex_eq n n x.numbers y.numbers refl h) (paths loc log r.written r.after) (paths_rising loc log r.written r.after))
    (candidates_rising loc log rs (suc n))
    (each_of_map (λ (c : Candidate). Each (λ (d : Candidate). lex_less (rank c) (rank d) ≡ true) (candidates loc log rs (suc n))) (candidate loc r n) (paths loc log r.written r.after)
    (each_any (λ (t : Path). Each (λ (d : Candidate). lex_less (n ∷ t.numbers) (rank d) ≡ true) (candidates loc log rs (suc n)))
    (λ t. each_map (λ (d : Candidate). From (suc n) (rank d)) (λ (d : Candidate). lex_less (n ∷ t.numbers) (rank d) ≡ true) (λ d h. less_from n t.numbers (rank d) h) (candidates loc log rs (suc n)) (candidates_from_lem loc log rs (suc n)))
    (paths loc log r.written r.after)))

-- ---- the first candidate for a key
abbrev pub first_of : Transition → List Candidate → Option Candidate
first_of k [] = none
first_of k (c ∷ cs) = cond (same_key c.key k) (some c) (first_of k cs)

first_miss : (k : Transition) (c : Candidate) (ds : List Candidate) → same_key c.key k ≡ false → first_of k (ds ++ (c ∷ [])) ≡ first_of k ds
first_miss k c [] n = rw n
first_miss k c (d ∷ ds) n = ap (cond (same_key d.key k) (some d)) (first_miss k c ds n)

first_last : (k : Transition) (c : Candidate) (ds : List Candidate) → Each (λ (d : Candidate). same_key d.key k ≡ false) ds → same_key c.key k ≡ true → first_of k (ds ++ (c ∷ [])) ≡ some c
first_last k c [] e y = rw y
first_last k c (d ∷ ds) e y = rw e.0 (first_last k c ds e.1 y)

not_same : (t u v : Transition) → Less t u → same_key t v ≡ true → same_key u v ≡ false
not_same t u v l y = by_test (same_key u v) (λ z. absurd (less_irrefl t (subst (λ (x : Transition). Less t x) (same_key_true u v z ∙ sym (same_key_true t v y)) l))) (λ n. n)

not_same_as : (t u v : Transition) → same_key t u ≡ true → same_key u v ≡ false → same_key t v ≡ false
not_same_as t u v y n = rw (same_key_true t u y) n

insert_first : (k : Transition) (c : Candidate) (ds : List Candidate) → Sorted ds → first_of k (insert c ds) ≡ first_of k (ds ++ (c ∷ []))
insert_first k c [] s = refl
insert_first k c (d ∷ ds) s = by_test (same_key c.key d.key)
    (λ y. rw y (by_test (same_key d.key k) (λ z. rw z) (λ n. rw n (sym (first_miss k c ds (not_same_as c.key d.key k y n))))))
    (λ n. rw n (by_test (key_less c.key d.key)
    (λ l. rw l (by_test (same_key c.key k)
    (λ z. rw z (sym (first_last k c (d ∷ ds) (
      not_same c.key d.key k l z,
      each_map (λ (x : Candidate). Less d.key x.key) (λ (x : Candidate). same_key x.key k ≡ false)
          (λ x p. not_same c.key x.key k (less_trans c.key d.key x.key l p) z) ds s.0,
    ) z)))
    (λ m. rw m (sym (first_miss k c (d ∷ ds) m)))))
    (λ m. rw m (ap (cond (same_key d.key k) (some d)) (insert_first k c ds s.1)))))

abbrev pub or_else : {A : Type 0} → Option A → Option A → Option A
or_else none o = o
or_else (some a) o = some a

pub first_both : (k : Transition) (xs ys : List Candidate) → first_of k (xs ++ ys) ≡ or_else (first_of k xs) (first_of k ys)
first_both k [] ys = refl
first_both k (x ∷ xs) ys = by_test (same_key x.key k) (λ y. rw y) (λ n. rw n (first_both k xs ys))

first_append : (k : Transition) (xs ys zs : List Candidate) → first_of k xs ≡ first_of k ys → first_of k (xs ++ zs) ≡ first_of k (ys ++ zs)
first_append k xs ys zs e = first_both k xs zs ∙ ap (λ (o : Option Candidate). or_else o (first_of k zs)) e ∙ sym (first_both k ys zs)

pub first_skip : (k : Transition) (c : Candidate) (xs ys : List Candidate) → same_key c.key k ≡ false → first_of k (xs ++ (c ∷ ys)) ≡ first_of k (xs ++ ys)
first_skip k c [] ys n = rw n
first_skip k c (x ∷ xs) ys n = ap (cond (same_key x.key k) (some x)) (first_skip k c xs ys n)

other_key : (k : Transition) (log : List Record) (c : Candidate) → in_log k log ≡ false → in_log c.key log ≡ true → same_key c.key k ≡ false
other_key k log c n y = by_test (same_key c.key k) (λ z. absurd (true≢false (sym y ∙ ap (λ (t : Transition). in_log t log) (same_key_true c.key k z) ∙ n))) (λ m. m)

-- for a key that the log lacks, what is collected is the first candidate
pub collect_first : (k : Transition) (log : List Record) → in_log k log ≡ false → (cs got : List Candidate) → Sorted got → first_of k (collect log cs got) ≡ first_of k (got ++ cs)
collect_first k log n [] got s = ap (first_of k) (sym (append-nil got))
collect_first k log n (c ∷ cs) got s = by_test (in_log c.key log)
    (λ y. rw y (collect_first k log n cs got s ∙ sym (first_skip k c got cs (other_key k log c n y))))
    (λ m. rw m (collect_first k log n cs (insert c got) (insert_sorted c got s)
    ∙ first_append k (insert c got) (got ++ (c ∷ [])) cs (insert_first k c got s)
    ∙ ap (first_of k) (append_assoc got (c ∷ []) cs)))

pub first_self : (cs : List Candidate) → Sorted cs → (c : Candidate) → Memᴰ c cs → first_of c.key cs ≡ some c
first_self [] s c m = absurd (Memᴰ.not-nil m)
first_self (x ∷ cs) s c m = step (λ m'. first_self cs s.1 c m') (Memᴰ.cases_cons m)
  where
    step : (Memᴰ c cs → first_of c.key cs ≡ some c) → (c ≡ x) ⊎ Memᴰ c cs → cond (same_key x.key c.key) (some x) (first_of c.key cs) ≡ some c
    step below (inl e) = rw (same_key_of x.key c.key (ap (λ (d : Candidate). d.key) (sym e))) (ap {B = Option Candidate} some (sym e))
    step below (inr m') =
        let later : Less x.key c.key = each_get (λ (d : Candidate). Less x.key d.key) c cs s.0 m' in
        by_test (same_key x.key c.key) (λ y. absurd (less_irrefl x.key (subst (λ (t : Transition). Less x.key t) (sym (same_key_true x.key c.key y)) later))) (λ n. rw n (below m'))

-- the first one has the least rank
first_least : (k : Transition) (cs : List Candidate) → Rising rank cs → (c : Candidate) → first_of k cs ≡ some c → (d : Candidate) → Memᴰ d cs → d.key ≡ k
    → (d ≡ c) ⊎ (lex_less (rank c) (rank d) ≡ true)
first_least k [] r c e d m q = absurd (Memᴰ.not-nil m)
first_least k (x ∷ cs) r c e d m q = by_test (same_key x.key k)
    (λ y. let same : x ≡ c = cc (y) in
    ⊎_elim (λ p. inl (p ∙ same)) (λ m'. inr (subst (λ (z : Candidate). lex_less (rank z) (rank d) ≡ true) same (each_get (λ (z : Candidate). lex_less (rank x) (rank z) ≡ true) d cs r.0 m'))) (Memᴰ.cases_cons m))
    (λ n. ⊎_elim
    (λ p. absurd (true≢false (sym (same_key_of x.key k (ap (λ (z : Candidate). z.key) (sym p) ∙ q)) ∙ n)))
    (λ m'. first_least k cs r.1 c (rw n at e) d m' q)
    (Memᴰ.cases_cons m))

-- The reason of a new record: of all that the rules add with its key, the one of the lowest rule, and of that rule's paths the first by record numbers
pub additions_least : (sys : System) (log : List Record) (c : Candidate) → Memᴰ c (additions sys log) → (d : Candidate) → Memᴰ d (candidates sys.loc log sys.rules 0) → d.key ≡ c.key
    → (d ≡ c) ⊎ (lex_less (c.rule ∷ c.path) (d.rule ∷ d.path) ≡ true)
unfolding additions
additions_least sys log c m d i q =
    let fresh : in_log c.key log ≡ false = each_get (λ (x : Candidate). in_log x.key log ≡ false) c (additions sys log) (additions_fresh sys log) m in
    let found : first_of c.key (candidates sys.loc log sys.rules 0) ≡ some c =
    sym (collect_first c.key log fresh (candidates sys.loc log sys.rules 0) [] tt) ∙ first_self (additions sys log) (additions_sorted sys log) c m in
    first_least c.key (candidates sys.loc log sys.rules 0) (candidates_rising sys.loc log sys.rules 0) c found d i q

-- no candidate of a list has the key
pub first_none : (k : Transition) (cs : List Candidate) → Each (λ (c : Candidate). same_key c.key k ≡ false) cs → first_of k cs ≡ none
first_none k [] e = refl
first_none k (c ∷ cs) e = rw e.0 (first_none k cs e.1)
