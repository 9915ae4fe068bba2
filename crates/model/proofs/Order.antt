-- The order of keys; a round's new records are in it, and no two records of the log have the same key.
use mathlib.Core.Path.{◌∙◌, ◌≡◌, ap₂, refl, sym}
use mathlib.Core.Bool.{cond, false, false≢true, true, true≢false}
use mathlib.Core.Logic.{◌≢◌, ◌⊎◌, inl, inr, ⊎_elim}
use mathlib.Core.List.{List, [], ◌∷◌, map, ◌++◌}
use Prim.Native.Nat.{◌<◌, ◌≤◌, suc, zero, ℕ}
use native.Mathlib.Omega.{arith}
use lib.Dec.{eqb, ltb}
use borrow.Author.Tests.{eq-eqb, eqb-false, eqb-true, le-ltb, lt-ltb, ltb-false, ltb-true}
use Rattle.model.specs.Automata.{Transition}
use Rattle.model.specs.Lists.{Each}
use Rattle.model.specs.Log.{Candidate, Record, additions, candidates, collect, in_log, initial_candidate, insert, key_digits, key_less, keys, lex_less, log_at, same_key}
use Rattle.model.specs.Systems.{System}
use Rattle.model.proofs.Collecting.{candidate_keys, each_insert, in_log_of, keys_suc, same_key_of}
use Rattle.model.proofs.Lists.{Distinct, distinct_append, each_get, each_map, each_append}
use Rattle.model.proofs.Reachability.{keys_initial}
use Rattle.model.proofs.Tests.{by_test}
use lib.ListN.{length}

-- ---- lexicographic order
pub lex_cases : (a b : ℕ) (as' bs : List ℕ) → lex_less (a ∷ as') (b ∷ bs) ≡ true → (a < b) ⊎ ((a ≡ b) × (lex_less as' bs ≡ true))
lex_cases a b as' bs e = by_test (ltb a b) (λ y. inl (ltb-true a b y)) (λ n. by_test (eqb a b)
    (λ y. inr (eqb-true a b y, rw (n, y) at e))
    (λ m. absurd (let bad : false ≡ true = rw (n, m) at e in false≢true bad)))

pub lex_lt : (a b : ℕ) (as' bs : List ℕ) → a < b → lex_less (a ∷ as') (b ∷ bs) ≡ true
lex_lt a b as' bs h = rw (lt-ltb a b h)

pub lex_eq : (a b : ℕ) (as' bs : List ℕ) → a ≡ b → lex_less as' bs ≡ true → lex_less (a ∷ as') (b ∷ bs) ≡ true
lex_eq a b as' bs e h = rw (le-ltb a b (omega arith), eq-eqb a b e, h)

pub lex_irrefl : (xs : List ℕ) → lex_less xs xs ≡ true → ⊥
lex_irrefl [] e = false≢true e
lex_irrefl (x ∷ xs) e = ⊎_elim (λ h. omega arith) (λ p. lex_irrefl xs p.1) (lex_cases x x xs xs e)

pub lex_trans : (xs ys zs : List ℕ) → lex_less xs ys ≡ true → lex_less ys zs ≡ true → lex_less xs zs ≡ true
lex_trans [] [] zs p q = q
lex_trans [] (y ∷ ys) [] p q = q
lex_trans [] (y ∷ ys) (z ∷ zs) p q = refl
lex_trans (x ∷ xs) [] zs p q = absurd (false≢true p)
lex_trans (x ∷ xs) (y ∷ ys) [] p q = q
lex_trans (x ∷ xs) (y ∷ ys) (z ∷ zs) p q = step (λ p' q'. lex_trans xs ys zs p' q') (lex_cases x y xs ys p) (lex_cases y z ys zs q)
  where
    step : (lex_less xs ys ≡ true → lex_less ys zs ≡ true → lex_less xs zs ≡ true) → (x < y) ⊎ ((x ≡ y) × (lex_less xs ys ≡ true)) → (y < z) ⊎ ((y ≡ z) × (lex_less ys zs ≡ true))
        → lex_less (x ∷ xs) (z ∷ zs) ≡ true
    step below (inl h) (inl k) = lex_lt x z xs zs (omega arith)
    step below (inl h) (inr k) = lex_lt x z xs zs (omega (arith, k.0))
    step below (inr h) (inl k) = lex_lt x z xs zs (omega (arith, h.0))
    step below (inr h) (inr k) = lex_eq x z xs zs (h.0 ∙ k.0) (below h.1 k.1)

-- two lists are equal, or one is less
pub lex_total : (xs ys : List ℕ) → (xs ≡ ys → ⊥) → lex_less xs ys ≡ false → lex_less ys xs ≡ true
lex_total [] [] n e = absurd (n refl)
lex_total [] (y ∷ ys) n e = absurd (true≢false e)
lex_total (x ∷ xs) [] n e = refl
lex_total (x ∷ xs) (y ∷ ys) n e = by_test (ltb x y) (λ t. absurd (let bad : true ≡ false = rw t at e in true≢false bad)) (λ f. by_test (eqb x y)
    (λ t. lex_eq y x ys xs (sym (eqb-true x y t)) (lex_total xs ys (λ q. n (ap₂ (λ (a : ℕ) (l : List ℕ). a ∷ l) (eqb-true x y t) q)) (rw (f, t) at e)))
    (λ g. lex_lt y x ys xs (let le : y ≤ x = ltb-false x y f in let ne : x ≢ y = eqb-false x y g in omega arith)))

-- equal or not
pub same_digits : (xs ys : List ℕ) → (xs ≡ ys) ⊎ (xs ≡ ys → ⊥)
same_digits [] [] = inl refl
same_digits [] (y ∷ ys) = inr (λ e. let z : ◌≡◌ {A = ℕ} 0 1 = cc in omega arith)
same_digits (x ∷ xs) [] = inr (λ e. let z : ◌≡◌ {A = ℕ} 0 1 = cc in omega arith)
same_digits (x ∷ xs) (y ∷ ys) = by_test (eqb x y)
    (λ t. ⊎_elim (λ q. inl (ap₂ (λ (a : ℕ) (l : List ℕ). a ∷ l) (eqb-true x y t) q)) (λ q. inr (λ e. q (tails e))) (same_digits xs ys))
    (λ n. inr (λ e. eqb-false x y n (heads e)))
  where
    heads : x ∷ xs ≡ y ∷ ys → x ≡ y
    heads e = cc

    tails : x ∷ xs ≡ y ∷ ys → xs ≡ ys
    tails e = cc

pub key_digits_inj : (t u : Transition) → key_digits t ≡ key_digits u → t ≡ u
key_digits_inj t u e =
    let p : t.letter ≡ u.letter = cc in
    let b0 : t.before.s0 ≡ u.before.s0 = cc in
    let b1 : t.before.s1 ≡ u.before.s1 = cc in
    let b2 : t.before.s2 ≡ u.before.s2 = cc in
    let b3 : t.before.s3 ≡ u.before.s3 = cc in
    let a0 : t.after.s0 ≡ u.after.s0 = cc in
    let a1 : t.after.s1 ≡ u.after.s1 = cc in
    let a2 : t.after.s2 ≡ u.after.s2 = cc in
    let a3 : t.after.s3 ≡ u.after.s3 = cc in
    λ i. record { letter = p i; before = record { s0 = b0 i; s1 = b1 i; s2 = b2 i; s3 = b3 i }; after = record { s0 = a0 i; s1 = a1 i; s2 = a2 i; s3 = a3 i } }

abbrev pub Less : Transition → Transition → Type 0
Less t u = key_less t u ≡ true

pub less_irrefl : (t : Transition) → Less t t → ⊥
unfolding key_less
less_irrefl t e = lex_irrefl (key_digits t) e

pub less_trans : (t u v : Transition) → Less t u → Less u v → Less t v
unfolding key_less
less_trans t u v p q = lex_trans (key_digits t) (key_digits u) (key_digits v) p q

pub less_total : (t u : Transition) → same_key t u ≡ false → key_less t u ≡ false → Less u t
unfolding key_less
less_total t u n e = lex_total (key_digits t) (key_digits u) (λ q. true≢false (sym (same_key_of t u (key_digits_inj t u q)) ∙ n)) e

-- ---- sorted
abbrev pub Sorted : List Candidate → Type 0
Sorted [] = Unit {0}
Sorted (c ∷ cs) = Each (λ (d : Candidate). Less c.key d.key) cs × Sorted cs

pub insert_sorted : (c : Candidate) (ds : List Candidate) → Sorted ds → Sorted (insert c ds)
insert_sorted c [] s = (tt, tt)
insert_sorted c (d ∷ ds) s = by_test (same_key c.key d.key) (λ y. rw y s) (λ n. rw n (by_test (key_less c.key d.key)
    (λ y. rw y ((y, each_map (λ (x : Candidate). Less d.key x.key) (λ (x : Candidate). Less c.key x.key) (λ x p. less_trans c.key d.key x.key y p) ds s.0), s))
    (λ m. rw m (each_insert (λ (x : Candidate). Less d.key x.key) c ds (less_total c.key d.key n m) s.0, insert_sorted c ds s.1))))

pub collect_sorted : (log : List Record) (cs got : List Candidate) → Sorted got → Sorted (collect log cs got)
collect_sorted log [] got s = s
collect_sorted log (c ∷ cs) got s = collect_sorted log cs (cond (in_log c.key log) got (insert c got)) (by_test (in_log c.key log) (λ y. rw y s) (λ n. rw n (insert_sorted c got s)))

pub collect_fresh : (P : Candidate → Type 0) (log : List Record) → ((c : Candidate) → in_log c.key log ≡ false → P c) → (cs got : List Candidate) → Each P got → Each P (collect log cs got)
collect_fresh P log f [] got s = s
collect_fresh P log f (c ∷ cs) got s = collect_fresh P log f cs (cond (in_log c.key log) got (insert c got)) (by_test (in_log c.key log) (λ y. rw y s) (λ n. rw n (each_insert P c got (f c n) s)))

-- a round's new records stand in the order of their keys, and the log lacks their keys
pub additions_sorted : (sys : System) (log : List Record) → Sorted (additions sys log)
unfolding additions
additions_sorted sys log = collect_sorted log (candidates sys.loc log sys.rules 0) [] tt

pub additions_fresh : (sys : System) (log : List Record) → Each (λ (c : Candidate). in_log c.key log ≡ false) (additions sys log)
unfolding additions
additions_fresh sys log = collect_fresh (λ (c : Candidate). in_log c.key log ≡ false) log (λ c n. n) (candidates sys.loc log sys.rules 0) [] tt

pub each_candidate_keys : (P : Transition → Type 0) (cs : List Candidate) → Each (λ (c : Candidate). P c.key) cs → Each P (candidate_keys cs)
each_candidate_keys P [] e = tt
each_candidate_keys P (c ∷ cs) e = (e.0, each_candidate_keys P cs e.1)

pub sorted_distinct : (cs : List Candidate) → Sorted cs → Distinct (candidate_keys cs)
sorted_distinct [] s = tt
sorted_distinct (c ∷ cs) s = ((λ m. less_irrefl c.key (each_get (Less c.key) c.key (candidate_keys cs) (each_candidate_keys (Less c.key) cs s.0) m)), sorted_distinct cs s.1)

distinct_zero : (sys : System) → Distinct (keys (log_at sys 0))
unfolding log_at
distinct_zero sys = rw keys_initial (sorted_distinct (collect [] (map initial_candidate sys.transitions) []) (collect_sorted [] (map initial_candidate sys.transitions) [] tt))

distinct_suc : (sys : System) (k : ℕ) → Distinct (keys (log_at sys k)) → Distinct (keys (log_at sys (suc k)))
distinct_suc sys k d = rw (keys_suc sys k) (distinct_append (keys (log_at sys k)) (candidate_keys (additions sys (log_at sys k))) d (sorted_distinct (additions sys (log_at sys k)) (additions_sorted sys (log_at sys k)))
    (λ t m n. true≢false (sym (in_log_of t (log_at sys k) m) ∙ each_get (λ (u : Transition). in_log u (log_at sys k) ≡ false) t (candidate_keys (additions sys (log_at sys k))) (each_candidate_keys (λ (u : Transition). in_log u (log_at sys k) ≡ false) (additions sys (log_at sys k)) (additions_fresh sys (log_at sys k))) n)))

-- no two records of a log have the same key
pub log_distinct : (sys : System) (k : ℕ) → Distinct (keys (log_at sys k))
log_distinct sys zero = distinct_zero sys
log_distinct sys (suc k) = distinct_suc sys k (log_distinct sys k)

-- ---- longer lists
pub lex_front : (xs ys us vs : List ℕ) → length xs ≡ length ys → lex_less xs ys ≡ true → lex_less (xs ++ us) (ys ++ vs) ≡ true
lex_front [] [] us vs l e = absurd (false≢true e)
lex_front [] (y ∷ ys) us vs l e = absurd (omega arith)
lex_front (x ∷ xs) [] us vs l e = absurd (omega arith)
lex_front (x ∷ xs) (y ∷ ys) us vs l e = ⊎_elim
    (λ h. lex_lt x y (xs ++ us) (ys ++ vs) h)
    (λ p. lex_eq x y (xs ++ us) (ys ++ vs) p.0 (lex_front xs ys us vs (omega arith) p.1))
    (lex_cases x y xs ys e)

pub sorted_append : (cs ds : List Candidate) → Sorted cs → Sorted ds → Each (λ (c : Candidate). Each (λ (d : Candidate). Less c.key d.key) ds) cs → Sorted (cs ++ ds)
sorted_append [] ds s t e = t
sorted_append (c ∷ cs) ds s t e = (each_append (λ (d : Candidate). Less c.key d.key) cs ds s.0 e.0, sorted_append cs ds s.1 t e.1)
