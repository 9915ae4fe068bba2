-- The sets within a set of processes, and the groups of plain and copied states: what a path meets of them, and that each is there once.
use mathlib.Core.Path.{◌∙◌, ◌≡◌, ap, refl, subst, sym}
use mathlib.Core.Bool.{Bool, ◌&&◌, ◌||◌, cond, false, not, true, true≢false}
use mathlib.Core.Logic.{⊎_elim}
use mathlib.Core.List.{Memᴰ, [], ◌∷◌}
use Prim.Native.Nat.{◌+◌, ◌<◌, ◌≤◌, suc, zero, ℕ}
use native.Mathlib.Nat.{eq-or-lt_of_le}
use native.Mathlib.Omega.{arith}
use Rattle.model.specs.declared.Group.{Group}
use Rattle.model.specs.Copies.{copies, mixed, mixtures, sets_below, subsets}
use Rattle.model.specs.Groups.{Process, Processes, Within, at, has, merge, p0, p1, p2, p3, process_bits, processes_of, restrict, within_test}
use Rattle.model.proofs.ConcatLists.{distinct_filter, filter_mem, mem_filter}
use Rattle.model.proofs.Groups.{at_build, at_merge, at_restrict, bit_low, bits_back, bits_same, ext}
use Rattle.model.proofs.Lists.{Distinct, distinct_append, distinct_map}
use Rattle.model.proofs.Tests.{and_right, by_test, each_process, every_at, every_of, implied, implies}

-- ---- sets of processes by their bits
bits_few : (M : Processes) → process_bits M ≤ 15
unfolding process_bits
bits_few M = omega (arith, bit_low M.b0, bit_low M.b1, bit_low M.b2, bit_low M.b3)

mem_below : (n m : ℕ) → m < n → Memᴰ (processes_of m) (sets_below n)
mem_below zero m l = absurd (omega arith)
mem_below (suc n) m l = ⊎_elim
    (λ (e : m ≡ n). mathlib.Core.List.Memᴰ.append_right (sets_below n) (mathlib.Core.List.Memᴰ.head (ap processes_of e)))
    (λ (b : m < n). mathlib.Core.List.Memᴰ.append_left (processes_of n ∷ []) (mem_below n m b))
    (eq-or-lt_of_le (let z : m ≤ n = omega arith in z))

below_mem : (n : ℕ) (M : Processes) → Memᴰ M (sets_below n) → (m : ℕ) × (m < n) × (processes_of m ≡ M)
below_mem zero M m = absurd (mathlib.Core.List.Memᴰ.not-nil m)
below_mem (suc n) M m = ⊎_elim
    (λ (k : Memᴰ M (sets_below n)). let r = below_mem n M k in (r.0, omega (arith, r.1), r.2))
    (λ (k : Memᴰ M (processes_of n ∷ [])). ⊎_elim (λ (e : M ≡ processes_of n). (n, omega arith, sym e)) (λ z. absurd (mathlib.Core.List.Memᴰ.not-nil z)) (mathlib.Core.List.Memᴰ.cases_cons k))
    (mathlib.Core.List.Memᴰ.append_cases (sets_below n) m)

below_distinct : (n : ℕ) → n ≤ 16 → Distinct (sets_below n)
below_distinct zero l = tt
below_distinct (suc n) l = distinct_append (sets_below n) (processes_of n ∷ []) (below_distinct n (omega arith)) ((λ m. mathlib.Core.List.Memᴰ.not-nil m), tt)
    (λ M k j. ⊎_elim (λ (e : M ≡ processes_of n). new (below_mem n M k) e) (λ z. mathlib.Core.List.Memᴰ.not-nil z) (mathlib.Core.List.Memᴰ.cases_cons j))
  where
    new : {M : Processes} → (m : ℕ) × (m < n) × (processes_of m ≡ M) → M ≡ processes_of n → ⊥
    new r e =
        let same : r.0 ≡ n = sym (bits_same r.0 (omega (arith, r.1))) ∙ ap process_bits (r.2 ∙ e) ∙ bits_same n (omega arith) in
        omega (arith, r.1)

-- ---- the sets within a set
pub test_within : (M L : Processes) → within_test M L ≡ true → Within M L
test_within M L e i m = implies (has M i) (has L i) (every_at (λ j. not (has M j) || has L j) e i) m

pub within_test_lem : (M L : Processes) → Within M L → within_test M L ≡ true
within_test_lem M L w = every_of (λ j. not (has M j) || has L j) (λ j. implied (has M j) (has L j) (w j))

subsets_has : (L M : Processes) → Within M L → Memᴰ M (subsets L)
unfolding subsets
subsets_has L M w = mem_filter (λ N. within_test N L) (sets_below 16) M
    (subst (λ (N : Processes). Memᴰ N (sets_below 16)) (bits_back M) (mem_below 16 (process_bits M) (omega (arith, bits_few M)))) (within_test_lem M L w)

subsets_only : (L M : Processes) → Memᴰ M (subsets L) → Within M L
unfolding subsets
subsets_only L M m = test_within M L (filter_mem (λ N. within_test N L) (sets_below 16) M m).1

subsets_distinct : (L : Processes) → Distinct (subsets L)
unfolding subsets
subsets_distinct L = distinct_filter (λ N. within_test N L) (sets_below 16) (below_distinct 16 (omega arith))

-- what is in both sets, and in one of them
unfoldable pub meet : Processes → Processes → Processes
meet M L = record { b0 = M.b0 && L.b0; b1 = M.b1 && L.b1; b2 = M.b2 && L.b2; b3 = M.b3 && L.b3 }

unfoldable pub join : Processes → Processes → Processes
join M L = record { b0 = M.b0 || L.b0; b1 = M.b1 || L.b1; b2 = M.b2 || L.b2; b3 = M.b3 || L.b3 }

has_meet : (M L : Processes) (i : Process) → has (meet M L) i ≡ (has M i && has L i)
unfolding meet
has_meet M L = each_process (λ i. has (meet M L) i ≡ (has M i && has L i)) refl refl refl refl

has_join : (M L : Processes) (i : Process) → has (join M L) i ≡ (has M i || has L i)
unfolding join
has_join M L = each_process (λ i. has (join M L) i ≡ (has M i || has L i)) refl refl refl refl

pub meet_within : (M L : Processes) → Within (meet M L) L
meet_within M L i m = and_right (has M i) (has L i) (sym (has_meet M L i) ∙ m)

pub join_within : (M L P : Processes) → Within M P → Within L P → Within (join M L) P
join_within M L P a b i m = by_test (has M i) (a i) (λ n. b i (let e : (has M i || has L i) ≡ true = sym (has_join M L i) ∙ m in rw n at e))

-- the empty set
abbrev pub nowhere : Processes
nowhere = processes_of 0

has_nowhere : (i : Process) → has nowhere i ≡ false
has_nowhere = each_process (λ i. has nowhere i ≡ false) refl refl refl refl

pub nowhere_within : (P : Processes) → Within nowhere P
nowhere_within P i m = absurd (true≢false (sym m ∙ has_nowhere i))

-- ---- groups of plain and copied states
pub at_copies : (s : Process → ℕ) (g : Group) (i : Process) → at (copies s g) i ≡ s i + at g i
unfolding copies
at_copies s g i = at_build (λ j. s j + at g j) i

pub at_mixed : (s : Process → ℕ) (M : Processes) (g : Group) (i : Process) → at (mixed s M g) i ≡ cond (has M i) (s i + at g i) (at g i)
unfolding mixed
at_mixed s M g i = at_merge M (copies s g) g i ∙ ap (λ (n : ℕ). cond (has M i) n (at g i)) (at_copies s g i)

pub none_mixed : (s : Process → ℕ) (g : Group) → mixed s nowhere g ≡ g
none_mixed s g = ext (λ i. at_mixed s nowhere g i ∙ ap (λ (b : Bool). cond b (s i + at g i) (at g i)) (has_nowhere i))

pub mixtures_has : (s : Process → ℕ) (L M : Processes) (g : Group) → Within M L → Memᴰ (mixed s M g) (mixtures s L g)
unfolding mixtures
mixtures_has s L M g w = mathlib.Core.List.Memᴰ.map (λ (N : Processes). mixed s N g) (subsets_has L M w)

pub mixtures_only : (s : Process → ℕ) (L : Processes) (g h : Group) → Memᴰ h (mixtures s L g) → (M : Processes) × Within M L × (mixed s M g ≡ h)
unfolding mixtures
mixtures_only s L g h m = let r = mathlib.Core.List.Memᴰ.of_map (λ (N : Processes). mixed s N g) (subsets L) m in (r.0, subsets_only L r.0 r.1, r.2)

-- a state and its plain version: at most one below s
pub plain_one : (s x y : ℕ) (m n : Bool) → x < s → y < s → cond m (s + x) x ≡ cond n (s + y) y → x ≡ y
plain_one s x y true true a b e = omega arith
plain_one s x y true false a b e = omega arith
plain_one s x y false true a b e = omega arith
plain_one s x y false false a b e = e

-- which states are copies can be seen
copies_seen : (s x : ℕ) (m n : Bool) → x < s → cond m (s + x) x ≡ cond n (s + x) x → m ≡ n
copies_seen s x true true a e = refl
copies_seen s x true false a e = absurd (omega arith)
copies_seen s x false true a e = absurd (omega arith)
copies_seen s x false false a e = refl

same_set : (M N : Processes) → ((i : Process) → has M i ≡ has N i) → M ≡ N
same_set M N e = λ i. record { b0 = e p0 i; b1 = e p1 i; b2 = e p2 i; b3 = e p3 i }

pub not_in : (L M : Processes) → Within M L → (i : Process) → has L i ≡ false → has M i ≡ false
not_in L M w i n = by_test (has M i) (λ y. absurd (true≢false (sym (w i y) ∙ n))) (λ z. z)

mixed_inj : (s : Process → ℕ) (L M N : Processes) (g : Group) → Within M L → Within N L → ((i : Process) → has L i ≡ true → at g i < s i) → mixed s M g ≡ mixed s N g → M ≡ N
mixed_inj s L M N g v w low e = same_set M N (λ i. by_test (has L i)
    (λ y. copies_seen (s i) (at g i) (has M i) (has N i) (low i y) (sym (at_mixed s M g i) ∙ ap (λ (h : Group). at h i) e ∙ at_mixed s N g i))
    (λ n. not_in L M v i n ∙ sym (not_in L N w i n)))

pub mixtures_distinct : (s : Process → ℕ) (L : Processes) (g : Group) → ((i : Process) → has L i ≡ true → at g i < s i) → Distinct (mixtures s L g)
unfolding mixtures
mixtures_distinct s L g low = distinct_map (λ (M : Processes). mixed s M g) (subsets L) (λ M N m n e. mixed_inj s L M N g (subsets_only L M m) (subsets_only L N n) low e) (subsets_distinct L)

-- what a path meets of a mixed group, and where it leads
cut_state : (l m : Bool) (s x : ℕ) → cond l (cond m (s + x) x) 255 ≡ cond (m && l) (s + cond l x 255) (cond l x 255)
cut_state true true s x = refl
cut_state true false s x = refl
cut_state false true s x = refl
cut_state false false s x = refl

pub restrict_mixed : (s : Process → ℕ) (L M : Processes) (g : Group) → restrict L (mixed s M g) ≡ mixed s (meet M L) (restrict L g)
restrict_mixed s L M g = ext (λ i. simp (at_restrict, at_mixed, has_meet) (cut_state (has L i) (has M i) (s i) (at g i)))

moved_state : (l m : Bool) (s a x : ℕ) → cond l (cond l (s + a) 255) (cond m (s + x) x) ≡ cond (m || l) (s + cond l a x) (cond l a x)
moved_state true true s a x = refl
moved_state true false s a x = refl
moved_state false true s a x = refl
moved_state false false s a x = refl

pub merge_mixed : (s : Process → ℕ) (L M : Processes) (a g : Group) → merge L (restrict L (copies s a)) (mixed s M g) ≡ mixed s (join M L) (merge L a g)
merge_mixed s L M a g = ext (λ i. simp (at_merge, at_restrict, at_copies, at_mixed, has_join) (moved_state (has L i) (has M i) (s i) (at a i) (at g i)))

-- ---- the same by restricted copies: those of the processes L serve for each set within L; for the empty set none do
pub mixed_merge : (s : Process → ℕ) (L M : Processes) (g : Group) → Within M L → merge M (restrict L (copies s g)) g ≡ mixed s M g
mixed_merge s L M g w = ext (λ i. at_merge M (restrict L (copies s g)) g i ∙ by_test (has M i) (inside i) (λ n. rw n) ∙ sym (at_mixed s M g i))
  where
    inside : (i : Process) → has M i ≡ true → cond (has M i) (at (restrict L (copies s g)) i) (at g i) ≡ cond (has M i) (s i + at g i) (at g i)
    inside i m = rw (m, at_restrict L (copies s g) i, w i m, at_copies s g i)

pub merge_nowhere : (x g : Group) → merge nowhere x g ≡ g
merge_nowhere x g = ext (λ i. at_merge nowhere x g i ∙ ap (λ (b : Bool). cond b (at x i) (at g i)) (has_nowhere i))
