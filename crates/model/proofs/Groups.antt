-- Laws of restriction and of the joint tuple, one process at a time; the bits of a set of processes.
use mathlib.Core.Path.{◌∙◌, ◌≡◌, ap, refl, sym}
use mathlib.Core.Bool.{Bool, cond, false, true}
use Prim.Native.Nat.{ℕ, ◌+◌, ◌*◌, ◌/◌, ◌%◌, ◌≤◌}
use native.Mathlib.Omega.{arith}
use lib.Dec.{eqb}
use borrow.Author.Tests.{eq-eqb, eqb-false, eqb-true}
use Rattle.model.specs.declared.Group.{Group}
use Rattle.model.specs.Groups.{Apart, Process, Processes, Within, at, bit, build, has, merge, p0, p1, p2, p3, process_bits, processes_of, restrict, same_group}
use Rattle.model.proofs.Tests.{by_test, every_at, every_of}

pub at_build : (f : Process → ℕ) (i : Process) → at (build f) i ≡ f i
at_build f p0 = refl
at_build f p1 = refl
at_build f p2 = refl
at_build f p3 = refl

-- two groups are equal if they are so at each process
pub ext : {g h : Group} → ((i : Process) → at g i ≡ at h i) → g ≡ h
ext e = λ i. record { s0 = e p0 i; s1 = e p1 i; s2 = e p2 i; s3 = e p3 i }

pub at_merge : (L : Processes) (x g : Group) (i : Process) → at (merge L x g) i ≡ cond (has L i) (at x i) (at g i)
unfolding merge
at_merge L x g i = at_build (λ i. cond (has L i) (at x i) (at g i)) i

pub at_restrict : (L : Processes) (g : Group) (i : Process) → at (restrict L g) i ≡ cond (has L i) (at g i) 255
unfolding restrict
at_restrict L g i = at_build (λ i. cond (has L i) (at g i) 255) i

-- ---- laws of cond, one component at a time
cond_same : {A : Type 0} (b : Bool) (x : A) → cond b x x ≡ x
cond_same true x = refl
cond_same false x = refl

cond_over : {A : Type 0} (b : Bool) (x y z : A) → cond b x (cond b y z) ≡ cond b x z
cond_over true x y z = refl
cond_over false x y z = refl

cond_under : {A : Type 0} (b : Bool) (x y z : A) → cond b (cond b x y) z ≡ cond b x z
cond_under true x y z = refl
cond_under false x y z = refl

cond_swap : {A : Type 0} (b c : Bool) (x y z : A) → (b ≡ true → c ≡ false) → cond b x (cond c y z) ≡ cond c y (cond b x z)
cond_swap true c x y z h = rw (h refl)
cond_swap false c x y z h = refl

cond_miss : {A : Type 0} (b c : Bool) (x y z : A) → (b ≡ true → c ≡ false) → cond b (cond c x y) z ≡ cond b y z
cond_miss true c x y z h = rw (h refl)
cond_miss false c x y z h = refl

cond_cong : {A : Type 0} (b : Bool) {x y : A} (z : A) → (b ≡ true → x ≡ y) → cond b x z ≡ cond b y z
cond_cong true z h = h refl
cond_cong false z h = refl

-- ---- laws of merge and restrict
pub restrict_merge : (L : Processes) (x g : Group) → restrict L (merge L x g) ≡ restrict L x
restrict_merge L x g = ext (λ i. simp (at_restrict, at_merge) (cond_under (has L i) (at x i) (at g i) 255))

pub restrict_merge_apart : (L M : Processes) (x g : Group) → Apart L M → restrict L (merge M x g) ≡ restrict L g
restrict_merge_apart L M x g h = ext (λ i. simp (at_restrict, at_merge) (cond_miss (has L i) (has M i) (at x i) (at g i) 255 (h i)))

pub merge_merge : (L : Processes) (x y g : Group) → merge L x (merge L y g) ≡ merge L x g
merge_merge L x y g = ext (λ i. simp (at_merge) (cond_over (has L i) (at x i) (at y i) (at g i)))

pub merge_swap : (L M : Processes) (x y g : Group) → Apart L M → merge L x (merge M y g) ≡ merge M y (merge L x g)
merge_swap L M x y g h = ext (λ i. simp (at_merge) (cond_swap (has L i) (has M i) (at x i) (at y i) (at g i) (h i)))

pub merge_restrict : (L : Processes) (x g : Group) → merge L (restrict L x) g ≡ merge L x g
merge_restrict L x g = ext (λ i. simp (at_merge, at_restrict) (cond_under (has L i) (at x i) 255 (at g i)))

pub merge_self : (L : Processes) (g : Group) → merge L g g ≡ g
merge_self L g = ext (λ i. simp (at_merge) (cond_same (has L i) (at g i)))

-- two groups that agree on L, cut to L, and used inside L
pub agree_at : (L : Processes) (g h : Group) → restrict L g ≡ restrict L h → (i : Process) → has L i ≡ true → at g i ≡ at h i
agree_at L g h e i m = simp (at_restrict, m) at (ap (λ (x : Group). at x i) e)

pub agree_of : (L : Processes) (g h : Group) → ((i : Process) → has L i ≡ true → at g i ≡ at h i) → restrict L g ≡ restrict L h
agree_of L g h f = ext (λ i. simp at_restrict (cond_cong (has L i) 255 (f i)))

pub restrict_within : (L M : Processes) (g h : Group) → Within M L → restrict L g ≡ restrict L h → restrict M g ≡ restrict M h
restrict_within L M g h w e = agree_of M g h (λ i m. agree_at L g h e i (w i m))

-- what M changes inside L, seen from L, and what it leaves alone outside L
pub restrict_merge_cong : (L M : Processes) (x g h : Group) → restrict L g ≡ restrict L h → restrict L (merge M x g) ≡ restrict L (merge M x h)
restrict_merge_cong L M x g h e =
    agree_of L (merge M x g) (merge M x h) (λ i m. simp at_merge (ap (λ (n : ℕ). cond (has M i) (at x i) n) (agree_at L g h e i m)))

cond_within : {A : Type 0} (l m : Bool) (x y z : A) → (m ≡ true → l ≡ true) → cond l (cond m x y) z ≡ cond m x (cond l y z)
cond_within l true x y z h = rw (h refl)
cond_within l false x y z h = refl

pub merge_within : (L M : Processes) (x y g : Group) → Within M L → merge L (merge M x y) g ≡ merge M x (merge L y g)
merge_within L M x y g h = ext (λ i. simp at_merge (cond_within (has L i) (has M i) (at x i) (at y i) (at g i) (h i)))

pub merge_cong : (L : Processes) (x y g : Group) → restrict L x ≡ restrict L y → merge L x g ≡ merge L y g
merge_cong L x y g e = sym (merge_restrict L x g) ∙ ap (λ (z : Group). merge L z g) e ∙ merge_restrict L y g

cond_inside : {A : Type 0} (l m : Bool) (x y z : A) → (m ≡ true → l ≡ true) → cond l x (cond m y z) ≡ cond l x z
cond_inside l true x y z h = rw (h refl)
cond_inside l false x y z h = refl

pub merge_inside : (L M : Processes) (x y g : Group) → Within M L → merge L x (merge M y g) ≡ merge L x g
merge_inside L M x y g h = ext (λ i. simp at_merge (cond_inside (has L i) (has M i) (at x i) (at y i) (at g i) (h i)))

pub same_group_true : (g h : Group) → same_group g h ≡ true → g ≡ h
unfolding same_group
same_group_true g h e = ext (λ i. eqb-true (at g i) (at h i) (every_at (λ i. eqb (at g i) (at h i)) e i))

pub same_group_of : (g h : Group) → g ≡ h → same_group g h ≡ true
unfolding same_group
same_group_of g h e = every_of (λ i. eqb (at g i) (at h i)) (λ i. eq-eqb (at g i) (at h i) (ap (λ (x : Group). at x i) e))

-- ---- bits
-- the bits of a set of processes stand for that set, and bits below 16 are those of the set that they stand for
back : (a b c d : Bool) → processes_of (bit a + 2 * bit b + 4 * bit c + 8 * bit d) ≡ record { b0 = a; b1 = b; b2 = c; b3 = d }
back true true true true = refl
back true true true false = refl
back true true false true = refl
back true true false false = refl
back true false true true = refl
back true false true false = refl
back true false false true = refl
back true false false false = refl
back false true true true = refl
back false true true false = refl
back false true false true = refl
back false true false false = refl
back false false true true = refl
back false false true false = refl
back false false false true = refl
back false false false false = refl

pub bits_back : (L : Processes) → processes_of (process_bits L) ≡ L
unfolding process_bits
bits_back L = back L.b0 L.b1 L.b2 L.b3

-- a bit as a number
pub bit_low : (b : Bool) → bit b ≤ 1
bit_low true = omega arith
bit_low false = omega arith

pub bit_is : (x : ℕ) → bit (eqb (x % 2) 1) ≡ x % 2
bit_is x = by_test (eqb (x % 2) 1)
    (λ y. let one : x % 2 ≡ 1 = eqb-true (x % 2) 1 y in rw (y, one))
    (λ n. let not-one : x % 2 ≡ 1 → ⊥ = eqb-false (x % 2) 1 n in rw n (omega arith))

pub bits_same : (bits : ℕ) → bits ≤ 15 → process_bits (processes_of bits) ≡ bits
unfolding process_bits
bits_same bits h =
    let four : bits / 2 ≡ bits / 2 % 2 + 2 * (bits / 4) = omega arith in
    let eight : bits / 4 ≡ bits / 4 % 2 + 2 * (bits / 8) = omega arith in
    let last : bits / 8 % 2 ≡ bits / 8 = omega arith in
    omega (arith, bit_is bits, bit_is (bits / 2), bit_is (bits / 4), bit_is (bits / 8))
