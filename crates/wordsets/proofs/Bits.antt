-- Bits of numbers and of lists of bytes.
use mathlib.Core.Path.{◌≡◌, refl, ap, ap₂, sym, subst, ◌∙◌}
use mathlib.Core.Bool.{Bool, true, false, ◌&&◌, ◌||◌}
use mathlib.Core.Logic.{inl}
use mathlib.Core.List.{List}
use Prim.Native.Nat.{ℕ, zero, suc, ◌+◌, ◌-◌, ◌*◌, ◌/◌, ◌%◌, ◌^◌, ◌<◌, ◌≤◌, min, max}
use native.Mathlib.Nat.{mul_assoc, mul-mod_left, zero-div}
use native.Mathlib.Decide.{dec_lt}
use native.Mathlib.Omega.{arith}
use lib.Bits.{bit_and, bit_or, or_shr, or_step, and_shr, and_step}
use lib.Pow.{pow-add, shl-shr, shr-shr, field, mod-mod-pow}
use lib.Dec.{eqb, leb}
use lib.ListN.{length, get_or, set, length-set}
use lib.Seq.{get_or-set_same}
use borrow.Author.Tests.{eqb-true, eqb-false, le-leb, lt-leb}
use Rattle.model.specs.Records.{number_at}
use Rattle.model.proofs.Tests.{by_test}
use Rattle.numbers.specs.NumberBytes.{with_number}
use Rattle.numbers.proofs.NumberBytes.{AllBytes, byte_kept, with_suc}
use Rattle.wordsets.specs.WordSets.{has_bit, in_set, word_sum}

-- ---- one number
bit_is : (x j y k : ℕ) → x / 2 ^ j % 2 ≡ y / 2 ^ k % 2 → has_bit x j ≡ has_bit y k
unfolding has_bit
bit_is x j y k e = ap (λ (n : ℕ). eqb n 1) e

bit_zero : (x j : ℕ) → x / 2 ^ j % 2 ≡ 0 → has_bit x j ≡ false
unfolding has_bit
bit_zero x j e = ap (λ (n : ℕ). eqb n 1) e

-- a digit is 0 or 1
by_digit {ℓ} : (P : ℕ → Type ℓ) (n : ℕ) → P 0 → P 1 → P (n % 2)
by_digit P n a b = by_test (eqb (n % 2) 1) (λ t. rw (eqb-true (n % 2) 1 t) b)
    (λ e. let z : n % 2 ≡ 0 = (let ne : n % 2 ≡ 1 → ⊥ = eqb-false (n % 2) 1 e in omega arith) in rw z a)

pub bit_or_lem : (a b j : ℕ) → has_bit (bit_or a b) j ≡ has_bit a j || has_bit b j
unfolding has_bit
bit_or_lem a b j =
    let e : bit_or a b / 2 ^ j % 2 ≡ max (a / 2 ^ j % 2) (b / 2 ^ j % 2) = ap (λ (n : ℕ). n % 2) (or_shr a b j) ∙ omega (arith, or_step (a / 2 ^ j) (b / 2 ^ j)) in
    rw e (by_digit (λ (p : ℕ). eqb (max p (b / 2 ^ j % 2)) 1 ≡ (eqb p 1 || eqb (b / 2 ^ j % 2) 1)) (a / 2 ^ j)
    (by_digit (λ (q : ℕ). eqb (max 0 q) 1 ≡ eqb q 1) (b / 2 ^ j) refl refl) (by_digit (λ (q : ℕ). eqb (max 1 q) 1 ≡ true) (b / 2 ^ j) refl refl))

pub bit_and_lem : (a b j : ℕ) → has_bit (bit_and a b) j ≡ has_bit a j && has_bit b j
unfolding has_bit
bit_and_lem a b j =
    let e : bit_and a b / 2 ^ j % 2 ≡ min (a / 2 ^ j % 2) (b / 2 ^ j % 2) = ap (λ (n : ℕ). n % 2) (and_shr a b j) ∙ omega (arith, and_step (a / 2 ^ j) (b / 2 ^ j)) in
    rw e (by_digit (λ (p : ℕ). eqb (min p (b / 2 ^ j % 2)) 1 ≡ (eqb p 1 && eqb (b / 2 ^ j % 2) 1)) (a / 2 ^ j)
    (by_digit (λ (q : ℕ). eqb (min 0 q) 1 ≡ false) (b / 2 ^ j) refl refl) (by_digit (λ (q : ℕ). eqb (min 1 q) 1 ≡ eqb q 1) (b / 2 ^ j) refl refl))

pub bit_shr : (x k j : ℕ) → has_bit (x / 2 ^ k) j ≡ has_bit x (k + j)
bit_shr x k j = bit_is (x / 2 ^ k) j x (k + j) (ap (λ (n : ℕ). n % 2) (shr-shr x k j))

-- the low bits are those of the remainder
bit_mod : (x w j : ℕ) → j < w → has_bit (x % 2 ^ w) j ≡ has_bit x j
bit_mod x w j h =
    let d = w - (1 + j) in
    let e : d + (1 + j) ≡ w = omega arith in
    let a : x % 2 ^ w % 2 ^ (1 + j) ≡ x % 2 ^ (1 + j) = subst (λ (k : ℕ). x % 2 ^ k % 2 ^ (1 + j) ≡ x % 2 ^ (1 + j)) e (mod-mod-pow x d (1 + j)) in
    bit_is (x % 2 ^ w) j x j (sym (field (x % 2 ^ w) 1 j) ∙ ap (λ (n : ℕ). n / 2 ^ j) a ∙ field x 1 j)

shl_low : (x k j : ℕ) → j < k → x * 2 ^ k / 2 ^ j % 2 ≡ 0
shl_low x k j h =
    let d = k - (1 + j) in
    let e : (d + 1) + j ≡ k = omega arith in
    subst (λ (i : ℕ). x * 2 ^ i / 2 ^ j % 2 ≡ 0) e
    (ap (λ (n : ℕ). n / 2 ^ j % 2) (ap (λ (n : ℕ). x * n) (pow-add 2 (d + 1) j) ∙ sym (mul_assoc x (2 ^ (d + 1)) (2 ^ j)))
    ∙ ap (λ (n : ℕ). n % 2) (shl-shr (x * 2 ^ (d + 1)) j)
    ∙ ap (λ (n : ℕ). x * n % 2) (pow-add 2 d 1)
    ∙ ap (λ (n : ℕ). n % 2) (sym (mul_assoc x (2 ^ d) 2))
    ∙ mul-mod_left (x * 2 ^ d) 2)

shl_high : (x k j : ℕ) → x * 2 ^ k / 2 ^ (k + j) ≡ x / 2 ^ j
shl_high x k j = sym (shr-shr (x * 2 ^ k) k j) ∙ ap (λ (n : ℕ). n / 2 ^ j) (shl-shr x k)

bit_shl : (x k w j : ℕ) → j < w → has_bit (x * 2 ^ k % 2 ^ w) j ≡ leb k j && has_bit x (j - k)
bit_shl x k w j h = bit_mod (x * 2 ^ k) w j h ∙ elim (dec_lt j k) [
  | yes l ↦ bit_zero (x * 2 ^ k) j (shl_low x k j l) ∙ sym (ap (λ (b : Bool). b && has_bit x (j - k)) (lt-leb k j l))
  | no l ↦
      let e : k + (j - k) ≡ j = omega arith in
      subst (λ (i : ℕ). has_bit (x * 2 ^ k) i ≡ has_bit x (j - k)) e (bit_is (x * 2 ^ k) (k + (j - k)) x (j - k) (ap (λ (n : ℕ). n % 2) (shl_high x k (j - k))))
      ∙ sym (ap (λ (b : Bool). b && has_bit x (j - k)) (le-leb k j (omega arith)))
]

-- ---- a byte and the bytes above it
bit_low : (a b j : ℕ) → a < 256 → j < 8 → has_bit (a + 256 * b) j ≡ has_bit a j
bit_low a b j h l =
    let e : (a + 256 * b) % 2 ^ 8 ≡ a = omega arith in
    sym (bit_mod (a + 256 * b) 8 j l) ∙ ap (λ (n : ℕ). has_bit n j) e

bit_high : (a b j : ℕ) → a < 256 → has_bit (a + 256 * b) (8 + j) ≡ has_bit b j
bit_high a b j h =
    let e : (a + 256 * b) / 2 ^ 8 ≡ b = omega arith in
    sym (bit_shr (a + 256 * b) 8 j) ∙ ap (λ (n : ℕ). has_bit n j) e

-- ---- numbers in bytes
in_is : (s : List ℕ) (i j k l : ℕ) → i + j / 8 ≡ k + l / 8 → j % 8 ≡ l % 8 → in_set s i j ≡ in_set s k l
unfolding in_set
in_is s i j k l a b = ap₂ (λ (n m : ℕ). has_bit (get_or s n 0) m) a b

in_next : (s : List ℕ) (i j : ℕ) → in_set s (suc i) j ≡ in_set s i (8 + j)
in_next s i j = in_is s (suc i) j i (8 + j) (omega arith) (omega arith)

in_first : (s : List ℕ) (i j : ℕ) → j < 8 → in_set s i j ≡ has_bit (get_or s i 0) j
unfolding in_set
in_first s i j h =
    let a : i + j / 8 ≡ i = omega arith in
    let b : j % 8 ≡ j = omega arith in
    rw (a, b)

-- the bits of k bytes are those of their number
pub number_bit : (k : ℕ) (s : List ℕ) (i j : ℕ) → AllBytes s → j < 8 * k → has_bit (number_at k s i) j ≡ in_set s i j
unfolding number_at
number_bit zero s i j f h = absurd (omega arith)
number_bit (suc k) s i j f h = elim (dec_lt j 8) [
  | yes l ↦ bit_low (get_or s i 0) (number_at k s (suc i)) j (f i) l ∙ sym (in_first s i j l)
  | no l ↦
      let e : 8 + (j - 8) ≡ j = omega arith in
      subst (λ (n : ℕ). has_bit (get_or s i 0 + 256 * number_at k s (suc i)) n ≡ in_set s i n) e
      (bit_high (get_or s i 0) (number_at k s (suc i)) (j - 8) (f i) ∙ number_bit k s (suc i) (j - 8) f (omega arith) ∙ in_next s i (j - 8))
]

pub byte_bit : (k : ℕ) (s : List ℕ) (i j : ℕ) → AllBytes s → j < 8 * k → eqb (number_at k s i / 2 ^ j % 2) 1 ≡ eqb (get_or s (i + j / 8) 0 / 2 ^ (j % 8) % 2) 1
unfolding has_bit in_set
byte_bit = number_bit

-- ---- bytes written
pub written_bit : (k : ℕ) (s : List ℕ) (i x j : ℕ) → i + k ≤ length s → j < 8 * k → in_set (with_number k s i x) i j ≡ has_bit x j
written_bit zero s i x j r h = absurd (omega arith)
written_bit (suc k) s i x j r h = elim (dec_lt j 8) [
  | yes l ↦ in_first (with_number (suc k) s i x) i j l
      ∙ ap (λ (n : ℕ). has_bit n j) (ap (λ (t : List ℕ). get_or t i 0) (with_suc k s i x) ∙ byte_kept k (set s i (x % 256)) (suc i) (x / 256) i (inl (omega arith)) ∙ get_or-set_same s i (x % 256) 0 (omega arith))
      ∙ bit_mod x 8 j l
  | no l ↦
      let e : 8 + (j - 8) ≡ j = omega arith in
      let t = with_number k (set s i (x % 256)) (suc i) (x / 256) in
      subst (λ (n : ℕ). in_set (with_number (suc k) s i x) i n ≡ has_bit x n) e
      (ap (λ (u : List ℕ). in_set u i (8 + (j - 8))) (with_suc k s i x) ∙ sym (in_next t i (j - 8)) ∙ written_bit k (set s i (x % 256)) (suc i) (x / 256) (j - 8) (omega (arith, length-set s i (x % 256))) (omega arith) ∙ bit_shr x 8 (j - 8))
]

-- ---- one word more
pub sum_bit : (f t after before rest j : ℕ) → j < 64
    → has_bit (word_sum f t after before rest) j ≡ has_bit t j || (leb before j && (has_bit f (after + (j - before)) && has_bit rest (j - before)))
unfolding word_sum
sum_bit f t after before rest j h =
    bit_or_lem t (bit_and (f / 2 ^ after) rest * 2 ^ before % 2 ^ 64) j
    ∙ ap (λ (b : Bool). has_bit t j || b) (bit_shl (bit_and (f / 2 ^ after) rest) before 64 j h
    ∙ ap (λ (b : Bool). leb before j && b) (bit_and_lem (f / 2 ^ after) rest (j - before)
    ∙ ap (λ (b : Bool). b && has_bit rest (j - before)) (bit_shr f after (j - before))))

-- ---- no bits above
pub number_none : (k : ℕ) (s : List ℕ) (i j : ℕ) → AllBytes s → 8 * k ≤ j → has_bit (number_at k s i) j ≡ false
unfolding number_at
number_none zero s i j f h = bit_zero 0 j (ap (λ (n : ℕ). n % 2) (zero-div (2 ^ j)))
number_none (suc k) s i j f h =
    let e : 8 + (j - 8) ≡ j = omega arith in
    subst (λ (n : ℕ). has_bit (get_or s i 0 + 256 * number_at k s (suc i)) n ≡ false) e
    (bit_high (get_or s i 0) (number_at k s (suc i)) (j - 8) (f i) ∙ number_none k s (suc i) (j - 8) f (omega arith))

-- the bits of a set, byte by byte and word by word
pub in_same : (s t : List ℕ) (at n : ℕ) → get_or t (at + n / 8) 0 ≡ get_or s (at + n / 8) 0 → in_set t at n ≡ in_set s at n
unfolding in_set
in_same s t at n e = ap (λ (b : ℕ). has_bit b (n % 8)) e

pub in_word : (s : List ℕ) (at v j : ℕ) → in_set s at (64 * v + j) ≡ in_set s (at + 8 * v) j
in_word s at v j = in_is s at (64 * v + j) (at + 8 * v) j (omega arith) (omega arith)
