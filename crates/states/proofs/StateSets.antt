-- Laws of sets of state numbers.
use mathlib.Core.Path.{◌≡◌, refl, ap, ap₂, sym, subst, ◌∙◌}
use mathlib.Core.Bool.{Bool, true, false, ◌||◌, true≢false, cond}
use mathlib.Core.List.{List}
use Prim.Native.Nat.{ℕ, zero, suc, ◌+◌, ◌-◌, ◌*◌, ◌/◌, ◌%◌, ◌^◌, ◌<◌, ◌≤◌, max}
use native.Mathlib.Nat.{pow-le-pow_right, div_self, div-eq_of_lt, mod-eq_of_lt, one-mul, mul-mod_left, pow-suc, max-le, max-eq_right, max-zero, zero-div}
use native.Mathlib.Decide.{ℕ_discrete, dec_lt}
use native.Mathlib.Numerals.{add-one}
use native.Mathlib.Omega.{arith}
use lib.Dec.{eqb}
use lib.Bits.{bit_or, or_shr, or_step}
use Rattle.std.specs.Int.{w8, trailing_zeros}
use Rattle.std.proofs.lemmas.Nat.{le_or_l, le_or_r, shr-shr, shr_le}
use Rattle.std.proofs.lemmas.Nat.Bits.{bit_at-trailing_zeros}
use lib.Pow.{pow_pos, pow-lt, pow-add, shl-shr}
use lib.ListN.{length, get_or, set, length-set, replicate}
use lib.Seq.{get_or-set_same, get_or-set_other}
use borrow.Author.Tests.{eqb-true, eqb-false}
use Rattle.model.proofs.Tests.{by_test}
use Rattle.states.specs.StateNumbers.{state_count}
use Rattle.states.specs.StateSets.{NoneFrom, set_block, member, inserted, first_from, next_member}

-- ---- a number put in
-- a one shifted within a byte
pub one_shifted : (k : ℕ) → k < 8 → 1 * 2 ^ k % 256 ≡ 2 ^ k
one_shifted k h = rw one-mul (mod-eq_of_lt (pow-lt {j = 8} h))

-- bit j of a or b
or_bit : (a b j : ℕ) → bit_or a b / 2 ^ j % 2 ≡ max (a / 2 ^ j % 2) (b / 2 ^ j % 2)
or_bit a b j =
    let x = a / 2 ^ j in
    let y = b / 2 ^ j in
    let m : max (x % 2) (y % 2) ≤ 1 = max-le (omega arith) (omega arith) in
    ap (λ (n : ℕ). n % 2) (or_shr a b j) ∙ omega (arith, or_step x y)

pow_bit_same : (k : ℕ) → 2 ^ k / 2 ^ k % 2 ≡ 1
pow_bit_same k = rw (div_self (pow_pos k))

pow_bit_under : (m j : ℕ) → 2 ^ (suc m + j) / 2 ^ j % 2 ≡ 0
pow_bit_under m j = rw (pow-add 2 (suc m) j, shl-shr (2 ^ suc m) j, pow-suc) (mul-mod_left (2 ^ m) 2)

pow_bit_other : (k j : ℕ) → (j ≡ k → ⊥) → 2 ^ k / 2 ^ j % 2 ≡ 0
pow_bit_other k j n = elim (dec_lt k j) [
  | yes h ↦ rw (div-eq_of_lt (pow-lt h))
  | no h ↦ subst (λ (i : ℕ). 2 ^ i / 2 ^ j % 2 ≡ 0) (omega arith) (pow_bit_under (k - j - 1) j)
]

-- a number that was put in is in
pub member_same : (l : List ℕ) (n : ℕ) → n < 8 * length l → member (inserted l n) n ≡ true
unfolding member inserted
member_same l n h =
    let x = get_or l (n / 8) 0 in
    let k = n % 8 in
    ap (λ (y : ℕ). eqb (y / 2 ^ k % 2) 1) (get_or-set_same l (n / 8) (bit_or x (2 ^ k)) 0 (omega arith))
    ∙ ap (λ (y : ℕ). eqb y 1) (or_bit x (2 ^ k) k ∙ ap (λ (y : ℕ). max (x / 2 ^ k % 2) y) (pow_bit_same k) ∙ max-eq_right (omega arith))

-- and every other number is in or out as it was
pub member_other : (l : List ℕ) (n m : ℕ) → n < 8 * length l → (m ≡ n → ⊥) → member (inserted l n) m ≡ member l m
unfolding member inserted
member_other l n m h ne =
    let x = get_or l (n / 8) 0 in
    let k = n % 8 in
    let v = bit_or x (2 ^ k) in
    let bit : ℕ → ℕ = λ y. y / 2 ^ (m % 8) % 2 in
    let same : bit (get_or (set l (n / 8) v) (m / 8) 0) ≡ bit (get_or l (m / 8) 0) = elim (ℕ_discrete (m / 8) (n / 8)) [
      | yes e ↦
          let other : m % 8 ≡ k → ⊥ = λ q. ne (omega arith) in
          ap (λ (b : ℕ). bit (get_or (set l (n / 8) v) b 0)) e
          ∙ ap bit (get_or-set_same l (n / 8) v 0 (omega arith))
          ∙ or_bit x (2 ^ k) (m % 8)
          ∙ ap (λ (y : ℕ). max (x / 2 ^ (m % 8) % 2) y) (pow_bit_other k (m % 8) other)
          ∙ max-zero (x / 2 ^ (m % 8) % 2)
          ∙ ap (λ (b : ℕ). bit (get_or l b 0)) (sym e)
      | no e ↦ ap bit (get_or-set_other l (n / 8) (m / 8) v 0 e)
    ] in
    ap (λ (y : ℕ). eqb y 1) same

pub member_inserted : (l : List ℕ) (n m : ℕ) → n < 8 * length l → member (inserted l n) m ≡ eqb m n || member l m
member_inserted l n m h = by_test (eqb m n)
    (λ t. rw (t, eqb-true m n t) (member_same l n h))
    (λ f. rw f (member_other l n m h (eqb-false m n f)))

pub length_inserted : (l : List ℕ) (n : ℕ) → length (inserted l n) ≡ length l
unfolding inserted
length_inserted l n = simp length-set

-- ---- no number
-- no number of a zero byte is in
pub member_byte : (l : List ℕ) (n : ℕ) → get_or l (n / 8) 0 ≡ 0 → member l n ≡ false
unfolding member
member_byte l n e = ap (λ (x : ℕ). eqb (x / 2 ^ (n % 8) % 2) 1) e ∙ ap (λ (x : ℕ). eqb (x % 2) 1) (zero-div (2 ^ (n % 8)))

zero_byte : (k i : ℕ) → ◌≡◌ {A = ℕ} (get_or (replicate k 0) i 0) 0
zero_byte zero i = refl
zero_byte (suc k) zero = refl
zero_byte (suc k) (suc i) = zero_byte k i

-- nothing is in a zero set
pub member_zeros : (k n : ℕ) → member (replicate k 0) n ≡ false
member_zeros k n = member_byte (replicate k 0) n (zero_byte k (n / 8))

-- ---- the first number that passes a test
-- none from n on and below m passes
abbrev pub Fails : (ℕ → Bool) → ℕ → ℕ → Type 0
Fails test n m = (j : ℕ) → n ≤ j → j < m → test j ≡ false

pub fails_none : (test : ℕ → Bool) (n : ℕ) → Fails test n n
fails_none test n j h q = absurd (omega arith)

pub fails_join : (test : ℕ → Bool) (n m k : ℕ) → Fails test n m → Fails test m k → Fails test n k
fails_join test n m k f g j h q = elim (dec_lt j m) [ yes l ↦ f j h l | no l ↦ g j (omega arith) q ]

pub fails_one : (test : ℕ → Bool) (n : ℕ) → test n ≡ false → Fails test n (n + 1)
fails_one test n f j h q =
    let e : j ≡ n = omega arith in
    ap test e ∙ f

-- what is known of the first number: it lies within, it passes unless it is the end, and none before it passes
pub record First (test : ℕ → Bool) (n k r : ℕ) : Type 0 where
  pub low : n ≤ r
  pub high : r ≤ n + k
  pub passes : r < n + k → test r ≡ true
  pub fails : Fails test n r

pub first_of : (test : ℕ → Bool) (n k : ℕ) → First test n k (first_from test n k)
unfolding first_from
first_of test n zero = record { low = omega arith; high = omega arith; passes = λ h. absurd (omega arith); fails = fails_none test n }
first_of test n (suc k) = by_test (test n) (λ t. rw t (here t)) (λ f. rw f (later f (first_of test (suc n) k)))
  where
    here : test n ≡ true → First test n (suc k) n
    here t = record { low = omega arith; high = omega arith; passes = λ h. t; fails = fails_none test n }

    later : {r : ℕ} → test n ≡ false → First test (suc n) k r → First test n (suc k) r
    later {r} f w = record {
      low = omega (arith, w.low);
      high = omega (arith, w.high);
      passes = λ h. w.passes (omega arith);
      fails = fails_join test n (suc n) r (rw add-one at (fails_one test n f)) w.fails;
    }

-- a number of which that is known is the first
pub first_is : (test : ℕ → Bool) (n k r : ℕ) → First test n k r → r ≡ first_from test n k
first_is test n k r a =
    let s = first_from test n k in
    let b = first_of test n k in
    elim (dec_lt r s) [
      | yes h ↦ absurd (true≢false (sym (a.passes (omega (arith, b.high))) ∙ b.fails r a.low h))
      | no h ↦ elim (dec_lt s r) [
        | yes q ↦ absurd (true≢false (sym (b.passes (omega (arith, a.high))) ∙ a.fails s b.low q))
        | no q ↦ omega arith
      ]
    ]

pub first_at : (test : ℕ → Bool) (n k r : ℕ) → r ≡ first_from test n k → First test n k r
first_at test n k r e = subst (λ (x : ℕ). First test n k x) (sym e) (first_of test n k)

-- the next member is the first number at or after `from` that is in
pub next_at : (l : List ℕ) (from r : ℕ) → r ≡ next_member l from → First (member l) from (state_count - from) r
unfolding next_member
next_at l from r e = first_at (member l) from (state_count - from) r e

pub next_is : (l : List ℕ) (from r : ℕ) → First (member l) from (state_count - from) r → r ≡ next_member l from
unfolding next_member
next_is l from r w = first_is (member l) from (state_count - from) r w

-- ---- within a byte
-- the byte of n, shifted to n: its bits are the numbers from n on
abbrev pub byte_from : List ℕ → ℕ → ℕ
byte_from l n = get_or l (n / 8) 0 / 2 ^ (n % 8)

shifted_bit : (l : List ℕ) (n j : ℕ) → n ≤ j → j < n - n % 8 + 8 → member l j ≡ eqb (byte_from l n / 2 ^ (j - n) % 2) 1
unfolding member
shifted_bit l n j h q =
    let same : j / 8 ≡ n / 8 = omega arith in
    let bit : j % 8 ≡ n % 8 + (j - n) = omega arith in
    ap₂ (λ (i k : ℕ). eqb (get_or l i 0 / 2 ^ k % 2) 1) same bit ∙ ap (λ (x : ℕ). eqb (x % 2) 1) (sym (shr-shr (get_or l (n / 8) 0) (n % 8) (j - n)))

-- where it is zero, no number is in
pub fails_byte : (l : List ℕ) (n : ℕ) → byte_from l n ≡ 0 → Fails (member l) n (n - n % 8 + 8)
fails_byte l n z j h q = shifted_bit l n j h q ∙ ap (λ (x : ℕ). eqb (x / 2 ^ (j - n) % 2) 1) z ∙ ap (λ (x : ℕ). eqb (x % 2) 1) (zero-div (2 ^ (j - n)))

-- else its lowest 1 is the next member
pub found_bit : (l : List ℕ) (from n : ℕ) → from ≤ n → n < state_count → Fails (member l) from n → get_or l (n / 8) 0 < 256 → 0 < byte_from l n
    → n + trailing_zeros w8 (byte_from l n) ≡ next_member l from
found_bit l from n a u f s h =
    let x = get_or l (n / 8) 0 in
    let b = byte_from l n in
    let d = trailing_zeros w8 b in
    let t = bit_at-trailing_zeros w8 b h (omega (arith, shr_le x (n % 8))) in
    let room : n % 8 + d < 8 = elim (dec_lt (n % 8 + d) 8) [
      | yes r ↦ r
      | no r ↦
          let k : 8 ≤ n % 8 + d = omega arith in
          let p : 2 ^ 8 ≤ 2 ^ (n % 8 + d) = pow-le-pow_right (pow_pos 1) k in
          let none : b / 2 ^ d ≡ 0 = shr-shr x (n % 8) d ∙ div-eq_of_lt (omega arith) in
          absurd (omega (arith, t.1))
    ] in
    let back : n + d - n ≡ d = omega arith in
    let here : member l (n + d) ≡ true = shifted_bit l n (n + d) (omega arith) (omega arith) ∙ ap (λ (k : ℕ). eqb (b / 2 ^ k % 2) 1) back ∙ ap (λ (k : ℕ). eqb k 1) t.1 in
    let before : Fails (member l) n (n + d) = λ j p q. shifted_bit l n j p (omega arith) ∙ ap (λ (k : ℕ). eqb k 1) (t.2 (j - n) (omega arith)) in
    next_is l from (n + d) (record { low = omega arith; high = omega arith; passes = λ q. here; fails = fails_join (member l) from n (n + d) f before })

-- ---- a block of zero bytes
pub or_zero : (a b : ℕ) → bit_or a b ≡ 0 → (a ≡ 0) × (b ≡ 0)
or_zero a b e = (omega (arith, le_or_l a b), omega (arith, le_or_r a b))

-- no number of it is in
pub zero_block : (l : List ℕ) (n : ℕ) → n < state_count → n % (8 * set_block) ≡ 0 → ((i : ℕ) → i < set_block → get_or l (n / 8 + i) 0 ≡ 0) → NoneFrom l n (n + 8 * set_block)
zero_block l n h d e = record {
  later = omega arith;
  within = omega arith;
  none = λ j a b.
      let at : n / 8 + (j / 8 - n / 8) ≡ j / 8 = omega arith in
      member_byte l j (rw at at (e (j / 8 - n / 8) (omega arith)));
}

pub first_cong : (f h : ℕ → Bool) (m k : ℕ) → ((i : ℕ) → m ≤ i → i < m + k → f i ≡ h i) → first_from f m k ≡ first_from h m k
unfolding first_from
first_cong f h m zero e = refl
first_cong f h m (suc k) e = ap₂ (λ (b : Bool) (n : ℕ). cond b m n) (e m (omega arith) (omega arith)) (first_cong f h (suc m) k (λ i a b. e i (omega arith) (omega arith)))
