-- Bytes written one after the other, and sets of positions: one put into a set is in it, every other stays in or out.
use mathlib.Core.Path.{◌≡◌, refl, ap, ap₂, sym, subst, ◌∙◌}
use mathlib.Core.Bool.{false, ◌||◌}
use mathlib.Core.Logic.{◌⊎◌, inl, inr, ⊎_elim}
use mathlib.Core.List.{List}
use Prim.Native.Nat.{ℕ, zero, suc, ◌+◌, ◌/◌, ◌%◌, ◌^◌, ◌<◌, ◌≤◌, max}
use native.Mathlib.Nat.{div-div-eq-div-mul, div-one, pow-suc, pow-succ'}
use native.Mathlib.Decide.{ℕ_discrete, dec_lt}
use native.Mathlib.Omega.{arith}
use lib.Bits.{bit_or, or_shr, or_step}
use lib.Count.{count_trailing_zeros, under}
use lib.Dec.{eqb, ltb}
use lib.ListN.{drop, get_or, length, length-drop, length-set, set}
use lib.Seq.{drop-set-add, get_or-drop, get_or-set_other, get_or-set_same}
use borrow.Author.Tests.{eq-eqb, eqb-false, eqb-true, le-ltb, lt-ltb, ne_eqb}
use Rattle.model.proofs.Tests.{by_test}
use Rattle.states.specs.StateSets.{inserted, member}
use Rattle.states.proofs.StateSets.{member_byte, member_inserted}
use Rattle.rules.specs.Regions.{BytesWritten, KeptOutside, SetAdded, has_position, position_ceiling, position_bytes, with_position}

-- ---- regions
pub kept_none : {at n : ℕ} {s : List ℕ} → KeptOutside at n s s
kept_none = record { size = refl; outside = λ i d. refl }

pub kept_trans : {at n : ℕ} {s t u : List ℕ} → KeptOutside at n s t → KeptOutside at n t u → KeptOutside at n s u
kept_trans k l = record { size = l.size ∙ k.size; outside = λ i d. l.outside i d ∙ k.outside i d }

pub kept_wider : {at n to m : ℕ} {s t : List ℕ} → to ≤ at → at + n ≤ to + m → KeptOutside at n s t → KeptOutside to m s t
kept_wider a b k = record { size = k.size; outside = λ i d. k.outside i (⊎_elim (λ h. inl (omega arith)) (λ h. inr (omega arith)) d) }

kept_set : (at n i v : ℕ) (s : List ℕ) → at ≤ i → i < at + n → KeptOutside at n s (set s i v)
kept_set at n i v s a b = record { size = length-set s i v; outside = λ j d. get_or-set_other s i j v 0 (λ e. ⊎_elim (λ h. omega arith) (λ h. omega arith) d) }

-- ---- bytes one after the other
pub bytes_more : {at : ℕ} {byte : ℕ → ℕ} {n : ℕ} {s t : List ℕ} → BytesWritten at byte n s t → at + n < length t → {v : ℕ} → v ≡ byte n → BytesWritten at byte (n + 1) s (set t (at + n) v)
bytes_more {at} {byte} {n} {s} {t} w room {v} is = record {
  kept = kept_trans (kept_wider (omega arith) (omega arith) w.kept) (kept_set at (n + 1) (at + n) v t (omega arith) (omega arith));
  bytes = λ j l. elim (dec_lt j n) [
    | yes h ↦ get_or-set_other t (at + n) (at + j) v 0 (λ e. omega arith) ∙ w.bytes j h
    | no h ↦
        let e : j ≡ n = omega arith in
        subst (λ (m : ℕ). get_or (set t (at + n) v) (at + m) 0 ≡ byte m) (sym e) (get_or-set_same t (at + n) v 0 room ∙ is)
  ];
}

-- the last one
pub bytes_all : {at : ℕ} {byte : ℕ → ℕ} {i n : ℕ} {s t : List ℕ} → i ≤ n → n ≤ i → BytesWritten at byte i s t → BytesWritten at byte n s t
bytes_all {at} {byte} {i} {n} {s} {t} a b w = let e : i ≡ n = omega arith in subst (λ (m : ℕ). BytesWritten at byte m s t) e w

-- ---- sets
pub in_byte : (s : List ℕ) (at p : ℕ) → has_position s at p ≡ eqb (get_or s (at + p / 8) 0 / 2 ^ (p % 8) % 2) 1
unfolding has_position member
in_byte s at p = ap (λ (x : ℕ). eqb (x / 2 ^ (p % 8) % 2) 1) (get_or-drop at s (p / 8) 0)

-- a set whose bytes are the same has the same positions
pub in_same : (s t : List ℕ) (at p : ℕ) → get_or t (at + p / 8) 0 ≡ get_or s (at + p / 8) 0 → has_position t at p ≡ has_position s at p
in_same s t at p e = in_byte t at p ∙ ap (λ (x : ℕ). eqb (x / 2 ^ (p % 8) % 2) 1) e ∙ sym (in_byte s at p)

-- as one that lies outside of the bytes that changed
pub in_kept : (at n : ℕ) (s t : List ℕ) (set p : ℕ) → KeptOutside at n s t → (set + position_bytes ≤ at) ⊎ (at + n ≤ set) → p < position_ceiling → has_position t set p ≡ has_position s set p
in_kept at n s t set p k d l = in_same s t set p (k.outside (set + p / 8) (⊎_elim (λ h. inl (omega arith)) (λ h. inr (omega arith)) d))

-- a cleared set has none
pub in_cleared : (s : List ℕ) (at p : ℕ) → get_or s (at + p / 8) 0 ≡ 0 → has_position s at p ≡ false
unfolding has_position
in_cleared s at p e = member_byte (drop at s) p (get_or-drop at s (p / 8) 0 ∙ e)

-- ---- a position more
pub below_more : (p q : ℕ) → (eqb q p || ltb q p) ≡ ltb q (p + 1)
below_more p q = elim (ℕ_discrete q p) [
  | yes e ↦ rw (eq-eqb q p e) (sym (lt-ltb q (p + 1) (omega arith)))
  | no ne ↦ elim (dec_lt q p) [
    | yes h ↦ rw (ne_eqb q p ne, lt-ltb q p h) (sym (lt-ltb q (p + 1) (omega arith)))
    | no h ↦ rw (ne_eqb q p ne, le-ltb q p (omega arith)) (sym (le-ltb q (p + 1) (omega arith)))
  ]
]

pub kept_put : (s : List ℕ) (at p : ℕ) → p < position_ceiling → KeptOutside at position_bytes s (with_position s at p)
unfolding with_position
kept_put s at p l = kept_set at position_bytes (at + p / 8) (bit_or (get_or s (at + p / 8) 0) (2 ^ (p % 8))) s (omega arith) (omega arith)

pub in_put : (s : List ℕ) (at p q : ℕ) → at + position_bytes ≤ length s → p < position_ceiling → has_position (with_position s at p) at q ≡ eqb q p || has_position s at q
unfolding has_position with_position inserted
in_put s at p q room l =
    let v = bit_or (get_or s (at + p / 8) 0) (2 ^ (p % 8)) in
    let is : drop at (set s (at + p / 8) v) ≡ inserted (drop at s) p =
    drop-set-add at s (p / 8) v ∙ ap (λ (x : ℕ). set (drop at s) (p / 8) (bit_or x (2 ^ (p % 8)))) (sym (get_or-drop at s (p / 8) 0)) in
    ap (λ (m : List ℕ). member m q) is ∙ member_inserted (drop at s) p q (omega (arith, length-drop at s))

-- ---- one set added to another
by_digit : {C : Type 0} (n : ℕ) → (n % 2 ≡ 0 → C) → (n % 2 ≡ 1 → C) → C
by_digit n f g = by_test (eqb (n % 2) 1) (λ t. g (eqb-true (n % 2) 1 t)) (λ e. f (let ne : n % 2 ≡ 1 → ⊥ = eqb-false (n % 2) 1 e in omega arith))

pub bit_or_lem : (a b j : ℕ) → eqb (bit_or a b / 2 ^ j % 2) 1 ≡ eqb (a / 2 ^ j % 2) 1 || eqb (b / 2 ^ j % 2) 1
bit_or_lem a b j =
    let x = a / 2 ^ j in
    let y = b / 2 ^ j in
    let e : bit_or a b / 2 ^ j % 2 ≡ max (x % 2) (y % 2) = ap (λ (n : ℕ). n % 2) (or_shr a b j) ∙ omega (arith, or_step x y) in
    by_digit x
    (λ p. by_digit y (λ q. rw (e, p, q)) (λ q. rw (e, p, q)))
    (λ p. by_digit y (λ q. rw (e, p, q)) (λ q. rw (e, p, q)))

-- byte j of both sets together
abbrev pub sum_byte : List ℕ → ℕ → ℕ → ℕ → ℕ
sum_byte s from to j = bit_or (get_or s (to + j) 0) (get_or s (from + j) 0)

pub set_added : {from to : ℕ} {s t : List ℕ} → BytesWritten to (sum_byte s from to) position_bytes s t → SetAdded from to s t
set_added {from} {to} {s} {t} w = record {
  kept = w.kept;
  positions = λ p l. in_byte t to p ∙ ap (λ (x : ℕ). eqb (x / 2 ^ (p % 8) % 2) 1) (w.bytes (p / 8) (omega arith))
      ∙ bit_or_lem (get_or s (to + p / 8) 0) (get_or s (from + p / 8) 0) (p % 8) ∙ ap₂ ◌||◌ (sym (in_byte s to p)) (sym (in_byte s from p));
}

-- ---- the zeros below a number's lowest one
under_pos : (d t : ℕ) → 0 < under d t → d ≡ 0
under_pos zero t l = refl
under_pos (suc d) t l = absurd (omega arith)

under_more : (d t i : ℕ) → suc i < under d t → i < t
under_more zero t i l = omega arith
under_more (suc d) t i l = absurd (omega arith)

under_low : (d t m : ℕ) → (d ≡ 0 → t < m) → under d t < suc m
under_low zero t m f = let l : t < m = f refl in omega arith
under_low (suc d) t m f = omega arith

half_shr : (x i : ℕ) → x / 2 ^ suc i ≡ x / 2 / 2 ^ i
half_shr x i = ap (λ (n : ℕ). x / n) (pow-succ' 2 i) ∙ sym (div-div-eq-div-mul x 2 (2 ^ i))

-- they are zeros
pub trailing_clear : (k x j : ℕ) → j < count_trailing_zeros k x → x / 2 ^ j % 2 ≡ 0
unfolding count_trailing_zeros
trailing_clear zero x j l = absurd (omega arith)
trailing_clear (suc k) x zero l = ap (λ (n : ℕ). n % 2) (div-one x) ∙ under_pos (x % 2) (count_trailing_zeros k (x / 2)) l
trailing_clear (suc k) x (suc i) l = ap (λ (n : ℕ). n % 2) (half_shr x i) ∙ trailing_clear k (x / 2) i (under_more (x % 2) (count_trailing_zeros k (x / 2)) i l)

-- there are fewer than the number has digits
pub trailing_low : (k m x : ℕ) → 0 < x → x < 2 ^ m → count_trailing_zeros k x < m
unfolding count_trailing_zeros
trailing_low k zero x a b = absurd (omega arith)
trailing_low zero (suc m) x a b = omega arith
trailing_low (suc k) (suc m) x a b = under_low (x % 2) (count_trailing_zeros k (x / 2)) m (λ e. trailing_low k m (x / 2) (omega arith) (omega (arith, pow-suc 2 m)))

-- and one at least, if the lowest digit is zero
pub trailing_some : (k x : ℕ) → x % 2 ≡ 0 → 0 < count_trailing_zeros (suc k) x
unfolding count_trailing_zeros
trailing_some k x e = rw e (omega arith)
