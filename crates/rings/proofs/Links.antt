-- Laws of the links, the buckets, and the bytes outside the links.
use mathlib.Core.Path.{◌≡◌, refl, sym, subst, ◌∙◌}
use mathlib.Core.Bool.{true, false}
use mathlib.Core.Logic.{inl, inr, ⊎_elim}
use mathlib.Core.List.{List}
use Prim.Native.Nat.{ℕ, ◌+◌, ◌*◌, ◌/◌, ◌%◌, ◌<◌, ◌≤◌}
use native.Mathlib.Decide.{dec_lt}
use native.Mathlib.Nat.{div-lt_iff_lt-mul, mul_comm, mul-lt-mul_of_pos_right, zero-lt-suc}
use native.Mathlib.Omega.{arith}
use lib.Dec.{eqb}
use lib.ListN.{length}
use borrow.Author.Tests.{eq-eqb, eqb-true, ne_eqb}
use Rattle.model.specs.Records.{letter_at}
use Rattle.model.proofs.Tests.{and_left, and_right}
use Rattle.numbers.specs.NumberBytes.{with_number}
use Rattle.numbers.proofs.NumberBytes.{byte_kept, length_number, number_kept, number_written}
use Rattle.packs.specs.Packs.{packed_before}
use Rattle.rings.specs.Rings.{mixer, scaled_to, bucket_of, record_bucket, in_bucket, record_reads, no_link, link_place, link_at, OutsideSame, Ringed, with_link}

-- ---- links
pub link_same : (s : List ℕ) (at k x : ℕ) → link_place at k + 2 ≤ length s → x ≤ no_link → link_at (with_number 2 s (link_place at k) x) at k ≡ x
link_same s at k x h f = number_written 2 s (link_place at k) x h (omega arith)

pub link_other : (s : List ℕ) (at k x j : ℕ) → (j ≡ k → ⊥) → link_at (with_number 2 s (link_place at k) x) at j ≡ link_at s at j
link_other s at k x j ne = number_kept 2 2 s (link_place at k) x (link_place at j) (elim (dec_lt k j) [ yes h ↦ inr (omega arith) | no h ↦ inl (omega arith) ])

-- ---- buckets
-- a part of n in 65,536 parts is below n
pub scaled_below : (n mixed : ℕ) → 0 < n → scaled_to n mixed < n
scaled_below n mixed l =
    let part : mixed / 65536 % 65536 < 65536 = omega arith in
    (div-lt_iff_lt-mul (zero-lt-suc 65535)).1 (subst (λ (m : ℕ). mixed / 65536 % 65536 * n < m) (mul_comm 65536 n) (mul-lt-mul_of_pos_right part l))

pub bucket_below : (n letter g : ℕ) → 0 < n → bucket_of n letter g < n
unfolding bucket_of
bucket_below n letter g h = scaled_below n ((g + 8 * letter) * mixer) h

pub reads_parts : (log : List ℕ) (letter g i : ℕ) → record_reads log letter g i ≡ true → (letter_at log i ≡ letter) × (packed_before log i ≡ g)
unfolding record_reads
reads_parts log letter g i e = (
  eqb-true (letter_at log i) letter (and_left (eqb (letter_at log i) letter) (eqb (packed_before log i) g) e),
  eqb-true (packed_before log i) g (and_right (eqb (letter_at log i) letter) (eqb (packed_before log i) g) e),
)

pub reads_bucket : (log : List ℕ) (n letter g i : ℕ) → record_reads log letter g i ≡ true → record_bucket log n i ≡ bucket_of n letter g
unfolding record_bucket
reads_bucket log n letter g i e = let parts = reads_parts log letter g i e in rw (parts.0, parts.1)

-- ---- bytes outside the links
pub outside_none : (width at : ℕ) (s : List ℕ) → OutsideSame width at s s
outside_none width at s = record { size = refl; before = λ i h. refl; behind = λ i h. refl }

pub outside_join : {width at : ℕ} {s t u : List ℕ} → OutsideSame width at s t → OutsideSame width at t u → OutsideSame width at s u
outside_join p q = record { size = q.size ∙ p.size; before = λ i h. q.before i h ∙ p.before i h; behind = λ i h. q.behind i h ∙ p.behind i h }

-- in a wider part
pub outside_wider : {at : ℕ} {s t : List ℕ} (width wide : ℕ) → width ≤ wide → OutsideSame width at s t → OutsideSame wide at s t
outside_wider width wide l p = record { size = p.size; before = p.before; behind = λ i h. p.behind i (omega arith) }

pub outside_link : (width at : ℕ) (s : List ℕ) (k x : ℕ) → 2 * k + 2 ≤ width → OutsideSame width at s (with_link s at k x)
outside_link width at s k x l = record {
  size = length_number 2 s (link_place at k) x;
  before = λ i h. byte_kept 2 s (link_place at k) x i (inl (omega arith));
  behind = λ i h. byte_kept 2 s (link_place at k) x i (inr (omega arith));
}

pub own_below : (log : List ℕ) (n r : ℕ) → 0 < n → record_bucket log n r < n
unfolding record_bucket
own_below log n r h = bucket_below n (letter_at log r) (packed_before log r) h

pub in_own : (log : List ℕ) (n r : ℕ) → in_bucket log n (record_bucket log n r) r ≡ true
unfolding in_bucket
in_own log n r = eq-eqb (record_bucket log n r) (record_bucket log n r) refl

pub in_other : (log : List ℕ) (n h r : ℕ) → (h ≡ record_bucket log n r → ⊥) → in_bucket log n h r ≡ false
unfolding in_bucket
in_other log n h r ne = ne_eqb (record_bucket log n r) h (λ e. ne (sym e))

pub in_true : (log : List ℕ) (n h r : ℕ) → in_bucket log n h r ≡ true → record_bucket log n r ≡ h
unfolding in_bucket
in_true log n h r t = eqb-true (record_bucket log n r) h t

-- ---- records that a ring links
-- every link of a ring is below base
pub next_below : {log : List ℕ} {base n at : ℕ} {s : List ℕ} (r : ℕ) → r < base → Ringed log base n at s → link_at s at (n + r) < base
next_below r l w = ⊎_elim (λ x. x.below) (λ x. omega (arith, x.earlier)) (w.next r l)
