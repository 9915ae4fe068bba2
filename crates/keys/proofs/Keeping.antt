-- What keeps the index: the same links, in any scratch; the same letters and states before and after, in any log.
use mathlib.Core.Path.{◌≡◌, ap}
use mathlib.Core.List.{List}
use Prim.Native.Nat.{ℕ, ◌+◌, ◌*◌, ◌<◌, ◌≤◌}
use native.Mathlib.Omega.{arith}
use lib.Dec.{eqb}
use lib.ListN.{get_or}
use Rattle.model.specs.Records.{letter_at}
use Rattle.numbers.proofs.NumberBytes.{number_same}
use Rattle.packs.specs.Packs.{packed_after, packed_before}
use Rattle.rings.specs.Rings.{link_place, link_at}
use Rattle.rings.proofs.Keeping.{tail_same}
use Rattle.keys.specs.Keys.{key_bucket_at, in_key_bucket, Indexed}

-- in any scratch with the same links
pub indexed_scratch : (log : List ℕ) (base n at : ℕ) (s t : List ℕ) → base ≤ n → ((i : ℕ) → at ≤ i → i < at + 4 * n → get_or t i 0 ≡ get_or s i 0) → Indexed log base n at s → Indexed log base n at t
indexed_scratch log base n at s t fits same w = record { first = λ h l. rw (kept h (omega arith)) (w.first h l); next = λ r l. rw (kept (n + r) (omega arith)) (w.next r l) }
  where
    kept : (k : ℕ) → k < 2 * n → link_at t at k ≡ link_at s at k
    kept k l = number_same 2 s t (link_place at k) (λ m p q. same m (omega arith) (omega arith))

-- for any log whose first records have the same letters and states before and after
module _ (log new : List ℕ) (base n at : ℕ) (s : List ℕ) (letters : (r : ℕ) → r < base → letter_at new r ≡ letter_at log r) (befores : (r : ℕ) → r < base → packed_before new r ≡ packed_before log r)
    (afters : (r : ℕ) → r < base → packed_after new r ≡ packed_after log r) where
  same_bucket : (r : ℕ) → r < base → key_bucket_at new n r ≡ key_bucket_at log n r
  unfolding key_bucket_at
  same_bucket r l = rw (letters r l, befores r l, afters r l)

  same_in : (h r : ℕ) → r < base → in_key_bucket new n h r ≡ in_key_bucket log n h r
  unfolding in_key_bucket
  same_in h r l = ap (λ (k : ℕ). eqb k h) (same_bucket r l)

  pub indexed_log : Indexed log base n at s → Indexed new base n at s
  indexed_log w = record {
    first = λ h l. tail_same (in_key_bucket log n h) (in_key_bucket new n h) base (link_at s at h) (same_in h) (w.first h l);
    next = λ r l. rw (same_bucket r l) (
        let h = key_bucket_at log n r in
        tail_same (in_key_bucket log n h) (in_key_bucket new n h) r (link_at s at (n + r)) (λ j q. same_in h j (omega arith)) (w.next r l));
  }
