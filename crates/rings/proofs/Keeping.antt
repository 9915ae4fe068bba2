-- What keeps the rings: the same links, in any scratch; the same letters and states before, in any log.
use mathlib.Core.Path.{◌≡◌, ap, ◌∙◌}
use mathlib.Core.Bool.{Bool}
use mathlib.Core.Logic.{◌⊎◌, inl, inr}
use mathlib.Core.List.{List}
use Prim.Native.Nat.{ℕ, suc, ◌+◌, ◌-◌, ◌*◌, ◌<◌, ◌≤◌}
use native.Mathlib.Omega.{arith}
use lib.Dec.{eqb}
use lib.ListN.{get_or}
use Rattle.model.specs.Records.{letter_at}
use Rattle.numbers.proofs.NumberBytes.{number_same}
use Rattle.states.proofs.StateSets.{first_at, first_is}
use Rattle.packs.specs.Packs.{packed_before}
use Rattle.rings.specs.Rings.{record_bucket, in_bucket, link_place, link_at, NoneIn, NoTail, Greatest, Ahead, Around, Ringed, Freshened}

-- tails and next links decide
pub ringed_kept : (log : List ℕ) (base n at : ℕ) (s t : List ℕ) → base ≤ n → ((k : ℕ) → k < 2 * n → link_at t at k ≡ link_at s at k) → Ringed log base n at s → Ringed log base n at t
ringed_kept log base n at s t fits kept w = record { tail = λ h l. rw (kept h (omega arith)) (w.tail h l); next = λ r l. rw (kept (n + r) (omega arith)) (w.next r l) }

-- in any scratch with the same links
pub ringed_scratch : (log : List ℕ) (base n at : ℕ) (s t : List ℕ) → base ≤ n → ((i : ℕ) → at ≤ i → i < at + 6 * n → get_or t i 0 ≡ get_or s i 0) → Ringed log base n at s → Ringed log base n at t
ringed_scratch log base n at s t fits same w = ringed_kept log base n at s t fits
    (λ k l. number_same 2 s t (link_place at k) (λ m p q. same m (omega arith) (omega arith))) w

pub freshened_scratch : (log : List ℕ) (lo base n at : ℕ) (s t : List ℕ) → ((i : ℕ) → at ≤ i → i < at + 6 * n → get_or t i 0 ≡ get_or s i 0) → Freshened log lo base n at s → Freshened log lo base n at t
freshened_scratch log lo base n at s t same w h l p q = kept (2 * n + h) (omega arith) ∙ w h l (omega (arith, kept h (omega arith))) (omega (arith, kept h (omega arith)))
  where
    kept : (k : ℕ) → k < 3 * n → link_at t at k ≡ link_at s at k
    kept k l = number_same 2 s t (link_place at k) (λ m p q. same m (omega arith) (omega arith))

-- for a test that is the same below base
none_same : (test new : ℕ → Bool) (base from to : ℕ) → ((j : ℕ) → j < base → new j ≡ test j) → to ≤ base → NoneIn test from to → NoneIn new from to
none_same test new base from to same l w j p q = same j (omega arith) ∙ w j p q

pub tail_same : (test new : ℕ → Bool) (base t : ℕ) → ((j : ℕ) → j < base → new j ≡ test j) → NoTail test base t ⊎ Greatest test base t → NoTail new base t ⊎ Greatest new base t
tail_same test new base t same (inl x) = inl (record { is = x.is; none = none_same test new base 0 base same (omega arith) x.none })
tail_same test new base t same (inr x) = inr (record { below = x.below; passes = same t x.below ∙ x.passes; behind = none_same test new base (suc t) base same (omega arith) x.behind })

-- for any log whose first records have the same letters and states before
module _ (log new : List ℕ) (base n at : ℕ) (s : List ℕ) (letters : (r : ℕ) → r < base → letter_at new r ≡ letter_at log r) (states : (r : ℕ) → r < base → packed_before new r ≡ packed_before log r) where
  same_bucket : (r : ℕ) → r < base → record_bucket new n r ≡ record_bucket log n r
  unfolding record_bucket
  same_bucket r l = rw (letters r l, states r l)

  same_in : (h r : ℕ) → r < base → in_bucket new n h r ≡ in_bucket log n h r
  unfolding in_bucket
  same_in h r l = ap (λ (k : ℕ). eqb k h) (same_bucket r l)

  same_none : (h from to : ℕ) → to ≤ base → NoneIn (in_bucket log n h) from to → NoneIn (in_bucket new n h) from to
  same_none h from to l = none_same (in_bucket log n h) (in_bucket new n h) base from to (same_in h) l

  pub ringed_log : base ≤ n → Ringed log base n at s → Ringed new base n at s
  ringed_log fits w = record {
    tail = λ h l. tail_same (in_bucket log n h) (in_bucket new n h) base (link_at s at h) (same_in h) (w.tail h l);
    next = λ r l. rw (same_bucket r l) (next (record_bucket log n r) r (link_at s at (n + r)) l (w.next r l));
  }
    where
      next : (h r k : ℕ) → r < base → Ahead (in_bucket log n h) base r k ⊎ Around (in_bucket log n h) base r k → Ahead (in_bucket new n h) base r k ⊎ Around (in_bucket new n h) base r k
      next h r k l (inl x) = inl (record { later = x.later; below = x.below; passes = same_in h k x.below ∙ x.passes; between = same_none h (suc r) k (omega (arith, x.below)) x.between })
      next h r k l (inr x) = inr (record { earlier = x.earlier; passes = same_in h k (omega (arith, x.earlier)) ∙ x.passes; behind = same_none h (suc r) base (omega arith) x.behind; before = same_none h 0 k (omega (arith, x.earlier)) x.before })

  pub freshened_log : (lo : ℕ) → lo ≤ base → Freshened log lo base n at s → Freshened new lo base n at s
  freshened_log lo l w h q x y =
      let f = first_at (in_bucket log n h) lo (base - lo) (link_at s at (2 * n + h)) (w h q x y) in
      first_is (in_bucket new n h) lo (base - lo) (link_at s at (2 * n + h)) (record {
        low = f.low;
        high = f.high;
        passes = λ z. same_in h (link_at s at (2 * n + h)) (omega arith) ∙ f.passes z;
        fails = λ j a b. same_in h j (omega (arith, f.high)) ∙ f.fails j a b;
      })
