-- Laws of adding: an index without records, and one with a record more in front of its bucket.
use mathlib.Core.Path.{◌≡◌, sym, subst, ◌∙◌}
use mathlib.Core.Logic.{◌⊎◌, inr, ⊎_elim}
use mathlib.Core.List.{List}
use Prim.Native.Nat.{ℕ, suc, ◌+◌, ◌*◌, ◌<◌, ◌≤◌}
use native.Mathlib.Decide.{ℕ_discrete}
use native.Mathlib.Omega.{arith}
use lib.ListN.{length}
use Rattle.numbers.proofs.NumberBytes.{length_number}
use Rattle.rings.specs.Rings.{no_link, link_place, link_at, OutsideSame, NoTail, Greatest, with_link}
use Rattle.rings.proofs.Links.{link_other, link_same, outside_join, outside_link}
use Rattle.rings.proofs.NewRecord.{tail_more}
use Rattle.keys.specs.Keys.{key_bucket_at, in_key_bucket, KeyRoom, Indexed, pushed}
use Rattle.keys.proofs.Buckets.{in_other, in_own, own_below}

-- record r in front of its bucket
module _ (log : List ℕ) (n at r : ℕ) (s : List ℕ) (short : n ≤ no_link) (room : at + 4 * n ≤ length s) (lr : r < n) (w : Indexed log r n at s) where
  abbrev h : ℕ
  h = key_bucket_at log n r

  lh : h < n
  lh = own_below log n r (omega arith)

  -- the bucket's first record so far
  abbrev x : ℕ
  x = link_at s at h

  small : x ≤ no_link
  small = ⊎_elim (λ a. omega (arith, a.is)) (λ a. omega (arith, a.below)) (w.first h lh)

  abbrev s1 : List ℕ
  s1 = with_link s at (n + r) x

  abbrev s2 : List ℕ
  s2 = with_link s1 at h r

  size : length s1 ≡ length s
  size = length_number 2 s (link_place at (n + r)) x

  kept : (k : ℕ) → (k ≡ h → ⊥) → (k ≡ n + r → ⊥) → link_at s2 at k ≡ link_at s at k
  kept k a b = link_other s1 at h r k a ∙ link_other s at (n + r) x k b

  own_first : Greatest (in_key_bucket log n h) (suc r) (link_at s2 at h)
  own_first = rw (link_same s1 at h r (omega (arith, lh, size)) (omega arith)) (record { below = omega arith; passes = in_own log n r; behind = λ j a b. absurd (omega arith) })

  own_next : NoTail (in_key_bucket log n h) r (link_at s2 at (n + r)) ⊎ Greatest (in_key_bucket log n h) r (link_at s2 at (n + r))
  own_next = rw (link_other s1 at h r (n + r) (λ e. omega (arith, lh)), link_same s at (n + r) x (omega arith) small) (w.first h lh)

  outside : OutsideSame (4 * n) at s s2
  outside = outside_join (outside_link (4 * n) at s (n + r) x (omega arith)) (outside_link (4 * n) at s1 h r (omega (arith, lh)))

  index : Indexed log (suc r) n at s2
  index = record {
    first = λ k l. elim (ℕ_discrete k h) [
      | yes e ↦ inr (subst (λ (j : ℕ). Greatest (in_key_bucket log n j) (suc r) (link_at s2 at j)) (sym e) own_first)
      | no ne ↦ rw (kept k ne (λ e. omega arith)) (tail_more (in_key_bucket log n k) r (link_at s at k) (in_other log n k r ne) (w.first k l))
    ];
    next = λ q l. elim (ℕ_discrete q r) [
      | yes e ↦ subst (λ (j : ℕ). NoTail (in_key_bucket log n (key_bucket_at log n j)) j (link_at s2 at (n + j)) ⊎ Greatest (in_key_bucket log n (key_bucket_at log n j)) j (link_at s2 at (n + j))) (sym e) own_next
      | no ne ↦ rw (kept (n + q) (λ e. omega (arith, lh)) (λ e. ne (omega arith))) (w.next q (omega arith))
    ];
  }

  turn : OutsideSame (4 * n) at s (pushed log n at s r) × Indexed log (suc r) n at (pushed log n at s r)
  unfolding pushed
  turn = (outside, index)

-- one turn of adding
pub pushed_turn : {log : List ℕ} {to n at r : ℕ} {s t : List ℕ} → KeyRoom log to n at s → r < to → OutsideSame (4 * n) at s t → Indexed log r n at t
    → OutsideSame (4 * n) at s (pushed log n at t r) × Indexed log (r + 1) n at (pushed log n at t r)
pushed_turn {log} {to} {n} {at} {r} {s} {t} room l same w =
    let e : r + 1 ≡ suc r = omega arith in
    let more = turn log n at r t room.short (omega (arith, room.room, same.size)) (omega (arith, room.fits)) w in
    (outside_join same more.0, rw e more.1)
