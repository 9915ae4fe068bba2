-- Laws of appending: a turn for one record keeps the rings and the first fresh records.
use mathlib.Core.Path.{◌≡◌, refl, ap, ◌∙◌}
use mathlib.Core.Logic.{⊎_elim}
use mathlib.Core.List.{List}
use Prim.Native.Nat.{ℕ, suc, ◌+◌, ◌*◌, ◌<◌, ◌≤◌}
use native.Mathlib.Decide.{ℕ_discrete, dec_lt}
use native.Mathlib.Omega.{arith}
use lib.ListN.{length}
use borrow.Author.Tests.{eq-eqb, ne_eqb, lt-ltb, le-ltb}
use Rattle.numbers.proofs.NumberBytes.{length_number}
use Rattle.rings.specs.Rings.{record_bucket, in_bucket, no_link, link_place, link_at, RingRoom, NoTail, Greatest, Ringed, Freshened, OutsideSame, with_link, started, lengthened, appended}
use Rattle.rings.proofs.Links.{link_other, link_same, next_below, outside_join, outside_link, own_below}
use Rattle.rings.proofs.NewRecord.{alone, behind, fresh_begun, fresh_lengthened, fresh_started, ring_lengthened, ring_started}
use Rattle.rings.proofs.Keeping.{ringed_kept}

-- the records below r are in the rings, and the first from lo on are known
pub record Appending (log : List ℕ) (n at lo r : ℕ) (s t : List ℕ) : Type 0 where
  pub low : lo ≤ r
  pub same : OutsideSame (6 * n) at s t
  pub ringed : Ringed log r n at t
  pub fresh : Freshened log lo r n at t

module _ (log : List ℕ) (n at lo r : ℕ) (s t : List ℕ) (short : n ≤ no_link) (room : at + 6 * n ≤ length t) (lr : r < n) (w : Appending log n at lo r s t) where
  -- its bucket and the tail there
  abbrev h : ℕ
  h = record_bucket log n r

  abbrev tl : ℕ
  tl = link_at t at h

  lh : h < n
  lh = own_below log n r (omega arith)

  turn_started : NoTail (in_bucket log n h) r tl → Appending log n at lo (suc r) s (started n at t h r)
  turn_started x =
      let a = alone n at t short room h lh r lr in
      record {
        low = omega (arith, w.low);
        same = outside_join w.same a.outside;
        ringed = ring_started log n at t (started n at t h r) r h lr lh short refl w.ringed x.none a;
        fresh = fresh_started log n at t (started n at t h r) r h lr lh short refl w.ringed x.none a lo w.low w.fresh;
      }

  turn_lengthened : Greatest (in_bucket log n h) r tl → lo ≤ tl → Appending log n at lo (suc r) s (lengthened n at t h tl r)
  turn_lengthened g l =
      let small : link_at t at (n + tl) ≤ no_link = omega (arith, next_below tl g.below w.ringed) in
      let a = behind n at t short room h lh r lr tl g.below small in
      let u = lengthened n at t h tl r in
      record {
        low = omega (arith, w.low);
        same = outside_join w.same a.outside;
        ringed = ring_lengthened log n at t u r h lr lh short refl w.ringed tl g a;
        fresh = fresh_lengthened log n at t u r h lr lh short refl w.ringed tl g a lo refl l w.fresh;
      }

  -- the same, with r put down as the bucket's first from lo on
  abbrev begun : List ℕ
  begun = with_link t at (2 * n + h) r

  begun_kept : (k : ℕ) → (k ≡ 2 * n + h → ⊥) → link_at begun at k ≡ link_at t at k
  begun_kept k ne = link_other t at (2 * n + h) r k ne

  begun_ringed : Ringed log r n at begun
  begun_ringed = ringed_kept log r n at t begun (omega arith) (λ k l. begun_kept k (λ e. omega arith)) w.ringed

  turn_begun : Greatest (in_bucket log n h) r tl → tl < lo → Appending log n at lo (suc r) s (lengthened n at begun h tl r)
  turn_begun g l =
      let size : length begun ≡ length t = length_number 2 t (link_place at (2 * n + h)) r in
      let small : link_at begun at (n + tl) ≤ no_link = omega (arith, next_below tl g.below begun_ringed) in
      let space : at + 6 * n ≤ length begun = omega arith in
      let a = behind n at begun short space h lh r lr tl g.below small in
      let u = lengthened n at begun h tl r in
      let put : link_at begun at (2 * n + h) ≡ r = link_same t at (2 * n + h) r (omega (arith, lh)) (omega arith) in
      let known : Freshened log lo r n at begun = λ k q x y. elim (ℕ_discrete k h) [
        | yes e ↦ absurd (omega (arith, ap (λ (j : ℕ). link_at begun at j) e, begun_kept h (λ z. omega (arith, lh))))
        | no ne ↦ begun_kept (2 * n + k) (λ e. ne (omega arith)) ∙ w.fresh k q (omega (arith, begun_kept k (λ e. omega arith))) (omega (arith, begun_kept k (λ e. omega arith)))
      ] in
      record {
        low = omega (arith, w.low);
        same = outside_join w.same (outside_join (outside_link (6 * n) at t (2 * n + h) r (omega (arith, lh))) a.outside);
        ringed = ring_lengthened log n at begun u r h lr lh short refl begun_ringed tl g a;
        fresh = fresh_begun log n at begun u r h lr lh short refl begun_ringed tl g a lo l w.low put known;
      }

  turn : Appending log n at lo (suc r) s (appended log n at lo t r)
  unfolding appended
  turn = ⊎_elim
      (λ (x : NoTail (in_bucket log n h) r tl). rw (eq-eqb tl no_link x.is) (turn_started x))
      (λ (g : Greatest (in_bucket log n h) r tl). rw (ne_eqb tl no_link (λ e. omega (arith, g.below))) (elim (dec_lt tl lo) [
        | yes l ↦ rw (lt-ltb tl lo l) (turn_begun g l)
        | no l ↦ rw (le-ltb tl lo (omega arith)) (turn_lengthened g (omega arith))
      ]))
      (w.ringed.tail h lh)

pub appending_turn : {log : List ℕ} {to n at lo r : ℕ} {s t : List ℕ} → RingRoom log to n at s → r < to → Appending log n at lo r s t → Appending log n at lo (r + 1) s (appended log n at lo t r)
appending_turn {log} {to} {n} {at} {lo} {r} {s} {t} room l w =
    let e : r + 1 ≡ suc r = omega arith in
    rw e (turn log n at lo r s t room.short (omega (arith, room.room, w.same.size)) (omega (arith, room.fits)) w)
