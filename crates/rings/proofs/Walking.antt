-- Laws of the search that follows a ring, and of where it begins.
use mathlib.Core.Path.{◌≡◌, ap, sym, subst, ◌∙◌}
use mathlib.Core.Bool.{Bool, true, false, true≢false}
use mathlib.Core.Logic.{◌⊎◌, ⊎_elim}
use mathlib.Core.List.{List}
use Prim.Native.Nat.{ℕ, suc, ◌+◌, ◌-◌, ◌*◌, ◌<◌, ◌≤◌}
use native.Mathlib.Decide.{ℕ_discrete, dec_lt}
use native.Mathlib.Omega.{arith}
use borrow.Author.Tests.{eq-eqb}
use Rattle.model.proofs.Tests.{by_test}
use Rattle.states.specs.StateSets.{first_from}
use Rattle.states.proofs.StateSets.{first_at, first_of, first_is}
use Rattle.rings.specs.Rings.{bucket_of, record_bucket, in_bucket, record_reads, no_link, link_at, NoneIn, Greatest, Ahead, Around, Ringed, Freshened}
use Rattle.rings.proofs.Links.{in_true, reads_bucket}

-- ---- following a ring
none_reads : (log : List ℕ) (n letter : ℕ) (g : ℕ) (h from to : ℕ) → h ≡ bucket_of n letter g → NoneIn (in_bucket log n h) from to → NoneIn (record_reads log letter g) from to
unfolding in_bucket
none_reads log n letter g h from to b f j p q = by_test (record_reads log letter g j)
    (λ t. absurd (true≢false (sym (eq-eqb (record_bucket log n j) h (reads_bucket log n letter g j t ∙ sym b)) ∙ f j p q)))
    (λ e. e)

-- Record r is in the ring of the letter and the states g before, and none from `from` on and before it reads them
pub record Walks (log : List ℕ) (base n letter : ℕ) (g : ℕ) (from r : ℕ) : Type 0 where
  pub low : from ≤ r
  pub below : r < base
  pub skips : NoneIn (record_reads log letter g) from r
  pub bucket : record_bucket log n r ≡ bucket_of n letter g

-- no record of the bucket: the first is base
pub none_first : (log : List ℕ) (base n letter : ℕ) (g : ℕ) (h from : ℕ) → from ≤ base → h ≡ bucket_of n letter g → NoneIn (in_bucket log n h) from base → base ≡ first_from (record_reads log letter g) from (base - from)
none_first log base n letter g h from l b f = first_is (record_reads log letter g) from (base - from) base (record { low = l; high = omega arith; passes = λ q. absurd (omega arith); fails = none_reads log n letter g h from base b f })

-- the next link of a record of the bucket
pub walks_next : {log : List ℕ} {base n at : ℕ} {s : List ℕ} {r w : ℕ} (letter : ℕ) (g : ℕ) → Ringed log base n at s → r < base → record_bucket log n r ≡ bucket_of n letter g → w ≡ link_at s at (n + r) → r < w
    → Walks log base n letter g (suc r) w
walks_next {log} {base} {n} {at} {s} {r} {w} letter g rings lr b e l =
    let k = link_at s at (n + r) in
    let a : Ahead (in_bucket log n (record_bucket log n r)) base r k = ⊎_elim (λ y. y) (λ y. absurd (omega (arith, y.earlier))) (rings.next r lr) in
    rw e (record { low = a.later; below = a.below; skips = none_reads log n letter g (record_bucket log n r) (suc r) k b a.between; bucket = in_true log n (record_bucket log n r) k a.passes ∙ b })

pub last_first : {log : List ℕ} {base n at : ℕ} {s : List ℕ} {r w : ℕ} (letter : ℕ) (g : ℕ) → Ringed log base n at s → r < base → record_bucket log n r ≡ bucket_of n letter g → w ≡ link_at s at (n + r) → w ≤ r
    → base ≡ first_from (record_reads log letter g) (suc r) (base - suc r)
last_first {log} {base} {n} {at} {s} {r} {w} letter g rings lr b e l =
    let k = link_at s at (n + r) in
    let a : Around (in_bucket log n (record_bucket log n r)) base r k = ⊎_elim (λ y. absurd (omega (arith, y.later))) (λ y. y) (rings.next r lr) in
    none_first log base n letter g (record_bucket log n r) (suc r) lr b a.behind

-- records before r, r itself and those behind it
pub passed : (test : ℕ → Bool) (from r to : ℕ) → NoneIn test from r → test r ≡ false → NoneIn test (suc r) to → NoneIn test from to
passed test from r to before f behind j p q = elim (dec_lt j r) [
  | yes y ↦ before j p y
  | no y ↦ elim (ℕ_discrete j r) [ yes z ↦ ap test z ∙ f | no z ↦ behind j (omega arith) q ]
]

pub walks_turn : {log : List ℕ} {base n at letter : ℕ} {g : ℕ} {s : List ℕ} {from r w : ℕ} → Ringed log base n at s → Walks log base n letter g from r → record_reads log letter g r ≡ false
    → w ≡ link_at s at (n + r) → r < w → Walks log base n letter g from w
walks_turn {log} {letter = letter} {g = g} {from = from} {r = r} {w = w} rings x f e l =
    let y = walks_next letter g rings x.below x.bucket e l in
    record { low = omega (arith, x.low); below = y.below; skips = passed (record_reads log letter g) from r w x.skips f y.skips; bucket = y.bucket }

-- a link that is not above its record: there is none
pub walks_none : {log : List ℕ} {base n at letter : ℕ} {g : ℕ} {s : List ℕ} {from r w : ℕ} → Ringed log base n at s → Walks log base n letter g from r → record_reads log letter g r ≡ false
    → w ≡ link_at s at (n + r) → w ≤ r → base ≡ first_from (record_reads log letter g) from (base - from)
walks_none {log} {base} {letter = letter} {g = g} {from = from} {r = r} rings x f e l =
    let test = record_reads log letter g in
    let y = first_at test (suc r) (base - suc r) base (last_first letter g rings x.below x.bucket e l) in
    first_is test from (base - from) base (record {
      low = omega (arith, x.low, x.below);
      high = omega arith;
      passes = λ h. absurd (omega (arith, x.low, x.below));
      fails = passed test from r base x.skips f y.fails;
    })

pub walks_end : {log : List ℕ} {base n letter : ℕ} {g : ℕ} {from r : ℕ} → Walks log base n letter g from r → record_reads log letter g r ≡ true → r ≡ first_from (record_reads log letter g) from (base - from)
walks_end {log} {base} {n} {letter} {g} {from} {r} x t = first_is (record_reads log letter g) from (base - from) r (record { low = x.low; high = omega (arith, x.below); passes = λ h. t; fails = x.skips })

-- ---- where a search begins
-- none from `from` on and before a record of the ring reads them: the first from that record on is the first from `from` on
pub walks_first : {log : List ℕ} {base n letter : ℕ} {g : ℕ} {from start k : ℕ} → Walks log base n letter g from start → k ≡ first_from (record_reads log letter g) start (base - start)
    → k ≡ first_from (record_reads log letter g) from (base - from)
walks_first {log} {base} {n} {letter} {g} {from} {start} {k} x e =
    let test = record_reads log letter g in
    let f = first_at test start (base - start) k e in
    first_is test from (base - from) k (record {
      low = omega (arith, x.low, f.low);
      high = omega (arith, x.low, x.below, f.high);
      passes = λ h. f.passes (omega (arith, x.low, x.below));
      fails = λ j p q. elim (dec_lt j start) [ yes y ↦ x.skips j p y | no y ↦ f.fails j (omega arith) q ];
    })

-- bucket h of the letter and the states g before, and its tail t
module _ {log : List ℕ} {base n at : ℕ} {s : List ℕ} {h t : ℕ} (letter g : ℕ) (rings : Ringed log base n at s) (b : (h ≡ bucket_of n letter g) × (h < n)) (e : t ≡ link_at s at h) where
  pub empty_first : (from : ℕ) → from ≤ base → base ≤ n → n ≤ no_link → t ≡ no_link → base ≡ first_from (record_reads log letter g) from (base - from)
  empty_first from l fits short z = ⊎_elim
      (λ x. none_first log base n letter g h from l b.0 (λ j p q. x.none j (omega arith) q))
      (λ x. absurd (omega (arith, x.below)))
      (rings.tail h b.1)

  module _ (ne : t ≡ no_link → ⊥) where
    tail_is : Greatest (in_bucket log n h) base t
    tail_is = ⊎_elim (λ x. absurd (ne (e ∙ x.is))) (λ x. subst (Greatest (in_bucket log n h) base) (sym e) x) (rings.tail h b.1)

    -- the record behind the tail is the bucket's first
    pub walks_head : {w : ℕ} → w ≡ link_at s at (n + t) → Walks log base n letter g 0 w
    walks_head q =
        let k = link_at s at (n + t) in
        let own : record_bucket log n t ≡ h = in_true log n h t tail_is.passes in
        let a : Around (in_bucket log n h) base t k = ⊎_elim
        (λ (z : Ahead (in_bucket log n h) base t k). absurd (true≢false (sym z.passes ∙ tail_is.behind k z.later z.below)))
        (λ (z : Around (in_bucket log n h) base t k). z)
        (subst (λ (j : ℕ). Ahead (in_bucket log n j) base t k ⊎ Around (in_bucket log n j) base t k) own (rings.next t tail_is.below)) in
        rw q (record { low = omega arith; below = omega (arith, a.earlier, tail_is.below); skips = none_reads log n letter g h 0 k b.0 a.before; bucket = in_true log n h k a.passes ∙ b.0 })

    -- the first from lo on that the bucket knows
    pub walks_fresh : {lo w : ℕ} → Freshened log lo base n at s → lo ≤ t → w ≡ link_at s at (2 * n + h) → Walks log base n letter g lo w
    walks_fresh {lo} fresh low q =
        let k = first_from (in_bucket log n h) lo (base - lo) in
        let f = first_of (in_bucket log n h) lo (base - lo) in
        let near : k ≤ t = elim (dec_lt t k) [ yes y ↦ absurd (true≢false (sym tail_is.passes ∙ f.fails t low y)) | no y ↦ omega arith ] in
        let less : k < base = omega (arith, tail_is.below) in
        rw (q ∙ fresh h b.1 (omega arith) (omega (arith, tail_is.below)))
        (record { low = f.low; below = less; skips = none_reads log n letter g h lo k b.0 f.fails; bucket = in_true log n h k (f.passes (omega (arith, f.low))) ∙ b.0 })

    -- its tail is below lo
    pub stale_first : {lo : ℕ} → lo ≤ base → t < lo → base ≡ first_from (record_reads log letter g) lo (base - lo)
    stale_first {lo} l q = none_first log base n letter g h lo l b.0 (λ j y z. tail_is.behind j (omega arith) z)

-- no record at all
pub zero_first : (test : ℕ → Bool) (lo base : ℕ) → base ≡ 0 → lo ≤ base → base ≡ first_from test lo (base - lo)
zero_first test lo base e l = first_is test lo (base - lo) base (record { low = l; high = omega arith; passes = λ h. absurd (omega arith); fails = λ j p q. absurd (omega arith) })
