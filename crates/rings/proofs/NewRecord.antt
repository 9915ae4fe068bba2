-- The rings with one record more, alone in its bucket or behind the tail.
use mathlib.Core.Path.{◌≡◌, ap, sym, subst, ◌∙◌}
use mathlib.Core.Bool.{Bool, true, false, true≢false}
use mathlib.Core.Logic.{◌⊎◌, inl, inr, ⊎_elim}
use mathlib.Core.List.{List}
use Prim.Native.Nat.{ℕ, suc, ◌+◌, ◌-◌, ◌*◌, ◌<◌, ◌≤◌}
use native.Mathlib.Decide.{ℕ_discrete, dec_lt}
use native.Mathlib.Omega.{arith}
use lib.ListN.{length}
use Rattle.numbers.proofs.NumberBytes.{length_number}
use Rattle.states.specs.StateSets.{first_from}
use Rattle.states.proofs.StateSets.{first_of, first_is}
use Rattle.rings.specs.Rings.{record_bucket, in_bucket, no_link, link_place, link_at, NoneIn, NoTail, Greatest, Ahead, Around, Ringed, Freshened, OutsideSame, with_link, started, lengthened}
use Rattle.rings.proofs.Links.{in_other, in_own, in_true, link_other, link_same, outside_join, outside_link}

-- ---- none passes
none_more : (test : ℕ → Bool) (from to : ℕ) → test to ≡ false → NoneIn test from to → NoneIn test from (suc to)
none_more test from to f w j a b = elim (ℕ_discrete j to) [ yes e ↦ ap test e ∙ f | no ne ↦ w j a (omega arith) ]

-- one more number that does not pass changes nothing
pub tail_more : (test : ℕ → Bool) (base t : ℕ) → test base ≡ false → NoTail test base t ⊎ Greatest test base t → NoTail test (suc base) t ⊎ Greatest test (suc base) t
tail_more test base t f (inl w) = inl (record { is = w.is; none = none_more test 0 base f w.none })
tail_more test base t f (inr w) = inr (record { below = omega (arith, w.below); passes = w.passes; behind = none_more test (suc t) base f w.behind })

next_more : (test : ℕ → Bool) (base r w : ℕ) → (NoneIn test (suc r) base → test base ≡ false) → Ahead test base r w ⊎ Around test base r w → Ahead test (suc base) r w ⊎ Around test (suc base) r w
next_more test base r w f (inl x) = inl (record { later = x.later; below = omega (arith, x.below); passes = x.passes; between = x.between })
next_more test base r w f (inr x) = inr (record { earlier = x.earlier; passes = x.passes; behind = none_more test (suc r) base (f x.behind) x.behind; before = x.before })

-- the first from lo on stays, once there is one
first_more : (test : ℕ → Bool) (lo base t : ℕ) → lo ≤ t → t < base → test t ≡ true → first_from test lo (base - lo) ≡ first_from test lo (suc base - lo)
first_more test lo base t a b p =
    let f = first_of test lo (base - lo) in
    let r = first_from test lo (base - lo) in
    let near : r ≤ t = elim (dec_lt t r) [ yes h ↦ absurd (true≢false (sym p ∙ f.fails t a h)) | no h ↦ omega arith ] in
    first_is test lo (suc base - lo) r (record { low = f.low; high = omega arith; passes = λ h. f.passes (omega arith); fails = f.fails })

first_new : (test : ℕ → Bool) (lo r : ℕ) → lo ≤ r → test r ≡ true → NoneIn test lo r → r ≡ first_from test lo (suc r - lo)
first_new test lo r a p w = first_is test lo (suc r - lo) r (record { low = a; high = omega arith; passes = λ h. p; fails = w })

-- ---- one record more
-- what the links are after a record r: bucket h was empty
pub record Alone (n at h r : ℕ) (s u : List ℕ) : Type 0 where
  pub tail : link_at u at h ≡ r
  pub own : link_at u at (n + r) ≡ r
  pub first : link_at u at (2 * n + h) ≡ r
  pub kept : (k : ℕ) → (k ≡ h → ⊥) → (k ≡ n + r → ⊥) → (k ≡ 2 * n + h → ⊥) → link_at u at k ≡ link_at s at k
  pub outside : OutsideSame (6 * n) at s u

-- its tail was t
pub record Behind (n at h t r : ℕ) (s u : List ℕ) : Type 0 where
  pub tail : link_at u at h ≡ r
  pub own : link_at u at (n + r) ≡ link_at s at (n + t)
  pub last : link_at u at (n + t) ≡ r
  pub kept : (k : ℕ) → (k ≡ h → ⊥) → (k ≡ n + r → ⊥) → (k ≡ n + t → ⊥) → link_at u at k ≡ link_at s at k
  pub outside : OutsideSame (6 * n) at s u

module _ (n at : ℕ) (s : List ℕ) (short : n ≤ no_link) (room : at + 6 * n ≤ length s) (h : ℕ) (lh : h < n) (r : ℕ) (lr : r < n) where
  pub alone : Alone n at h r s (started n at s h r)
  unfolding started
  alone =
      let s1 = with_link s at (n + r) r in
      let s2 = with_link s1 at (2 * n + h) r in
      let l1 : length s1 ≡ length s = length_number 2 s (link_place at (n + r)) r in
      let l2 : length s2 ≡ length s1 = length_number 2 s1 (link_place at (2 * n + h)) r in
      record {
        tail = link_same s2 at h r (omega arith) (omega arith);
        own = link_other s2 at h r (n + r) (λ e. omega arith) ∙ link_other s1 at (2 * n + h) r (n + r) (λ e. omega arith) ∙ link_same s at (n + r) r (omega arith) (omega arith);
        first = link_other s2 at h r (2 * n + h) (λ e. omega arith) ∙ link_same s1 at (2 * n + h) r (omega arith) (omega arith);
        kept = λ k a b c. link_other s2 at h r k a ∙ link_other s1 at (2 * n + h) r k c ∙ link_other s at (n + r) r k b;
        outside = outside_join (outside_link (6 * n) at s (n + r) r (omega arith)) (outside_join (outside_link (6 * n) at s1 (2 * n + h) r (omega arith)) (outside_link (6 * n) at s2 h r (omega arith)));
      }

  module _ (t : ℕ) (lt : t < r) (small : link_at s at (n + t) ≤ no_link) where
    pub behind : Behind n at h t r s (lengthened n at s h t r)
    unfolding lengthened
    behind =
        let x = link_at s at (n + t) in
        let s1 = with_link s at (n + r) x in
        let s2 = with_link s1 at (n + t) r in
        let l1 : length s1 ≡ length s = length_number 2 s (link_place at (n + r)) x in
        let l2 : length s2 ≡ length s1 = length_number 2 s1 (link_place at (n + t)) r in
        record {
          tail = link_same s2 at h r (omega arith) (omega arith);
          own = link_other s2 at h r (n + r) (λ e. omega arith) ∙ link_other s1 at (n + t) r (n + r) (λ e. omega arith) ∙ link_same s at (n + r) x (omega arith) small;
          last = link_other s2 at h r (n + t) (λ e. omega arith) ∙ link_same s1 at (n + t) r (omega arith) (omega arith);
          kept = λ k a b c. link_other s2 at h r k a ∙ link_other s1 at (n + t) r k c ∙ link_other s at (n + r) x k b;
          outside = outside_join (outside_link (6 * n) at s (n + r) x (omega arith)) (outside_join (outside_link (6 * n) at s1 (n + t) r (omega arith)) (outside_link (6 * n) at s2 h r (omega arith)));
        }

-- the rings with record r, which falls into bucket h
module _ (log : List ℕ) (n at : ℕ) (s u : List ℕ) (r h : ℕ) (lr : r < n) (lh : h < n) (short : n ≤ no_link) (own : record_bucket log n r ≡ h) (w : Ringed log r n at s) where
  abbrev test : ℕ → Bool
  test = in_bucket log n h

  own_passes : test r ≡ true
  own_passes = subst (λ (k : ℕ). in_bucket log n k r ≡ true) own (in_own log n r)

  others : (k : ℕ) → (k ≡ h → ⊥) → in_bucket log n k r ≡ false
  others k ne = in_other log n k r (λ e. ne (e ∙ own))

  new_tail : (x : ℕ) → x ≡ r → Greatest test (suc r) x
  new_tail x e = rw e (record { below = omega arith; passes = own_passes; behind = λ j a b. absurd (omega arith) })

  -- a bucket's tail is a record below r, or none
  tail_low : (k : ℕ) → k < n → link_at s at k < suc r → (link_at s at k < r) × (in_bucket log n k (link_at s at k) ≡ true)
  tail_low k l q = ⊎_elim (λ a. absurd (omega (arith, a.is))) (λ a. (a.below, a.passes)) (w.tail k l)

  -- only bucket h has another first record from lo on
  fresh_with : (lo : ℕ) → ((k : ℕ) → k < n → (k ≡ h → ⊥) → (link_at u at k ≡ link_at s at k) × (link_at u at (2 * n + k) ≡ link_at s at (2 * n + k)))
      → link_at u at (2 * n + h) ≡ first_from test lo (suc r - lo) → Freshened log lo r n at s → Freshened log lo (suc r) n at u
  fresh_with lo kept is f k l p q = elim (ℕ_discrete k h) [
    | yes e ↦ subst (λ (j : ℕ). link_at u at (2 * n + j) ≡ first_from (in_bucket log n j) lo (suc r - lo)) (sym e) is
    | no ne ↦
        let same = kept k l ne in
        let b = tail_low k l (omega (arith, same.0)) in
        same.1 ∙ f k l (omega (arith, same.0)) b.0 ∙ first_more (in_bucket log n k) lo r (link_at s at k) (omega (arith, same.0)) b.0 b.1
  ]

  -- ---- the bucket was empty
  module _ (none : NoneIn test 0 r) (a : Alone n at h r s u) where
    pub ring_started : Ringed log (suc r) n at u
    ring_started = record {
      tail = λ k l. elim (ℕ_discrete k h) [
        | yes e ↦ inr (subst (λ (j : ℕ). Greatest (in_bucket log n j) (suc r) (link_at u at j)) (sym e) (new_tail (link_at u at h) a.tail))
        | no ne ↦ rw (a.kept k ne (λ e. omega arith) (λ e. omega arith)) (tail_more (in_bucket log n k) r (link_at s at k) (others k ne) (w.tail k l))
      ];
      next = λ q l. elim (ℕ_discrete q r) [
        | yes e ↦ inr (subst (λ (j : ℕ). Around (in_bucket log n (record_bucket log n j)) (suc r) j (link_at u at (n + j))) (sym e) own_next)
        | no ne ↦ rw (a.kept (n + q) (λ e. omega arith) (λ e. ne (omega arith)) (λ e. omega arith))
            (next_more (in_bucket log n (record_bucket log n q)) r q (link_at s at (n + q)) (λ b. others (record_bucket log n q) (λ e. other q (omega arith) e)) (w.next q (omega arith)))
      ];
    }
      where
        other : (q : ℕ) → q < r → record_bucket log n q ≡ h → ⊥
        other q l e = true≢false (sym (subst (λ (k : ℕ). in_bucket log n k q ≡ true) e (in_own log n q)) ∙ none q (omega arith) l)

        own_next : Around (in_bucket log n (record_bucket log n r)) (suc r) r (link_at u at (n + r))
        own_next = rw (own, a.own) (record { earlier = omega arith; passes = own_passes; behind = λ j p q. absurd (omega arith); before = none })

    pub fresh_started : (lo : ℕ) → lo ≤ r → Freshened log lo r n at s → Freshened log lo (suc r) n at u
    fresh_started lo low = fresh_with lo
        (λ k l ne. (a.kept k ne (λ e. omega arith) (λ e. omega arith), a.kept (2 * n + k) (λ e. omega arith) (λ e. omega arith) (λ e. ne (omega arith))))
        (a.first ∙ first_new test lo r low own_passes (λ j x y. none j (omega arith) y))

  -- ---- the bucket's tail was t
  module _ (t : ℕ) (g : Greatest test r t) (a : Behind n at h t r s u) where
    tail_bucket : record_bucket log n t ≡ h
    tail_bucket = in_true log n h t g.passes

    -- behind the greatest comes the least
    least : Around test r t (link_at s at (n + t))
    least = ⊎_elim
        (λ (x : Ahead test r t (link_at s at (n + t))). absurd (true≢false (sym x.passes ∙ g.behind (link_at s at (n + t)) x.later x.below)))
        (λ (x : Around test r t (link_at s at (n + t))). x)
        (subst (λ (k : ℕ). Ahead (in_bucket log n k) r t (link_at s at (n + t)) ⊎ Around (in_bucket log n k) r t (link_at s at (n + t))) tail_bucket (w.next t g.below))

    pub ring_lengthened : Ringed log (suc r) n at u
    ring_lengthened = record {
      tail = λ k l. elim (ℕ_discrete k h) [
        | yes e ↦ inr (subst (λ (j : ℕ). Greatest (in_bucket log n j) (suc r) (link_at u at j)) (sym e) (new_tail (link_at u at h) a.tail))
        | no ne ↦ rw (a.kept k ne (λ e. omega arith) (λ e. omega arith)) (tail_more (in_bucket log n k) r (link_at s at k) (others k ne) (w.tail k l))
      ];
      next = λ q l. elim (ℕ_discrete q r) [
        | yes e ↦ inr (subst (λ (j : ℕ). Around (in_bucket log n (record_bucket log n j)) (suc r) j (link_at u at (n + j))) (sym e) own_next)
        | no ne ↦ elim (ℕ_discrete q t) [
          | yes e ↦ inl (subst (λ (j : ℕ). Ahead (in_bucket log n (record_bucket log n j)) (suc r) j (link_at u at (n + j))) (sym e) last_next)
          | no nt ↦ rw (a.kept (n + q) (λ e. omega arith) (λ e. ne (omega arith)) (λ e. nt (omega arith)))
              (next_more (in_bucket log n (record_bucket log n q)) r q (link_at s at (n + q)) (λ b. others (record_bucket log n q) (λ e. other q (omega arith) nt e b)) (w.next q (omega arith)))
        ]
      ];
    }
      where
        own_next : Around (in_bucket log n (record_bucket log n r)) (suc r) r (link_at u at (n + r))
        own_next = rw (own, a.own) (record { earlier = omega (arith, least.earlier, g.below); passes = least.passes; behind = λ j p q. absurd (omega arith); before = least.before })

        last_next : Ahead (in_bucket log n (record_bucket log n t)) (suc r) t (link_at u at (n + t))
        last_next = rw (tail_bucket, a.last) (record { later = g.below; below = omega arith; passes = own_passes; between = g.behind })

        -- a record of the bucket below its tail has a link ahead
        other : (q : ℕ) → q < r → (q ≡ t → ⊥) → record_bucket log n q ≡ h → NoneIn (in_bucket log n (record_bucket log n q)) (suc q) r → ⊥
        other q l nt e none = elim (dec_lt q t) [
          | yes x ↦ true≢false (sym g.passes ∙ subst (λ (k : ℕ). NoneIn (in_bucket log n k) (suc q) r) e none t x g.below)
          | no x ↦ true≢false (sym (subst (λ (k : ℕ). in_bucket log n k q ≡ true) e (in_own log n q)) ∙ g.behind q (omega arith) l)
        ]

    fresh_tail : (lo : ℕ) → link_at s at (2 * n + h) ≡ first_from test lo (suc r - lo) → Freshened log lo r n at s → Freshened log lo (suc r) n at u
    fresh_tail lo is = fresh_with lo (λ k l ne. (a.kept k ne (λ e. omega arith) (λ e. omega (arith, g.below)), first_kept k l)) (first_kept h lh ∙ is)
      where
        first_kept : (k : ℕ) → k < n → link_at u at (2 * n + k) ≡ link_at s at (2 * n + k)
        first_kept k l = a.kept (2 * n + k) (λ e. omega arith) (λ e. omega arith) (λ e. omega (arith, g.below))

    -- the tail is one from lo on
    pub fresh_lengthened : (lo : ℕ) → link_at s at h ≡ t → lo ≤ t → Freshened log lo r n at s → Freshened log lo (suc r) n at u
    fresh_lengthened lo is low f = fresh_tail lo (f h lh (omega arith) (omega (arith, g.below)) ∙ first_more test lo r t low g.below g.passes) f

    -- the tail is below lo: record r is the first, which was put down before
    pub fresh_begun : (lo : ℕ) → t < lo → lo ≤ r → link_at s at (2 * n + h) ≡ r → Freshened log lo r n at s → Freshened log lo (suc r) n at u
    fresh_begun lo low fits put = fresh_tail lo (put ∙ first_new test lo r fits own_passes (λ j x y. g.behind j (omega arith) y))
