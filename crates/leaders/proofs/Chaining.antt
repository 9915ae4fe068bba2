-- Laws of the pass from the back: no chain without records, and a record more in front, if it is a leader that is asked for.
use mathlib.Core.Path.{◌≡◌, ap, sym, subst, ◌∙◌}
use mathlib.Core.Bool.{Bool, true, false, true≢false}
use mathlib.Core.Logic.{inl, inr}
use mathlib.Core.List.{List}
use Prim.Native.Nat.{ℕ, ◌+◌, ◌-◌, ◌*◌, ◌<◌, ◌≤◌}
use native.Mathlib.Decide.{ℕ_discrete}
use native.Mathlib.Omega.{arith}
use lib.ListN.{length}
use Rattle.model.specs.Records.{record_length, letter_at}
use Rattle.model.proofs.Tests.{by_test}
use Rattle.numbers.proofs.NumberBytes.{AllBytes, length_number, number_kept}
use Rattle.rings.specs.Rings.{no_link, link_place, link_at, RingRoom, with_link}
use Rattle.rings.proofs.Links.{link_other, link_same, outside_link}
use Rattle.scratch.specs.Regions.{rings_at, keys_at, leaders_at}
use Rattle.leaders.specs.Leaders.{leader_of, leader_among, FirstBelow, Chained, OutsideLeaders, with_leader, with_record}
use Rattle.leaders.proofs.Leaders.{leader_none, leader_other, among_asked, among_of, among_own}
use Rattle.leaders.proofs.Chains.{outside_firsts, outside_leaders_join, outside_nexts}

-- ---- the first number
none_below : (test : ℕ → Bool) (from base x : ℕ) → base ≤ from → base ≤ x → FirstBelow test from base x
none_below test from base x h l = record { before = λ j a b c. absurd (omega arith); low = λ a. absurd (omega arith); passes = λ a. absurd (omega arith) }

first_here : (test : ℕ → Bool) (base x : ℕ) → test x ≡ true → FirstBelow test x base x
first_here test base x t = record { before = λ j a b c. absurd (omega arith); low = λ a. omega arith; passes = λ a. t }

first_later : (test : ℕ → Bool) (from base x : ℕ) → test from ≡ false → FirstBelow test (from + 1) base x → FirstBelow test from base x
first_later test from base x f w = record {
  before = λ j a b c. elim (ℕ_discrete j from) [ yes e ↦ ap test e ∙ f | no ne ↦ w.before j (omega arith) b c ];
  low = λ a. omega (arith, w.low a);
  passes = w.passes;
}

-- ---- one record more
module _ (log : List ℕ) (letters count n r : ℕ) (s : List ℕ) (w : Chained log letters (r + 1) count n s) where
  -- record r is no leader that is asked for
  passed_over : leader_among log letters r ≡ false → Chained log letters r count n s
  passed_over f = record {
    first = λ letter l m. first_later (leader_of log letter) r count (link_at s leaders_at letter) (leader_none log letters letter r f m) (w.first letter l m);
    next = λ q h l i m. elim (ℕ_discrete q r) [
      | yes e ↦ absurd (true≢false (sym (among_of log letters q m i) ∙ ap (leader_among log letters) e ∙ f))
      | no ne ↦ w.next q (omega arith) l i m
    ];
  }

  -- record r is one: it goes in front of its letter's leaders
  module _ (fits : r < n) (short : n ≤ no_link) (room : keys_at n + 2 * n ≤ length s) (byte : letter_at log r < 256) (small : (k : ℕ) → k < 256 → link_at s leaders_at k ≤ no_link) where
    abbrev a : ℕ
    a = letter_at log r

    -- the letter's first leader so far
    abbrev x : ℕ
    x = link_at s leaders_at a

    abbrev s1 : List ℕ
    s1 = with_link s (keys_at n) r x

    abbrev s2 : List ℕ
    s2 = with_link s1 leaders_at a r

    size : length s1 ≡ length s
    size = length_number 2 s (link_place (keys_at n) r) x

    first_own : link_at s2 leaders_at a ≡ r
    first_own = link_same s1 leaders_at a r (omega (arith, size)) (omega arith)

    first_kept : (k : ℕ) → k < 256 → (k ≡ a → ⊥) → link_at s2 leaders_at k ≡ link_at s leaders_at k
    first_kept k l ne = link_other s1 leaders_at a r k ne ∙ number_kept 2 2 s (link_place (keys_at n) r) x (link_place leaders_at k) (inl (omega arith))

    next_own : link_at s2 (keys_at n) r ≡ x
    next_own = number_kept 2 2 s1 (link_place leaders_at a) r (link_place (keys_at n) r) (inr (omega arith)) ∙ link_same s (keys_at n) r x (omega arith) (small a byte)

    next_kept : (k : ℕ) → (k ≡ r → ⊥) → link_at s2 (keys_at n) k ≡ link_at s (keys_at n) k
    next_kept k ne = number_kept 2 2 s1 (link_place leaders_at a) r (link_place (keys_at n) k) (inr (omega arith)) ∙ link_other s (keys_at n) r x k ne

    outside : OutsideLeaders n s s2
    outside = outside_leaders_join (outside_nexts (outside_link (2 * n) (keys_at n) s r x (omega arith))) (outside_firsts n (outside_link (2 * 256) leaders_at s1 a r (omega arith)))

    still_small : (k : ℕ) → k < 256 → link_at s2 leaders_at k ≤ no_link
    still_small k l = elim (ℕ_discrete k a) [
      | yes e ↦ subst (λ (j : ℕ). link_at s2 leaders_at j ≤ no_link) (sym e) (omega (arith, first_own))
      | no ne ↦ rw (first_kept k l ne) (small k l)
    ]

    in_front : leader_among log letters r ≡ true → Chained log letters r count n s2
    in_front t = record {
      first = λ letter l m. elim (ℕ_discrete letter a) [
        | yes e ↦ subst (λ (k : ℕ). FirstBelow (leader_of log k) r count (link_at s2 leaders_at k)) (sym e) (rw first_own (first_here (leader_of log a) count r (among_own log letters r t)))
        | no ne ↦ rw (first_kept letter l ne) (first_later (leader_of log letter) r count (link_at s leaders_at letter) (leader_other log letter r ne) (w.first letter l m))
      ];
      next = λ q h l i m. elim (ℕ_discrete q r) [
        | yes e ↦ subst (λ (k : ℕ). FirstBelow (leader_of log (letter_at log k)) (k + 1) count (link_at s2 (keys_at n) k)) (sym e) (rw next_own (w.first a byte (among_asked log letters r t)))
        | no ne ↦ rw (next_kept q ne) (w.next q (omega arith) l i m)
      ];
    }

-- ---- the pass
-- the leaders from r on are chained in t, and every first link is a link
pub record Chaining (log : List ℕ) (letters count n : ℕ) (s t : List ℕ) (r : ℕ) : Type 0 where
  pub within : r ≤ count
  pub small : (k : ℕ) → k < 256 → link_at t leaders_at k ≤ no_link
  pub outside : OutsideLeaders n s t
  pub chained : Chained log letters r count n t

chaining_step : {log : List ℕ} {letters count n : ℕ} {s t : List ℕ} (r : ℕ) → count ≤ n → n ≤ no_link → keys_at n + 2 * n ≤ length s → letter_at log r < 256 → Chaining log letters count n s t (r + 1)
    → Chaining log letters count n s (with_record log letters n t r) r
unfolding with_record with_leader
chaining_step {log} {letters} {count} {n} {s} {t} r fits short room byte w =
    let less : r < n = omega (arith, w.within) in
    let long : keys_at n + 2 * n ≤ length t = omega (arith, w.outside.size) in
    by_test (leader_among log letters r)
    (λ y. rw y (record {
      within = omega (arith, w.within);
      small = still_small log letters count n r t w.chained less short long byte w.small;
      outside = outside_leaders_join w.outside (outside log letters count n r t w.chained less short long byte w.small);
      chained = in_front log letters count n r t w.chained less short long byte w.small y;
    }))
    (λ f. rw f (record { within = omega (arith, w.within); small = w.small; outside = w.outside; chained = passed_over log letters count n r t w.chained f }))

pub chaining_turn : {log : List ℕ} {letters count n : ℕ} {s t : List ℕ} {r : ℕ} → RingRoom log count n rings_at s → keys_at n + 2 * n ≤ length s → AllBytes log → 0 < r
    → Chaining log letters count n s t r → Chaining log letters count n s (with_record log letters n t (r - 1)) (r - 1)
unfolding letter_at
chaining_turn {log} {letters} {count} {n} {s} {t} {r} rings room bytes l w =
    let e : r ≡ r - 1 + 1 = omega arith in
    chaining_step (r - 1) rings.fits rings.short room (bytes ((r - 1) * record_length)) (subst (Chaining log letters count n s t) e w)
