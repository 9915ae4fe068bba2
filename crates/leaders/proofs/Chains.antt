-- What keeps rings and chains: the same links, in any scratch.
use mathlib.Core.Path.{◌≡◌, refl, ◌∙◌}
use mathlib.Core.List.{List}
use Prim.Native.Nat.{ℕ, ◌+◌, ◌*◌, ◌<◌, ◌≤◌}
use native.Mathlib.Omega.{arith}
use lib.ListN.{get_or}
use Rattle.numbers.proofs.NumberBytes.{number_same}
use Rattle.rings.specs.Rings.{link_place, link_at, OutsideSame}
use Rattle.rings.proofs.Keeping.{ringed_scratch}
use Rattle.scratch.specs.Regions.{rings_at, keys_at, leaders_at, leaders_end}
use Rattle.leaders.specs.Leaders.{Linked, Chained, OutsideLeaders}

-- ---- bytes outside the leaders' links
pub outside_leaders_none : (n : ℕ) (s : List ℕ) → OutsideLeaders n s s
outside_leaders_none n s = record { size = refl; before = λ i h. refl; between = λ i h l. refl; behind = λ i h. refl }

pub outside_leaders_join : {n : ℕ} {s t u : List ℕ} → OutsideLeaders n s t → OutsideLeaders n t u → OutsideLeaders n s u
outside_leaders_join p q = record {
  size = q.size ∙ p.size;
  before = λ i h. q.before i h ∙ p.before i h;
  between = λ i h l. q.between i h l ∙ p.between i h l;
  behind = λ i h. q.behind i h ∙ p.behind i h;
}

-- first links have changed; next links have
pub outside_firsts : {s t : List ℕ} (n : ℕ) → OutsideSame (2 * 256) leaders_at s t → OutsideLeaders n s t
outside_firsts n p = record { size = p.size; before = p.before; between = λ i h l. p.behind i (omega arith); behind = λ i h. p.behind i (omega arith) }

pub outside_nexts : {n : ℕ} {s t : List ℕ} → OutsideSame (2 * n) (keys_at n) s t → OutsideLeaders n s t
outside_nexts p = record { size = p.size; before = λ i h. p.before i (omega arith); between = λ i h l. p.before i l; behind = p.behind }

-- ---- what stays
-- the rings lie between first and next links
pub linked_outside : {log : List ℕ} {count n : ℕ} {s t : List ℕ} → OutsideLeaders n s t → Linked log count n s → Linked log count n t
linked_outside {log} {count} {n} {s} {t} p l = record {
  room = record { fits = l.room.fits; short = l.room.short; records = l.room.records; room = omega (arith, l.room.room, p.size) };
  ringed = ringed_scratch log count n rings_at s t l.room.fits (λ i a b. p.between i (omega arith) b) l.ringed;
}

-- chains of the same links
pub chained_same : {log : List ℕ} {letters from count n : ℕ} {s t : List ℕ} → count ≤ n → ((i : ℕ) → leaders_at ≤ i → i < leaders_end → get_or t i 0 ≡ get_or s i 0)
    → ((i : ℕ) → keys_at n ≤ i → i < keys_at n + 2 * n → get_or t i 0 ≡ get_or s i 0) → Chained log letters from count n s → Chained log letters from count n t
chained_same {n = n} {s = s} {t = t} fits firsts nexts w = record {
  first = λ letter l m. rw (first_kept letter l) (w.first letter l m);
  next = λ r h l i m. rw (next_kept r (omega arith)) (w.next r h l i m);
}
  where
    first_kept : (k : ℕ) → k < 256 → link_at t leaders_at k ≡ link_at s leaders_at k
    first_kept k l = number_same 2 s t (link_place leaders_at k) (λ m p q. firsts m (omega arith) (omega arith))

    next_kept : (k : ℕ) → k < n → link_at t (keys_at n) k ≡ link_at s (keys_at n) k
    next_kept k l = number_same 2 s t (link_place (keys_at n) k) (λ m p q. nexts m (omega arith) (omega arith))
