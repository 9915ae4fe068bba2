-- Laws of leaders: a leader is the first record of the log with its letter and states before, and the tests that find it.
use mathlib.Core.Path.{◌≡◌, refl, ap, sym, subst, ◌∙◌}
use mathlib.Core.Bool.{Bool, true, false, ◌&&◌, true≢false}
use mathlib.Core.List.{List}
use Prim.Native.Nat.{ℕ, ◌+◌, ◌-◌, ◌/◌, ◌%◌, ◌^◌, ◌<◌}
use native.Mathlib.Omega.{arith}
use lib.Dec.{eqb, ltb}
use borrow.Author.Tests.{eq-eqb, eqb-true, ltb-true, ne_eqb}
use Rattle.model.specs.Records.{letter_at}
use Rattle.model.proofs.Tests.{and_both, and_left, and_right, by_test, same_test}
use Rattle.states.specs.StateSets.{first_from}
use Rattle.states.proofs.StateSets.{first_at, first_is}
use Rattle.packs.specs.Packs.{packed_before}
use Rattle.wordsets.specs.WordSets.{has_bit}
use Rattle.rings.specs.Rings.{record_reads}
use Rattle.rings.proofs.Links.{reads_parts}
use Rattle.leaders.specs.Leaders.{is_leader, leader_of, among, leader_among}

-- ---- the first record
-- record r reads what it reads
reads_own : (log : List ℕ) (r : ℕ) → record_reads log (letter_at log r) (packed_before log r) r ≡ true
unfolding record_reads
reads_own log r = and_both _ _ (eq-eqb (letter_at log r) (letter_at log r) refl) (eq-eqb (packed_before log r) (packed_before log r) refl)

module _ (log : List ℕ) (r : ℕ) where
  abbrev own : ℕ → Bool
  own = record_reads log (letter_at log r) (packed_before log r)

  first_of_leader : (count : ℕ) → is_leader log r ≡ true → r < count → r ≡ first_from own 0 count
  unfolding is_leader
  first_of_leader count t l =
      let f = first_at own 0 r r (sym (eqb-true (first_from own 0 r) r t)) in
      first_is own 0 count r (record { low = omega arith; high = omega arith; passes = λ h. reads_own log r; fails = f.fails })

  leader_of_first : (count : ℕ) → r ≡ first_from own 0 count → is_leader log r ≡ true
  unfolding is_leader
  leader_of_first count e =
      let f = first_at own 0 count r e in
      eq-eqb (first_from own 0 r) r (sym (first_is own 0 r r (record { low = omega arith; high = omega arith; passes = λ h. absurd (omega arith); fails = f.fails })))

  -- the first among all records is asked for
  first_test : (count : ℕ) → r < count → eqb (first_from own 0 count) r ≡ is_leader log r
  first_test count l = same_test (eqb (first_from own 0 count) r) (is_leader log r)
      (λ t. leader_of_first count (sym (eqb-true (first_from own 0 count) r t)))
      (λ t. eq-eqb (first_from own 0 count) r (sym (first_of_leader count t l)))

  -- a record before r is like it
  earlier_like : (j : ℕ) → j < r → own j ≡ true → is_leader log r ≡ false
  earlier_like j l y = by_test (is_leader log r)
      (λ t. absurd (true≢false (sym y ∙ (first_at own 0 (r + 1) r (first_of_leader (r + 1) t (omega arith))).fails j (omega arith) l)))
      (λ f. f)

pub leader_parts : (log : List ℕ) (letter r : ℕ) → leader_of log letter r ≡ true → (letter_at log r ≡ letter) × (is_leader log r ≡ true)
unfolding leader_of
leader_parts log letter r t = (
  eqb-true (letter_at log r) letter (and_left (eqb (letter_at log r) letter) (is_leader log r) t),
  and_right (eqb (letter_at log r) letter) (is_leader log r) t,
)

leader_of_lem : (log : List ℕ) (letter r : ℕ) → letter_at log r ≡ letter → is_leader log r ≡ true → leader_of log letter r ≡ true
unfolding leader_of
leader_of_lem log letter r e t = and_both _ _ (eq-eqb (letter_at log r) letter e) t

-- the first record with a letter and states before is a leader of the letter
pub first_leads : {x count : ℕ} (log : List ℕ) (letter g : ℕ) → x ≡ first_from (record_reads log letter g) 0 count → x < count → leader_of log letter x ≡ true
first_leads {x} {count} log letter g e l =
    let parts = reads_parts log letter g x ((first_at (record_reads log letter g) 0 count x e).passes (omega arith)) in
    leader_of_lem log letter x parts.0 (leader_of_first log x count (rw (parts.0, parts.1) e))

-- and a leader of the letter is the first one with it and its own states before
pub leader_first : (log : List ℕ) (letter r count : ℕ) → leader_of log letter r ≡ true → r < count
    → (r ≡ first_from (record_reads log letter (packed_before log r)) 0 count) × (record_reads log letter (packed_before log r) r ≡ true)
leader_first log letter r count t l =
    let parts = leader_parts log letter r t in
    subst (λ (a : ℕ). (r ≡ first_from (record_reads log a (packed_before log r)) 0 count) × (record_reads log a (packed_before log r) r ≡ true)) parts.0
    (first_of_leader log r count parts.1 l, reads_own log r)

-- ---- leaders of letters that are asked for
among_parts : (log : List ℕ) (letters r : ℕ) → leader_among log letters r ≡ true → (among letters (letter_at log r) ≡ true) × (is_leader log r ≡ true)
unfolding leader_among
among_parts log letters r t = (
  and_left (among letters (letter_at log r)) (is_leader log r) t,
  and_right (among letters (letter_at log r)) (is_leader log r) t,
)

pub among_of : (log : List ℕ) (letters r : ℕ) → among letters (letter_at log r) ≡ true → is_leader log r ≡ true → leader_among log letters r ≡ true
unfolding leader_among
among_of log letters r a t = and_both _ _ a t

-- it is a leader of its letter
pub among_own : (log : List ℕ) (letters r : ℕ) → leader_among log letters r ≡ true → leader_of log (letter_at log r) r ≡ true
among_own log letters r t = leader_of_lem log (letter_at log r) r refl (among_parts log letters r t).1

pub among_asked : (log : List ℕ) (letters r : ℕ) → leader_among log letters r ≡ true → among letters (letter_at log r) ≡ true
among_asked log letters r t = (among_parts log letters r t).0

-- r is no leader of another letter
pub leader_other : (log : List ℕ) (letter r : ℕ) → (letter ≡ letter_at log r → ⊥) → leader_of log letter r ≡ false
leader_other log letter r ne = by_test (leader_of log letter r) (λ t. absurd (ne (sym (leader_parts log letter r t).0))) (λ f. f)

-- else it is no leader of a letter that is asked for
pub leader_none : (log : List ℕ) (letters letter r : ℕ) → leader_among log letters r ≡ false → among letters letter ≡ true → leader_of log letter r ≡ false
leader_none log letters letter r f m = by_test (leader_of log letter r)
    (λ t.
    let parts = leader_parts log letter r t in
    absurd (true≢false (sym (among_of log letters r (subst (λ (a : ℕ). among letters a ≡ true) (sym parts.0) m) parts.1) ∙ f)))
    (λ e. e)

-- ---- the tests, for record r with the letter a and the states g before
module _ (log : List ℕ) (letters r : ℕ) {a : ℕ} (is : a ≡ letter_at log r) where
  -- its letter's bit is not asked for
  pub leader_unasked : (letters / 2 ^ (a % 32) % 2 ≡ 1 → ⊥) → false ≡ leader_among log letters r
  unfolding leader_among has_bit
  leader_unasked ne = rw (← is, ne_eqb (letters / 2 ^ (a % 32) % 2) 1 ne) refl

  module _ (asked : letters / 2 ^ (a % 32) % 2 ≡ 1) {g : ℕ} (states : g ≡ packed_before log r) where
    leader_asked : leader_among log letters r ≡ is_leader log r
    unfolding leader_among has_bit
    leader_asked = rw (← is, asked) refl

    -- the record before it is like it
    pub leader_alike : {b : Bool} → b ≡ ltb 0 r && record_reads log a g (r - 1) → b ≡ true → false ≡ leader_among log letters r
    leader_alike e t =
        let alike = record_reads log (letter_at log r) (packed_before log r) (r - 1) in
        let both : ltb 0 r && alike ≡ true = rw (← is, ← states) (sym e ∙ t) in
        let less : 0 < r = ltb-true 0 r (and_left (ltb 0 r) alike both) in
        sym (leader_asked ∙ earlier_like log r (r - 1) (omega arith) (and_right (ltb 0 r) alike both))

    -- it is, or is not, the first among all records
    pub leader_test : {k count : ℕ} → r < count → k ≡ first_from (record_reads log a g) 0 count → eqb k r ≡ leader_among log letters r
    leader_test {k} {count} l e =
        let e' : k ≡ first_from (record_reads log (letter_at log r) (packed_before log r)) 0 count = rw (← is, ← states) e in
        ap (λ (x : ℕ). eqb x r) e' ∙ first_test log r count l ∙ sym leader_asked
