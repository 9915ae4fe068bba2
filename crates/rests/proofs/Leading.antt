-- Laws of the search for the lowest record that reads a letter and leads into a set.
use mathlib.Core.Path.{◌≡◌, ap, sym, ◌∙◌}
use mathlib.Core.Bool.{Bool, true, false, true≢false}
use mathlib.Core.List.{List}
use Prim.Native.Nat.{ℕ, ◌+◌, ◌-◌, ◌<◌, ◌≤◌}
use native.Mathlib.Decide.{dec_lt}
use native.Mathlib.Omega.{arith}
use borrow.Author.Tests.{lt-ltb, ltb-true}
use Rattle.model.specs.declared.Group.{Group}
use Rattle.model.specs.Groups.{processes_of, restrict, merge}
use Rattle.model.specs.Records.{after_at}
use Rattle.states.specs.StateNumbers.{state_number}
use Rattle.states.specs.StateSets.{member, first_from}
use Rattle.states.proofs.StateSets.{Fails, fails_join, fails_one, first_is, first_at, first_of}
use Rattle.packs.specs.Packs.{packed}
use Rattle.rings.specs.Rings.{record_reads}
use Rattle.rests.specs.declared.Letter.{Letter}
use Rattle.rests.specs.Rests.{leads, first_lead, some_lead}

module _ (log members : List ℕ) (a : Letter) (g : Group) where
  pub lead_not : (r : ℕ) → record_reads log a.number (packed (restrict (processes_of a.bits) g)) r ≡ false → leads log members a g r ≡ false
  unfolding leads
  lead_not r f = rw f

  -- of a record that reads the letter
  pub lead_reads : (r : ℕ) → record_reads log a.number (packed (restrict (processes_of a.bits) g)) r ≡ true
      → leads log members a g r ≡ member members (state_number (merge (processes_of a.bits) (after_at log r) g))
  unfolding leads
  lead_reads r t = rw t

  fails_lead : (before n m : ℕ) → before ≡ packed (restrict (processes_of a.bits) g) → Fails (record_reads log a.number before) n m → Fails (leads log members a g) n m
  fails_lead before n m e f j p q = lead_not j (sym (ap (λ (h : ℕ). record_reads log a.number h j) e) ∙ f j p q)

  -- The loop: no record before r leads into the set, and r reads the letter, with the packed states before, or is count.
  pub record Seeking (before count r : ℕ) : Type 0 where
    pub states : before ≡ packed (restrict (processes_of a.bits) g)
    pub high : r ≤ count
    pub reading : r < count → record_reads log a.number before r ≡ true
    pub fails : Fails (leads log members a g) 0 r

module _ {log members : List ℕ} {a : Letter} {g : Group} {before count r : ℕ} where
  pub seeking_start : before ≡ packed (restrict (processes_of a.bits) g) → r ≡ first_from (record_reads log a.number before) 0 count → Seeking log members a g before count r
  seeking_start is e =
      let f = first_at (record_reads log a.number before) 0 count r e in
      record { states = is; high = omega (arith, f.high); reading = λ h. f.passes (omega arith); fails = fails_lead log members a g before 0 r is f.fails }

  -- b tells whether record r, which reads the letter, leads into the set
  module _ (s : Seeking log members a g before count r) where
    seeking_leads : {b : Bool} → r < count → b ≡ member members (state_number (merge (processes_of a.bits) (after_at log r) g)) → leads log members a g r ≡ b
    seeking_leads h e = lead_reads log members a g r (sym (ap (λ (d : ℕ). record_reads log a.number d r) s.states) ∙ s.reading h) ∙ sym e

    pub seeking_turn : {q : ℕ} {b : Bool} → r < count → b ≡ member members (state_number (merge (processes_of a.bits) (after_at log r) g)) → b ≡ false
        → q ≡ first_from (record_reads log a.number before) (r + 1) (count - (r + 1)) → Seeking log members a g before count q
    seeking_turn {q} h is n e =
        let f = first_at (record_reads log a.number before) (r + 1) (count - (r + 1)) q e in
        record {
          states = s.states;
          high = omega (arith, f.high);
          reading = λ l. f.passes (omega arith);
          fails = fails_join (leads log members a g) 0 r q s.fails
              (fails_join (leads log members a g) r (r + 1) q (fails_one (leads log members a g) r (seeking_leads h is ∙ n))
              (fails_lead log members a g before (r + 1) q s.states f.fails));
        }

    pub seeking_found : {b : Bool} {limit : ℕ} → limit ≤ count → r < limit → b ≡ member members (state_number (merge (processes_of a.bits) (after_at log r) g)) → b ≡ true
        → r ≡ first_lead log limit members a g
    unfolding first_lead
    seeking_found {limit = limit} few h is y =
        first_is (leads log members a g) 0 limit r (record { low = omega arith; high = omega arith; passes = λ l. seeking_leads (omega arith) is ∙ y; fails = s.fails })

    pub seeking_none : {limit : ℕ} → limit ≤ r → limit ≡ first_lead log limit members a g
    unfolding first_lead
    seeking_none {limit} h = first_is (leads log members a g) 0 limit limit
        (record { low = omega arith; high = omega arith; passes = λ l. absurd (omega arith); fails = λ j p q. s.fails j p (omega arith) })

-- the next record that reads comes later
pub reads_later : (log : List ℕ) (letter before count r q : ℕ) → q ≡ first_from (record_reads log letter before) (r + 1) (count - (r + 1)) → r < q
reads_later log letter before count r q e = omega (arith, (first_at (record_reads log letter before) (r + 1) (count - (r + 1)) q e).low)

-- ---- whether some record does
pub some_lead_lem : (log members : List ℕ) (a : Letter) (g : Group) (count r : ℕ) → r < count → leads log members a g r ≡ true → some_lead log count members a g ≡ true
unfolding first_lead
some_lead_lem log members a g count r h t =
    let q = first_from (leads log members a g) 0 count in
    let w = first_of (leads log members a g) 0 count in
    elim (dec_lt q count) [
      | yes l ↦ lt-ltb q count l
      | no l ↦ absurd (true≢false (sym t ∙ w.fails r (omega arith) (omega arith)))
    ]

pub the_lead : (log members : List ℕ) (a : Letter) (g : Group) (count : ℕ) → some_lead log count members a g ≡ true
    → (first_lead log count members a g < count) × (leads log members a g (first_lead log count members a g) ≡ true)
unfolding first_lead
the_lead log members a g count t =
    let less : first_from (leads log members a g) 0 count < count = ltb-true (first_from (leads log members a g) 0 count) count t in
    (less, (first_of (leads log members a g) 0 count).passes (omega arith))
