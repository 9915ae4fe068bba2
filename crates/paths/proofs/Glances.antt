-- The log as far as a search looks at it: logs with the same first records look alike.
use mathlib.Core.Path.{◌≡◌, refl, ap, ap₂, sym, ◌∙◌}
use mathlib.Core.Bool.{Bool, ◌&&◌, ◌||◌}
use mathlib.Core.List.{List, [], ◌∷◌}
use Prim.Native.Nat.{ℕ, zero, suc, ◌+◌, ◌*◌, ◌<◌, ◌≤◌}
use native.Mathlib.Nat.{not-suc-le-zero}
use native.Mathlib.Omega.{arith}
use lib.Dec.{eqb}
use lib.ListN.{get_or, length, take}
use lib.Seq.{get_or-take}
use Rattle.model.specs.Log.{Record, no_number, record_at}
use Rattle.model.specs.Records.{letter_at, number_at, record_length, steps_at}
use Rattle.model.specs.Tables.{written_places}
use Rattle.packs.specs.Packs.{packed_number, packed_after, packed_before, unpacked}
use Rattle.rings.specs.Rings.{record_reads}
use Rattle.keys.specs.Keys.{held_below}
use Rattle.paths.specs.Jobs.{glance, glances, glances_from}

pub length_glances : (log : List ℕ) (n k : ℕ) → length (glances_from log n k) ≡ k
length_glances log n zero = refl
length_glances log n (suc k) = ap suc (length_glances log (suc n) k)

glance_at : (log : List ℕ) (n k i : ℕ) → i < k → record_at (glances_from log n k) i ≡ glance log (n + i)
glance_at log n zero i h = absurd (not-suc-le-zero h)
glance_at log n (suc k) zero h = ap (glance log) (omega arith)
glance_at log n (suc k) (suc i) h = glance_at log (suc n) k i (omega arith) ∙ ap (glance log) (omega arith)

pub glances_at : (log : List ℕ) (base i : ℕ) → i < base → record_at (glances log base) i ≡ glance log i
glances_at log base i h = glance_at log 0 base i h ∙ ap (glance log) (omega arith)

-- ---- logs with the same first records
module _ (log log' : List ℕ) (base : ℕ) (same : take (base * record_length) log' ≡ take (base * record_length) log) where
  byte_same : (i : ℕ) → i < base * record_length → get_or log' i 0 ≡ get_or log i 0
  byte_same i h = sym (get_or-take (base * record_length) log' i 0 h) ∙ ap (λ (l : List ℕ). get_or l i 0) same ∙ get_or-take (base * record_length) log i 0 h

  number_same : (k i : ℕ) → i + k ≤ base * record_length → number_at k log' i ≡ number_at k log i
  unfolding number_at
  number_same zero i h = refl
  number_same (suc k) i h = ap₂ (λ (a b : ℕ). a + 256 * b) (byte_same i (omega arith)) (number_same k (suc i) (omega arith))

  pub letter_same : (i : ℕ) → i < base → letter_at log' i ≡ letter_at log i
  unfolding letter_at
  letter_same i h = byte_same (i * record_length) (omega arith)

  pub before_same : (i : ℕ) → i < base → packed_before log' i ≡ packed_before log i
  unfolding packed_before
  before_same i h = number_same 4 (i * record_length + 1) (omega arith)

  pub after_same : (i : ℕ) → i < base → packed_after log' i ≡ packed_after log i
  unfolding packed_after
  after_same i h = number_same 4 (i * record_length + 5) (omega arith)

  pub steps_same : (i : ℕ) → i < base → steps_at log' i ≡ steps_at log i
  unfolding steps_at
  steps_same i h = number_same 3 (i * record_length + (13 + 2 * written_places)) (omega arith)

  pub reads_same : (letter g i : ℕ) → i < base → record_reads log' letter g i ≡ record_reads log letter g i
  unfolding record_reads
  reads_same letter g i h = ap₂ (λ (a b : ℕ). eqb a letter && eqb b g) (letter_same i h) (before_same i h)

  -- they hold the same keys
  held_to : (letter g n x : ℕ) → n ≤ base → held_below log' letter g n x ≡ held_below log letter g n x
  held_to letter g zero x h = refl
  held_to letter g (suc n) x h =
      ap₂ (λ (a b : Bool). a || b) (held_to letter g n x (omega arith)) (ap₂ (λ (r : Bool) (y : ℕ). r && eqb x (packed_number y)) (reads_same letter g n h) (after_same n h))

  pub held_same : (letter g : ℕ) → held_below log' letter g base ≡ held_below log letter g base
  held_same letter g = λ i x. held_to letter g base x (omega arith) i

  glance_same : (n k : ℕ) → n + k ≤ base → glances_from log' n k ≡ glances_from log n k
  glance_same n zero h = refl
  glance_same n (suc k) h =
      let l = letter_same n (omega arith) in
      let b = before_same n (omega arith) in
      let a = after_same n (omega arith) in
      let s = steps_same n (omega arith) in
      ap₂ (λ (r : Record) (rs : List Record). r ∷ rs) (λ i. record { key = record { letter = l i; before = unpacked (b i); after = unpacked (a i) }; round = 0; rule = no_number; path = []; steps = s i }) (glance_same (suc n) k (omega arith))

  pub glances_same : glances log' base ≡ glances log base
  glances_same = glance_same 0 base (omega arith)
