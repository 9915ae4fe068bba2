-- What the code's copy of a table has to do with the definition's: the transitions that it tests, the sets that it counts, and the groups that it makes.
use mathlib.Core.Path.{◌≡◌, ap, refl, sym, ◌∙◌}
use mathlib.Core.Bool.{Bool, ◌||◌, cond, false, not, true}
use mathlib.Core.List.{List, [], ◌∷◌}
use Prim.Native.Nat.{ℕ, zero, suc, ◌+◌, ◌<◌, ◌≤◌}
use native.Mathlib.Omega.{arith}
use lib.Dec.{eqb, leb, ltb}
use lib.ListN.{get_or, length}
use borrow.Author.Tests.{eqb-true, leb-true, lt-ltb}
use Rattle.model.specs.declared.Group.{Group}
use Rattle.model.specs.Automata.{Transition}
use Rattle.model.specs.Copies.{copies, leaves_control, mixed, reenters, subsets}
use Rattle.model.specs.Groups.{Process, Processes, Within, at, every, has, merge, p0, p1, p2, p3, processes_of, restrict}
use Rattle.model.specs.Tables.{system_of}
use Rattle.model.proofs.Groups.{at_restrict, ext}
use Rattle.model.proofs.Mixtures.{at_copies, mixed_merge}
use Rattle.model.proofs.Tests.{by_test, each_process, all_below_at}
use Rattle.table.specs.Present.{present_in, processes_below}
use Rattle.table.proofs.Configurations.{bound_at}
use Rattle.table.specs.declared.Table.{Table}
use Rattle.table.specs.Places.{bound_in}
use Rattle.table.specs.Reading.{BitsOf, Holds, process_at, system_in}
use Rattle.table.proofs.Layouts.{controls_are}
use Rattle.copies.specs.declared.Copying.{Copying}
use Rattle.copies.specs.CopyingOf.{CopyingOf}

-- ---- one transition
-- the test that the code makes is the definition's
pub leaves_at : (table : List ℕ) (t : Table) → Holds table t → (u : Transition) (a bits : ℕ) (g : Group) (r : Bool) → a ≡ u.letter → BitsOf ((system_in table).loc a) bits → g ≡ u.after
    → r ≡ every (λ i. not (has (processes_of bits) i) || leb (bound_in table t 0 i) (at g i)) → r ≡ leaves_control (system_in table).loc (system_in table).controls u
unfolding leaves_control
leaves_at table t h u a bits g r letter is group e = rw (controls_are table t h, ← letter, ← is.same, ← group) e

-- ---- counts
abbrev counts : List ℕ
counts = 1 ∷ 2 ∷ 2 ∷ 4 ∷ 2 ∷ 4 ∷ 4 ∷ 8 ∷ 2 ∷ 4 ∷ 4 ∷ 8 ∷ 4 ∷ 8 ∷ 8 ∷ 16 ∷ []

pub counted : (bits : ℕ) → bits ≤ 15 → (get_or counts bits 0 ≡ length (subsets (processes_of bits))) × (get_or counts bits 0 ≤ 16)
unfolding subsets
counted bits l =
    let same : ℕ → Bool = λ b. eqb (get_or counts b 0) (length (subsets (processes_of b))) in
    let few : ℕ → Bool = λ b. leb (get_or counts b 0) 16 in
    (eqb-true _ _ (all_below_at 16 same refl bits (omega arith)), leb-true _ _ (all_below_at 16 few refl bits (omega arith)))

-- ---- what the code knows
abbrev StatesOf : List ℕ → Table → ℕ → ℕ → Type 0
StatesOf table t p s = s ≡ cond (ltb p t.processes) ((system_in table).states (process_at p)) 0

pub copying_is : (table : List ℕ) (t : Table) (r : Copying) → r.made ≡ reenters (system_in table)
    → StatesOf table t 0 r.states.s0 → StatesOf table t 1 r.states.s1 → StatesOf table t 2 r.states.s2 → StatesOf table t 3 r.states.s3 → CopyingOf table t r
unfolding processes_below
copying_is table t r made a b c d = record {
  made = made;
  states = each_process (λ i. has (present_in t) i ≡ true → at r.states i ≡ (system_in table).states i) (λ y. a ∙ rw y) (λ y. b ∙ rw y) (λ y. c ∙ rw y) (λ y. d ∙ rw y);
  lacking = each_process (λ i. has (present_in t) i ≡ false → at r.states i ≡ 0) (λ n. a ∙ rw n) (λ n. b ∙ rw n) (λ n. c ∙ rw n) (λ n. d ∙ rw n);
}

-- ---- groups
module _ (table : List ℕ) (t : Table) (h : Holds table t) where
  pub states_few : (i : Process) → has (present_in t) i ≡ true → (system_in table).states i ≤ 8
  unfolding system_in system_of
  states_few i m = (bound_at table t h i m).1

  pub states_byte : (p : ℕ) → p < 4 → p < t.processes → (system_in table).states (process_at p) < 256
  unfolding processes_below
  states_byte zero h l = omega (arith, states_few p0 (lt-ltb 0 t.processes l))
  states_byte (suc zero) h l = omega (arith, states_few p1 (lt-ltb 1 t.processes l))
  states_byte (suc (suc zero)) h l = omega (arith, states_few p2 (lt-ltb 2 t.processes l))
  states_byte (suc (suc (suc zero))) h l = omega (arith, states_few p3 (lt-ltb 3 t.processes l))
  states_byte (suc (suc (suc (suc p)))) h l = absurd (omega arith)

  module _ (c : Copying) (is : CopyingOf table t c) (L : Processes) (within : Within L (present_in t)) where
    -- there is room for the copies of a group's states
    pub copies_room : (g : Group) → ((i : Process) → has L i ≡ true → at g i < (system_in table).states i) → (i : Process) → has L i ≡ true → at c.states i + at g i < 256
    copies_room g low i m = omega (arith, is.states i (within i m), states_few i (within i m), low i m)

    pub copies_are : (g : Group) → restrict L (copies (at c.states) g) ≡ restrict L (copies (system_in table).states g)
    copies_are g = ext (λ i. at_restrict L (copies (at c.states) g) i ∙ by_test (has L i) (present i) (absent i) ∙ sym (at_restrict L (copies (system_in table).states g) i))
      where
        present : (i : Process) → has L i ≡ true → cond (has L i) (at (copies (at c.states) g) i) 255 ≡ cond (has L i) (at (copies (system_in table).states g) i) 255
        present i m = rw (m, at_copies (at c.states) g i, at_copies (system_in table).states g i, is.states i (within i m))

        absent : (i : Process) → has L i ≡ false → cond (has L i) (at (copies (at c.states) g) i) 255 ≡ cond (has L i) (at (copies (system_in table).states g) i) 255
        absent i n = rw n

    -- the copies at the processes of a set, and the plain states elsewhere
    pub merged_mixed : (M : Processes) (g : Group) → Within M L → merge M (restrict L (copies (at c.states) g)) g ≡ mixed (system_in table).states M g
    merged_mixed M g w = ap (λ (x : Group). merge M x g) (copies_are g) ∙ mixed_merge (system_in table).states L M g w
