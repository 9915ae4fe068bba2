-- What the code knows of the copy gives the highest states of the automaton that is saturated.
use mathlib.Core.Path.{◌≡◌, sym, ◌∙◌}
use mathlib.Core.Bool.{Bool, cond, true, false}
use mathlib.Core.List.{List}
use Prim.Native.Nat.{ℕ, ◌-◌, ◌≤◌}
use native.Mathlib.Omega.{arith}
use Rattle.model.specs.Groups.{Process, at, build, has}
use Rattle.model.proofs.Groups.{at_build, at_merge, ext}
use Rattle.model.proofs.Tests.{by_test}
use Rattle.table.specs.declared.Table.{Table}
use Rattle.table.specs.Reading.{Holds, saturated_in}
use Rattle.table.specs.Present.{processes_below}
use Rattle.copies.specs.declared.Copying.{Copying}
use Rattle.copies.specs.CopyingOf.{CopyingOf}
use Rattle.copies.proofs.Groups.{states_few}
use Rattle.rests.specs.Rests.{no_states, processes_of_table}
use Rattle.restsets.specs.OwnGroups.{last_of, last_states}

pub last_none : (b : Bool) → last_of b 0 ≡ 0
last_none true = omega arith
last_none false = omega arith

module _ (table : List ℕ) (t : Table) (h : Holds table t) (c : Copying) (copying : CopyingOf table t c) where
  pub states_small : (i : Process) → at c.states i ≤ 8
  unfolding processes_below
  states_small i = by_test (has (processes_of_table t) i)
      (λ m. omega (arith, copying.states i m, states_few table t h i m))
      (λ n. omega (arith, copying.lacking i n))

  pub last_are : build (λ i. last_of c.made (at c.states i)) ≡ last_states table t
  unfolding last_states processes_below
  last_are = ext (λ i. at_build (λ i. last_of c.made (at c.states i)) i
      ∙ by_test (has (processes_of_table t) i) (own i) (none i)
      ∙ sym (at_merge (processes_of_table t) (build (λ i. (saturated_in table).states i - 1)) no_states i))
    where
      own : (i : Process) → has (processes_of_table t) i ≡ true → last_of c.made (at c.states i) ≡ cond (has (processes_of_table t) i) (at (build (λ i. (saturated_in table).states i - 1)) i) (at no_states i)
      own i m = rw (m, at_build (λ i. (saturated_in table).states i - 1) i, copying.made, copying.states i m)

      none : (i : Process) → has (processes_of_table t) i ≡ false → last_of c.made (at c.states i) ≡ cond (has (processes_of_table t) i) (at (build (λ i. (saturated_in table).states i - 1)) i) (at no_states i)
      none i n = rw (n, copying.lacking i n, at_build (λ i. 0) i) (last_none c.made)
