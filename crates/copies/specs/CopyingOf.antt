-- What the code knows of the copy of a table's automaton.
use Rattle.std.specs.Prelude.{◌≡◌, false, true, List, ℕ}
use Rattle.model.specs.Copies.{reenters}
use Rattle.model.specs.Groups.{Process, at, has}
use Rattle.table.specs.Present.{present_in}
use Rattle.table.specs.declared.Table.{Table}
use Rattle.table.specs.Reading.{system_in}
use Rattle.copies.specs.declared.Copying.{Copying}

-- whether it is made, and the number of states of each process
pub record CopyingOf (table : List ℕ) (t : Table) (c : Copying) : Type 0 where
  pub made : c.made ≡ reenters (system_in table)
  pub states : (i : Process) → has (present_in t) i ≡ true → at c.states i ≡ (system_in table).states i
  pub lacking : (i : Process) → has (present_in t) i ≡ false → at c.states i ≡ 0
