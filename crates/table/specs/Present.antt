-- The processes that a table has.
use Rattle.std.specs.Prelude.{ℕ, ltb}
use Rattle.model.specs.Groups.{Processes}
use Rattle.table.specs.declared.Table.{Table}

-- the first n of the four processes
unfoldable pub processes_below : ℕ → Processes
processes_below n = record { b0 = ltb 0 n; b1 = ltb 1 n; b2 = ltb 2 n; b3 = ltb 3 n }

abbrev pub present_in : Table → Processes
present_in t = processes_below t.processes
