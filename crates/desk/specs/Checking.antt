-- What the checks find of a name, as the code of a call finds it: by its number and by whether it is held where it has to
-- be.
use Rattle.std.specs.Prelude.{Bool, false, ℕ, leb}
use Rattle.desk_model.specs.Desks.{Findings, name_count}

abbrev pub name_findings : ℕ → Bool → Findings
name_findings a empty = record { missing = false; beyond = leb name_count a; empty = empty; idle = false; full = false }
