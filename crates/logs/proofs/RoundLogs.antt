-- What the log of a round gives: its records are read from its bytes, and the table's system meets what the theorems ask.
use mathlib.Core.List.{List}
use Prim.Native.Nat.{ℕ, ◌<◌}
use native.Mathlib.Omega.{arith}
use Rattle.model.specs.Log.{record_at, log_at, limit, saturated_at}
use Rattle.model.proofs.Emission.{Earlier}
use Rattle.model.proofs.Reachability.{WellFormed}
use Rattle.model.proofs.Soundness.{Control}
use Rattle.model.proofs.AcceptedTables.{accepted_control}
use Rattle.model.proofs.CopiedTables.{accepted_well_formed}
use Rattle.model.proofs.Validity.{each_at, log_earlier}
use Rattle.records.specs.Entries.{HasRecord, Fits, Reads}
use Rattle.records.proofs.Entries.{log_reads, log_has}
use Rattle.table.specs.declared.Table.{Table}
use Rattle.table.specs.Reading.{Holds, items_in, saturated_in, system_in}
use Rattle.table.proofs.Readings.{holds_complete}
use Rattle.logs.specs.RoundLogs.{RoundLog}

-- ---- the table
pub holds_well_formed : (bytes : List ℕ) (t : Table) → Holds bytes t → WellFormed (saturated_in bytes)
unfolding system_in
holds_well_formed bytes t h = accepted_well_formed (items_in bytes) (holds_complete bytes t h)

pub holds_control : (bytes : List ℕ) (t : Table) → Holds bytes t → Control (system_in bytes).controls (system_in bytes).start.states
unfolding system_in
holds_control bytes t h = accepted_control (items_in bytes) (holds_complete bytes t h)

-- ---- the log
module _ {table : List ℕ} {t : Table} {round : ℕ} {log : List ℕ} {count : ℕ} (w : RoundLog table t round log count) where
  pub round_fits : (r : ℕ) → r < count → Fits (record_at (log_at (saturated_in table) round) r)
  round_fits r h = each_at Fits (log_at (saturated_in table) round) w.fits r (omega (arith, w.size))

  pub round_reads : (r : ℕ) → r < count → Reads log r (record_at (log_at (saturated_in table) round) r)
  round_reads r h = log_reads (log_at (saturated_in table) round) w.rest log r w.logged (omega (arith, w.size)) (round_fits r h)

  pub round_has : (r : ℕ) → r < count → HasRecord log r
  round_has r h = log_has (log_at (saturated_in table) round) w.rest log r w.logged (omega (arith, w.size))

pub limit_earlier : (table : List ℕ) → Earlier (limit (saturated_in table))
limit_earlier table = log_earlier (saturated_in table) (saturated_at (saturated_in table))
