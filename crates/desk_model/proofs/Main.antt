-- Requests 2.1 and 2.5, of the definitions that the contracts of the desk's calls cite: the top statement alone.
use mathlib.Core.Path.{◌≡◌}
use mathlib.Core.List.{List}
use Prim.Native.Nat.{ℕ}
use Rattle.desk_model.specs.Desks.{Call, Leads, HistoriesLead, desk_calls, note_calls, opened, unwritten}
use Rattle.model.specs.Tables.{Item, accepted, read, system_of}
use Rattle.desk_model.proofs.Desks.{desk_walks}

-- ---- requests 2.1 and 2.5: after any sequence of calls the desk stands where a walk of its current history stands, and each name where a walk of its own does; and
-- its counts are those of the fires since it was opened or last returned
pub desk_stands : (table : List ℕ) (items : List Item) → read table ≡ accepted items → (cs : List Call)
    → HistoriesLead (system_of items) (Leads table (system_of items)) (note_calls (system_of items) (opened (system_of items)) unwritten cs) (desk_calls (system_of items) (opened (system_of items)) cs)
desk_stands = desk_walks
