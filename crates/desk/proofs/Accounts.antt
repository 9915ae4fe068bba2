-- After any sequence of calls on a desk that was opened, the struct stands where a walk of its current history stands.
use mathlib.Core.Path.{◌≡◌, refl, ap₂, sym, subst, ◌∙◌}
use mathlib.Core.List.{List}
use Prim.Native.Nat.{ℕ}
use Rattle.desk_model.specs.Desks.{Call, Contents, Leads, HistoriesLead, desk_calls, note_calls, opened, unwritten}
use Rattle.model.specs.Tables.{accepted, read}
use Rattle.desk_model.proofs.Main.{desk_stands}
use Rattle.table.specs.Reading.{Holds, items_in, system_in}
use Rattle.table.proofs.Readings.{holds_read}
use Rattle.desk.specs.declared.Desk.{Desk}
use Rattle.desk.specs.Promises.{Accounted, Called, uncalled, called, Opened, shown, system_on, table_of}

record Shows (d : Desk) (cs : List Call) (e : Desk) : Type 0 where
  pub table : table_of e ≡ table_of d
  pub copy : e.bytes ≡ d.bytes
  pub contents : shown e ≡ desk_calls (system_on d) (shown d) cs

called_shows : (d e : Desk) (cs : List Call) → Called d cs e → Shows d cs e
called_shows d e cs uncalled = record { table = refl; copy = refl; contents = refl }
called_shows d e cs (called {d' = d'} {cs = cs'} m k) =
    let x = called_shows d' e cs' k in
    record { table = x.table ∙ m.table; copy = x.copy ∙ m.copy; contents = x.contents ∙ ap₂ (λ (l : List ℕ) (s : Contents). desk_calls (system_in l) s cs') m.table m.contents }

pub desk_accounted : (bytes : List ℕ) (d e : Desk) (cs : List Call) → Opened bytes d → Called d cs e → Accounted bytes cs e
unfolding system_in
desk_accounted bytes d e cs o k =
    let x = called_shows d e cs k in
    let is : shown e ≡ desk_calls (system_in bytes) (opened (system_in bytes)) cs = x.contents ∙ ap₂ (λ (l : List ℕ) (s : Contents). desk_calls (system_in l) s cs) o.table o.contents in
    let read_is : read bytes ≡ accepted (items_in bytes) = holds_read bytes d.table (subst (λ (b : List ℕ). Holds b d.table) o.table o.good.holds) in
    record {
      table = x.table ∙ o.table;
      copy = x.copy ∙ o.copy;
      stands = subst (HistoriesLead (system_in bytes) (Leads bytes (system_in bytes)) (note_calls (system_in bytes) (opened (system_in bytes)) unwritten cs)) (sym is) (desk_stands bytes (items_in bytes) read_is cs);
    }
