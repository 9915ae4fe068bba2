-- What a reading says of the table's bytes.
use mathlib.Core.Path.{◌≡◌, refl, ap, sym, ◌∙◌}
use mathlib.Core.List.{List}
use Prim.Native.Nat.{ℕ}
use native.Mathlib.Omega.{arith}
use Rattle.std.specs.Prelude.{Ok, Err}
use Rattle.model.proofs.CheckedItems.{Complete, read_complete}
use Rattle.model.specs.declared.Refusal.{Refusal}
use Rattle.model.specs.Tables.{Reading, accepted, refused, read}
use Rattle.table.specs.Reading.{Holds, items_in, items_of, parsed}
use Rattle.table.specs.declared.Table.{Table}

pub holds_read : (bytes : List ℕ) (t : Table) → Holds bytes t → read bytes ≡ accepted (items_in bytes)
unfolding items_in
holds_read bytes t h = go (read bytes) refl h.reading
  where
    go : (r : Reading) → read bytes ≡ r → parsed r ≡ Ok t → read bytes ≡ accepted (items_of (read bytes))
    go (accepted items) e q = e ∙ ap (λ (x : Reading). accepted (items_of x)) (sym e)
    go (refused number place) e q = let z : ◌≡◌ {A = ℕ} 0 1 = cc in absurd (omega arith)

pub holds_complete : (bytes : List ℕ) (t : Table) → Holds bytes t → Complete (items_in bytes)
holds_complete bytes t h = read_complete bytes (items_in bytes) (holds_read bytes t h)

pub refused_reading : (x : Reading) (r : Refusal) → parsed x ≡ Err r → x ≡ refused r.number r.place
refused_reading (accepted items) r e = let z : ◌≡◌ {A = ℕ} 0 1 = cc in absurd (omega arith)
refused_reading (refused n p) r e = let q : record { number = n; place = p } ≡ r = cc in ap (λ (x : Refusal). refused x.number x.place) q
