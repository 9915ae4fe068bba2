-- The places of a path are written one after the other.
use Prim.Native.Nat.{◌*◌}
use Rattle.model.specs.Records.{path_bytes}
use Rattle.buffers.proofs.Parts.{Front}
use Rattle.records.proofs.put_places.Given as goal

abbrev pub invariant-loop-j : goal.invariant-loop-j
invariant-loop-j l = Front (path_bytes l.j l.path) l.initial.out (2 * l.j) l.out
