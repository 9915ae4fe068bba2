-- The letter's one byte stands at its place behind the processes (Bodies).
use mathlib.Core.List.{[], ◌∷◌}
use Prim.Native.Nat.{◌*◌}
use native.Mathlib.Omega.{arith}
use Rattle.table.proofs.Bodies.{bodies_byte}
use Rattle.table.proofs.fields.bits_of.Goals as goal

pub returns : goal.returns
returns c =
    let x = c.args in
    bodies_byte x.bytes.now 1 (3 * x.t.processes) x.t.letters x.a 0 _ (15 ∷ []) c.requires.1 (omega arith) (omega arith)
