-- A process of the table has its byte, any other the bound 256 (Bodies).
use mathlib.Core.Path.{◌∙◌}
use native.Mathlib.Omega.{arith}
use Rattle.model.specs.Tables.{absent}
use Rattle.table.proofs.Bodies.{bodies_byte, bodies_past, absent_bound}
use Rattle.table.proofs.fields.bound_of.Goals as goal

pub returns-then-i-t : goal.returns-then-i-t
returns-then-i-t c =
    let x = c.args in
    c.from.ensures ∙ bodies_byte x.bytes.now 2 0 x.t.processes x.i x.field _ absent c.if-i-t.true (omega arith) (omega arith)

pub returns : goal.returns
returns c =
    let x = c.args in
    rw (bodies_past x.bytes.now 2 0 x.t.processes x.i absent c.if-i-t.false, absent_bound x.field c.requires.1)
