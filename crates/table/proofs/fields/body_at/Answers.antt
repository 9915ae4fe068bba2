-- The part behind the kind's byte is the body (Bodies, Scans).
use mathlib.Core.Path.{◌∙◌, ap}
use Prim.Native.Nat.{◌+◌}
use lib.ListN.{length}
use Rattle.table.proofs.Bodies.{body_length_lem}
use Rattle.buffers.proofs.Parts.{part_front}
use Rattle.table.proofs.fields.body_at.Goals as goal

pub returns : goal.returns
returns c =
    let x = c.args in
    let e = part_front x.bytes.now (x.at + 1) x.size in
    (e, ap length e ∙ body_length_lem x.bytes.now x.size x.at c.requires)
