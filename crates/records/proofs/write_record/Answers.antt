-- The parts of a record are written from its front to its end.
use mathlib.Core.Path.{refl}
use Prim.Native.Nat.{◌*◌, ◌≤◌}
use Rattle.model.specs.Tables.{written_places}
use Rattle.model.specs.Records.{record_length}
use Rattle.model.proofs.RecordBytes.{length_path}
use Rattle.records.specs.Entries.{entry_bytes}
use Rattle.buffers.proofs.Parts.{front_none, front_more, front_number}
use native.Mathlib.Omega.{arith}
use lib.ListN.{length}
use Rattle.records.proofs.write_record.Goals as goal

pub returns : goal.returns
unfolding entry_bytes
returns c =
    let e = c.args.e in
    let room : record_length ≤ length c.args.out.now = c.requires in
    let key = front_more 9 (front_none c.args.out.now) c.put_key.ensures refl in
    let round = front_number 2 e.round key (omega arith) c.put_two.ensures in
    let rule = front_number 2 e.rule round (omega arith) c.put_two-2.ensures in
    let path = front_more (2 * written_places) rule c.put_places.ensures (length_path written_places e.path) in
    let steps = front_number 3 e.steps path (omega arith) c.put_three.ensures in
    steps.same
