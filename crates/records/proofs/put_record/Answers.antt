-- A record is written where it stands in the log.
use mathlib.Core.Path.{refl}
use Prim.Native.Nat.{◌*◌}
use Rattle.model.specs.Records.{record_length}
use Rattle.records.proofs.Entries.{with_loan}
use Rattle.records.proofs.put_record.Goals as goal

pub returns : goal.returns
returns c =
    let a = c.args in
    let w = c.write_record in
    with_loan a.log.now w.new.out a.n (a.n * record_length) a.e refl w.ensures
