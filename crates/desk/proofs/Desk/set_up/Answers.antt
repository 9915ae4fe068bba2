-- The copy of the table, and the start's word in a pile (Opening).
use native.Mathlib.Omega.{arith}
use Rattle.table.proofs.Layouts.{table_length, table_modest}
use Rattle.desk.proofs.Opening.{opened_desk}
use Rattle.desk.proofs.Desk.set_up.Goals as goal

pub copy-requires : goal.copy-requires
copy-requires c =
    let t = c.args.table.now in table_length t.bytes.now t.counts t.holds

pub place_start-placed-requires : goal.place_start-placed-requires
place_start-placed-requires c =
    let t = c.args.table.now in omega (arith, (table_modest t.bytes.now t.counts t.holds).pile)

pub returns : goal.returns
returns c =
    let t = c.args.table.now in
    let placed = c.place_start-placed in
    opened_desk t.bytes.now t.counts placed.result c.copy.new.to placed.new.pile t.holds c.copy.ensures
    placed.ensures.start placed.ensures.inside placed.auto.pile
