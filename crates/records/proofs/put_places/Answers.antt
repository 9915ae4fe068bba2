-- The places of a path are written one after the other.
use native.Mathlib.Omega.{arith}
use borrow.Author.Rules.{rules}
use lib.ListN.{length}
use mathlib.Core.Path.{◌≡◌}
use Rattle.model.specs.Tables.{written_places}
use Rattle.records.proofs.Entries.{places_more}
use Rattle.records.proofs.put_places.Goals as goal

pub loop-j-preserved : goal.loop-j-preserved
loop-j-preserved c =
    let long : length c.args.path ≡ written_places = search rules in
    places_more c.args.path c.args.out.now c.loop-j.out _ c.loop-j.j (omega arith) (omega arith) c.loop-j.invariant c.put_two.ensures
