-- The items of the kind stand right before the cursor (Twins).
use Rattle.std.proofs.Common.{sym, ◌∙◌, arith}
use Rattle.reading.proofs.Twins.{seen_of}
use Rattle.reading.proofs.items.is_twin.Goals as goal

pub is_seen-requires : goal.is_seen-requires
is_seen-requires c =
    let s = seen_of c.requires (sym c.has_twins.ensures ∙ c.if-not-has_twins.false) in
    rw (c.count_of.ensures, c.requires.whole.size) (s.room, omega (arith, c.requires.inside))
