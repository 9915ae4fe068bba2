-- The end of a rule that writes no letter: known, or new.
use mathlib.Core.Path.{sym, ◌∙◌}
use Rattle.paths.proofs.Arriving.{arrived_known, arrived_new}
use Rattle.paths.proofs.end_at_once.Goals as goal

pub returns-then-is_known : goal.returns-then-is_known
returns-then-is_known c =
    arrived_known c.requires _ c.restricted-end.ensures c.number.ensures.0 c.is_known.ensures.1
    (sym c.is_known.ensures.0 ∙ c.if-is_known.true)

pub returns : goal.returns
returns c =
    arrived_new c.requires _ c.restricted-end.ensures c.number.ensures.0 c.is_known.ensures.1
    (sym c.is_known.ensures.0 ∙ c.if-is_known.false) c.store.ensures
