-- An arrival: stale, at an end that is known, or at a new one.
use mathlib.Core.Path.{ap, sym, ◌∙◌}
use Rattle.paths.specs.declared.Trail.{Trail}
use Rattle.paths.specs.Jobs.{stored_end}
use Rattle.paths.proofs.Arriving.{arrived_known, arrived_new, arrived_stale}
use Rattle.paths.proofs.arrive.Goals as goal

pub returns-then-is_known : goal.returns-then-is_known
returns-then-is_known c =
    rw (c.if-not-found.false)
    (arrived_known c.requires.0 _ c.restricted-after.ensures c.number.ensures.0 c.is_known.ensures.1
    (sym c.is_known.ensures.0 ∙ c.if-is_known.true))

pub returns : goal.returns
returns c =
    let a = c.args in
    rw (c.if-not-found.false)
    (arrived_new c.requires.0 _ c.restricted-after.ensures c.number.ensures.0 c.is_known.ensures.1
    (sym c.is_known.ensures.0 ∙ c.if-is_known.false)
    (c.store.ensures.0, c.store.ensures.1 ∙ ap (λ (t : Trail). stored_end a.log.now a.job c.restricted-after.result t a.count) c.longer-on.ensures))
