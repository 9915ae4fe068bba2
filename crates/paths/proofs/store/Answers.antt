-- A record is written where there is room for it.
use mathlib.Core.Path.{refl, ap₂, ◌∙◌}
use native.Mathlib.Omega.{arith}
use borrow.Author.Tests.{lt-ltb, le-ltb}
use Rattle.model.specs.declared.Group.{Group}
use Rattle.records.specs.Entries.{with_entry}
use Rattle.paths.specs.Jobs.{stored_end}
use Rattle.paths.proofs.store.Goals as goal

pub returns-then-count-job : goal.returns-then-count-job
unfolding stored_end
returns-then-count-job c =
    let a = c.args in (
      omega (arith, c.if-count-job.true),
      rw (lt-ltb _ _ c.if-count-job.true) (c.put_record.ensures
          ∙ ap₂ (λ (b g : Group). with_entry a.log.now a.count (record { letter = a.job.letter; before = b; after = g; round = a.job.round; rule = a.job.rule; path = a.trail.places; steps = a.trail.steps })) c.unpack.ensures c.unpack-then-count-job.ensures),
    )

pub returns-else-count-job : goal.returns-else-count-job
unfolding stored_end
returns-else-count-job c =
    (omega (arith, c.if-count-job.false, c.requires.2), rw (le-ltb _ _ c.if-count-job.false) refl)
