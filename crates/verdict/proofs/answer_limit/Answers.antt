-- The verdict where the log holds the limit.
use mathlib.Core.Path.{ap, ◌∙◌}
use Prim.Native.Nat.{ℕ}
use lib.ListN.{replicate}
use Rattle.verdict.proofs.Verdicts.{verdict_stated}
use Rattle.verdict.proofs.answer_limit.Goals as goal

pub returns : goal.returns
returns c =
    let w = c.requires in (
      c.stated_verdict.ensures ∙ verdict_stated w (c.find-path.ensures _ w.log_of),
      c.clear.ensures ∙ ap (λ (n : ℕ). replicate n 0) c.find-path.auto.scratch,
    )
