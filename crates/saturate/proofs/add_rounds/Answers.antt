-- Round after round, until one adds nothing or the log has no room (Saturating).
use mathlib.Core.Bool.{false≢true}
use mathlib.Core.Path.{ap, ◌∙◌}
use Rattle.std.specs.Prelude.{Ok, Err, Result, IsErr, List, ℕ}
use Rattle.saturate.specs.declared.Full.{Full}
use Rattle.saturate.specs.declared.Limit.{Limit}
use Rattle.saturate.specs.Limits.{SaturatedDone, SaturatedFull}
use Rattle.saturate.proofs.Saturating.{measure_falls, saturating_full, saturating_limit, saturating_turn}
use Rattle.saturate.proofs.add_rounds.Goals as goal

-- a result that is an error is that of a full log
ended : {table log s log' s' : List ℕ} {n : ℕ} (r : Result Limit Full) → IsErr r → SaturatedFull table n log s log' s' → SaturatedDone table n log s r log' s'
ended (Ok l) e f = absurd (false≢true e)
ended (Err e) h f = f

pub loop-count-smaller : goal.loop-count-smaller
loop-count-smaller c =
    measure_falls c.loop-count.invariant c.add_round.ensures.request_2_3 c.add_round.ensures.scratch (c.in_ok-count.was ∙ ap Ok c.in-Some.is)

pub loop-count-preserved : goal.loop-count-preserved
loop-count-preserved c =
    saturating_turn c.loop-count.invariant c.add_round.ensures.request_2_3 c.add_round.ensures.scratch (c.in_ok-count.was ∙ ap Ok c.in-Some.is)

pub returns-in_err-count : goal.returns-in_err-count
returns-in_err-count c =
    ended _ c.from_residual.ensures.0 (saturating_full c.loop-count.invariant c.add_round.ensures.request_2_3 c.add_round.ensures.scratch c.in_err-count.was)

pub returns : goal.returns
returns c =
    saturating_limit c.loop-count.invariant c.add_round.ensures.request_2_3 c.add_round.ensures.scratch (c.in_ok-count.was ∙ ap Ok c.in_default.is)
