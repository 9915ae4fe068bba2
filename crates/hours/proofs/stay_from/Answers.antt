-- The minutes up to the latest closing are minutes more (Windows).
use native.Mathlib.Omega.{arith}
use Rattle.plan_model.specs.Hours.{window_at}
use Rattle.hours.proofs.Windows.{staying_turn}
use Rattle.hours.proofs.stay_from.Goals as goal

pub loop-run-preserved : goal.loop-run-preserved
loop-run-preserved c =
    let ws = c.args.windows.now in
    staying_turn ws (window_at ws c.args.k) c.from-opens.result c.loop-run.run c.from-opens.ensures c.loop-run.invariant c.open_until-until.result (omega (arith, c.loop-run-test.true)) c.open_until-until.ensures
