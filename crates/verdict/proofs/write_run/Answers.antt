-- The run of a path is written to the page, with its figures.
use mathlib.Core.Path.{refl, sym, ◌∙◌}
use native.Mathlib.Omega.{arith}
use lib.ListN.{length}
use Rattle.verdict.proofs.Verdicts.{short_fits, run_long, run_unfoldable, run_written}
use Rattle.verdict.proofs.write_run.Goals as goal

pub returns-then-is_long : goal.returns-then-is_long
returns-then-is_long c =
    run_long c.requires (sym c.is_long.ensures ∙ c.if-is_long.true) c.clear.ensures

pub unfold-peak-requires : goal.unfold-peak-requires
unfold-peak-requires c =
    let w = c.requires in
    (w.log_of, w.room, run_unfoldable w (sym c.is_long.ensures ∙ c.if-is_long.false))

pub clear_numbers_from-requires : goal.clear_numbers_from-requires
clear_numbers_from-requires c =
    let a = c.args in
    omega (arith, c.unfold-peak.auto.page, (short_fits a.steps (length a.page.now) (sym c.is_long.ensures ∙ c.if-is_long.false)).0)

pub returns : goal.returns
returns c =
    run_written c.requires (sym c.is_long.ensures ∙ c.if-is_long.false) c.unfold-peak.new.scratch c.unfold-peak.ensures
    refl refl c.clear_numbers_from.ensures c.clear-2.ensures c.unfold-peak.auto.scratch
