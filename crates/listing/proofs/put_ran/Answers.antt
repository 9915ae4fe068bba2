-- A run has its peak and its rules from the page's front, a refusal its number (Texts).
use mathlib.Core.Path.{ap, sym, subst}
use Prim.Native.Nat.{◌+◌, ◌-◌, ◌*◌}
use Rattle.std.specs.Prelude.{Result}
use Rattle.model.specs.declared.Refusal.{Refusal}
use Rattle.model.specs.declared.Run.{Run}
use Rattle.listing.specs.Listing.{listed, run_lines}
use Rattle.listing.specs.Puts.{Puts}
use Rattle.listing.proofs.Texts.{puts_run, puts_within}
use native.Mathlib.Omega.{arith}
use lib.ListN.{length, length-take}
use Rattle.listing.proofs.put_ran.Goals as goal

pub slice_bounds-put_run-end : goal.slice_bounds-put_run-end
slice_bounds-put_run-end c = omega (arith, ap listed c.in-Ok.is, c.requires.0)

pub put_run-requires : goal.put_run-requires
put_run-requires c = omega (arith, length-take (c.in-Ok.reached.steps - 0) c.args.page.now, c.requires.1)

pub returns-in-Ok : goal.returns-in-Ok
unfolding run_lines
returns-in-Ok c =
    let a = c.args in
    subst (λ (x : Result Run Refusal). Puts a.out.now a.at (run_lines x a.page.now) (6 * length a.page.now + 64) c.put_run.result c.put_run.new.out) (sym c.in-Ok.is)
    (puts_run a.page.now c.in-Ok.reached.steps c.put_line-last.ensures c.put_run.ensures (omega (arith, c.requires.1)) (omega arith))

pub returns-in-Err : goal.returns-in-Err
unfolding run_lines
returns-in-Err c =
    let a = c.args in
    subst (λ (x : Result Run Refusal). Puts a.out.now a.at (run_lines x a.page.now) (6 * length a.page.now + 64) c.put_line.result c.put_line.new.out) (sym c.in-Err.is)
    (puts_within (6 * length a.page.now + 64) c.put_line.ensures (omega arith))
