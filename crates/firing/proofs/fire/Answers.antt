-- No place is found: idle. A word too long: full. Else the word, the states after and the processes told are the rule's (Firings).
use mathlib.Core.Path.{◌∙◌, ap}
use mathlib.Core.List.{List}
use Prim.Native.Nat.{ℕ, ◌+◌, ◌-◌}
use native.Mathlib.Omega.{arith}
use lib.ListN.{length}
use Rattle.model.specs.declared.Group.{Group}
use Rattle.model.specs.Groups.{merge, processes_of}
use Rattle.table.proofs.Configurations.{located}
use Rattle.firing.specs.Places.{rewritten}
use Rattle.firing.proofs.Scans.{place_rest}
use Rattle.firing.proofs.Firings.{fires_idle, fires_full, fires_done}
use Rattle.firing.proofs.fire.Goals as goal

pub returns-in_default : goal.returns-in_default
returns-in_default c =
    fires_idle _ (located _ _ c.args.table.now.holds) _ _ _ c.requires.1.inside c.in_default.ensures

pub returns-then-c-written : goal.returns-then-c-written
returns-then-c-written c =
    fires_full _ (located _ _ c.args.table.now.holds) _ _ _ c.requires.1.inside c.in-Some.ensures.1 (omega (arith, ap length c.written-written.ensures, c.if-c-written.true))

pub rewrite-requires : goal.rewrite-requires
rewrite-requires c =
    let low = (place_rest _ (located _ _ c.args.table.now.holds) _ _ _ c.requires.1.inside c.in-Some.ensures.1).0 in
    (omega (arith, c.in-Some.ensures.0), omega arith, c.if-c-written.false)

pub returns : goal.returns
returns c =
    let a = c.args in
    let e = c.written-written.ensures in
    fires_done _ (located _ _ c.args.table.now.holds) _ _ _ c.requires.1.inside c.in-Some.ensures.1 _ _ _ _ (omega (arith, ap length e, c.if-c-written.false))
    c.rule_bits-processes.ensures.same c.rule_bits-processes.ensures.small
    (c.merged.ensures ∙ ap (λ (g : Group). merge (processes_of c.rule_bits-processes.result) g a.c.states) c.rule_after.ensures)
    (ap (λ (w : List ℕ). a.c.top + 1 - length w) e)
    (c.rewrite.ensures ∙ ap (λ (n : ℕ). rewritten a.pile.now a.c.top n c.written-written.result.now) c.in-Some.ensures.0 ∙ ap (rewritten a.pile.now a.c.top _) e)
