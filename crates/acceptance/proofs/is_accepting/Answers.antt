-- None of the accepting groups so far is the group (Sets).
use mathlib.Core.Path.{◌∙◌, ap, sym}
use mathlib.Core.List.{[]}
use native.Mathlib.Omega.{arith}
use Rattle.model.specs.Groups.{same_group}
use Rattle.model.specs.Tables.{group_of}
use Rattle.states.proofs.Equality.{same_fields}
use Rattle.table.proofs.Layouts.{accepting_count}
use Rattle.acceptance.proofs.Sets.{unfound_turn, unfound_here, unfound_end}
use Rattle.acceptance.proofs.is_accepting.Goals as goal

pub returns-then-eq : goal.returns-then-eq
returns-then-eq c =
    unfound_here _ _ _ c.loop-k.k (omega (arith, accepting_count _ _ c.args.table.now.holds)) c.loop-k.invariant (ap (same_group _) (sym c.accepting_group.ensures) ∙ same_fields _ _ ∙ sym c.eq.ensures ∙ c.if-eq.true)

pub loop-k-preserved : goal.loop-k-preserved
loop-k-preserved c =
    unfound_turn _ _ _ c.loop-k.k (omega (arith, accepting_count _ _ c.args.table.now.holds)) c.loop-k.invariant (ap (same_group _) (sym c.accepting_group.ensures) ∙ same_fields _ _ ∙ sym c.eq.ensures ∙ c.if-eq.false)

pub returns : goal.returns
returns c =
    unfound_end _ _ (group_of [] 0) c.loop-k.k (omega (arith, accepting_count _ _ c.args.table.now.holds, c.loop-k-test.false)) c.loop-k.invariant
