-- An accepting group is put into the set, mixture after mixture (LastSet).
use mathlib.Core.Path.{◌≡◌}
use Prim.Native.Nat.{◌-◌, ◌≤◌}
use Rattle.restsets.proofs.LastSet.{with_mixtures}
use Rattle.restsets.proofs.sets.add_accepting.Given as goal

abbrev pub invariant-loop-m : goal.invariant-loop-m
invariant-loop-m l = (l.m ≤ l.sets) × (l.scratch ≡ with_mixtures l.table.counts l.at l.x l.initial.scratch l.m)
