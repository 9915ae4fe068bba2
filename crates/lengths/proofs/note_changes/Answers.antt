-- The changes of the rules below k are noted.
use Rattle.std.proofs.Common.{◌∙◌, List, [], ℕ, ◌+◌, ◌<◌, length, set, arith}
use Rattle.std.proofs.lemmas.Grind.{get_or-set_at}
use Rattle.std.proofs.lemmas.List.{get_or-set_other, length-set}
use native.Mathlib.Decide.{ℕ_discrete}
use Rattle.table.specs.Reading.{rule_in, system_in}
use Rattle.table.proofs.Layouts.{table_modest}
use Rattle.lengths.specs.Projections.{Change, ChangesNoted, Lengths, length_at}
use Rattle.lengths.proofs.note_changes.Goals as goal

noted_more : (table : List ℕ) (changes : List Lengths) (k : ℕ) (l : Lengths) → ChangesNoted table k changes → k < length changes → Change (system_in table).loc (rule_in table k) (length_at l)
    → ChangesNoted table (k + 1) (set changes k l)
noted_more table changes k l before inside change = record {
  rule = λ m h i. elim (ℕ_discrete m k) [
    | yes e ↦ rw (get_or-set_at changes k m l [] e inside, e) (change i)
    | no n ↦ rw (get_or-set_other changes k m l [] n) (before.rule m (omega arith) i)
  ];
}

pub bounds-changes-k : goal.bounds-changes-k
bounds-changes-k c = omega (arith, (table_modest _ _ c.args.table.now.holds).rules)

pub offset_bounds-changes-k : goal.offset_bounds-changes-k
offset_bounds-changes-k c = omega (arith, (table_modest _ _ c.args.table.now.holds).rules)

pub loop-k-preserved : goal.loop-k-preserved
loop-k-preserved c =
    (length-set _ _ _ ∙ c.loop-k.invariant.0, noted_more _ _ _ _ c.loop-k.invariant.1 (omega (arith, (table_modest _ _ c.args.table.now.holds).rules)) c.rule_change.ensures)
