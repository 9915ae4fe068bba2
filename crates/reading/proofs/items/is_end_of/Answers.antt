-- Where eight bytes of the two differ, so do the two (Twins); else the comparison is asked.
use Rattle.std.proofs.Common.{◌-◌, length, arith, sym, ◌∙◌}
use Rattle.reading.proofs.Twins.{differ_in, same_test}
use Rattle.reading.proofs.items.is_end_of.Goals.{then-eight_at-via-then-eight_at, then-eight_at-via-else-eight_at+then-eight_at-2}
use Rattle.reading.proofs.items.is_end_of.Goals as goal

pub returns-then-eight_at : goal.returns-then-eight_at
returns-then-eight_at c =
    let item = c.args.item.now in
    let body = c.args.body.now in
    let at = length item - length body in
    sym (elim c.then-eight_at.branch [
      | then-eight_at-via-then-eight_at w ↦ differ_in body item at 0 at (omega arith) (λ e. w.if-eight_at.true (c.eight_at.ensures ∙ e ∙ sym c.eight_at-then-size-item.ensures))
      | then-eight_at-via-else-eight_at+then-eight_at-2 w ↦ differ_in body item at (length body - 8) (length item - 8) (omega arith) (λ e. w.if-eight_at-2.true (w.eight_at-else-eight_at.ensures ∙ e ∙ sym w.eight_at-else-eight_at-2.ensures))
    ])

pub returns : goal.returns
returns c = c.ends_with.ensures.value ∙ same_test c.args.body.now _
