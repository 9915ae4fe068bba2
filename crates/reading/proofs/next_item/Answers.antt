-- Each end of the reading, and the cursor behind an admitted item, is the step that the definition takes (Steps); the filter has the item (Marks).
use Rattle.std.proofs.Common.{◌≡◌, sym, ◌∙◌, arith, rules}
use Rattle.table.specs.Kinds.{kind_number}
use Rattle.table.proofs.Cursors.{modest_of}
use Rattle.table.proofs.Steps.{step_end, step_refused, step_leftover, step_accepted}
use Rattle.reading.proofs.Marks.{marked_done, marked_next}
use Rattle.reading.proofs.next_item.Goals as goal

pub returns-then-bytes-at : goal.returns-then-bytes-at
returns-then-bytes-at c = marked_done (step_end _ _ c.if-bytes-at.true)

pub advance-requires : goal.advance-requires
advance-requires c = (modest_of _ _ c.requires.0, c.requires.0.ceilings 6)

pub returns-in-Err : goal.returns-in-Err
returns-in-Err c =
    let e = c.in-Err.ensures.checked.same in
    marked_done (step_refused _ _ c.requires.0 c.if-bytes-at.false _ e.0 (λ z. omega (arith, e.1)))

pub returns-then-ne : goal.returns-then-ne
returns-then-ne c =
    let e = c.in-Ok.ensures in
    let on : kind_number c.in-Ok.kind ≡ 8 → ⊥ = search rules in
    rw (c.advance.ensures, c.body_length.ensures, e.kind)
    (marked_next c.requires.0 c.requires.1 c.if-bytes-at.false e.checked.same e.checked.filter (rw e.kind at on))

pub returns-then-at-bytes : goal.returns-then-at-bytes
returns-then-at-bytes c =
    let e = c.in-Ok.ensures in
    let end : kind_number c.in-Ok.kind ≡ 8 = search rules in
    marked_done (step_leftover _ _ c.requires.0 c.if-bytes-at.false e.checked.same (sym e.kind ∙ end) c.if-at-bytes.true)

pub returns : goal.returns
returns c =
    let e = c.in-Ok.ensures in
    let end : kind_number c.in-Ok.kind ≡ 8 = search rules in
    marked_done (step_accepted _ _ c.requires.0 c.if-bytes-at.false e.checked.same (sym e.kind ∙ end) c.if-at-bytes.false)
