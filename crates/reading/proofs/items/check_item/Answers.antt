-- An item that passes the early checks is whole, and its body is checked (Steps).
use Rattle.std.proofs.Common.{◌≡◌, refl, false, arith}
use Rattle.model.specs.Tables.{is_stranger}
use Rattle.table.specs.Kinds.{kind_number}
use Rattle.table.specs.declared.kinds.Kind.{Kind}
use Rattle.table.specs.declared.kinds.Kind.TheVariants.{Process, Letter, Rule, Transition, Accepting, Start, Pile, End}
use Rattle.table.proofs.Steps.{early_refused, early_of}
use Rattle.reading.proofs.Marks.{refused_on}
use Rattle.reading.proofs.items.check_item.Goals as goal

known : (k : Kind) → is_stranger (kind_number k) ≡ false
known Process = refl
known Letter = refl
known Rule = refl
known Transition = refl
known Accepting = refl
known Start = refl
known Pile = refl
known End = refl

pub returns-in_err-check_place-clause-checked : goal.returns-in_err-check_place-clause-checked
returns-in_err-check_place-clause-checked c =
    let kind = c.in_ok-kind in
    let e = c.in_err-check_place.ensures in
    rw (← kind.ensures)
    (refused_on _ c.from_residual-in_err-check_place.ensures.1 (early_refused _ _ _ c.requires.0 c.requires.1 (known kind.kind) _ e.0 (λ z. omega (arith, e.1))) (omega (arith, e.1)))

pub check_body-requires : goal.check_body-requires
check_body-requires c =
    let f = early_of _ _ _ c.requires.0 c.requires.1 (known c.in_ok-kind.kind) c.in_ok-check_place.ensures in
    rw (c.body_at.ensures.0, c.body_length.ensures) (record { passed = c.requires.0; turn = f.turn; inside = f.inside; same = refl; whole = f.whole; filter = c.requires.2 })
