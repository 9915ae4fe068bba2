-- A refused table gives its number, which is not 0, and no desk.
use mathlib.Core.Path.{◌≡◌, ap, subst, sym, ◌∙◌}
use native.Mathlib.Omega.{arith}
use Rattle.model.specs.Tables.{read, refused}
use Rattle.model.proofs.RefusalNumbers.{Numbered9, read_numbered}
use Rattle.table.proofs.Readings.{refused_reading}
use Rattle.desk_model.specs.Desks.{open_told, told_place, told_refusal}
use Rattle.desk.specs.Promises.{Good}
use Rattle.desk.proofs.Opening.{no_desk_bad}
use Rattle.exports.proofs.desks.roskavel_desk_open.Goals as goal

pub returns-in-Err : goal.returns-in-Err
returns-in-Err c =
    let table = c.args.table.now in
    let r = c.in-Err.refusal in
    let is : read table ≡ refused r.number r.place = refused_reading (read table) r (sym c.read.ensures ∙ c.in-Err.is) in
    let told = sym (ap open_told is) in
    let numbers : Numbered9 (refused r.number r.place) = subst Numbered9 is (read_numbered table) in
    record {
      number = ap told_refusal told;
      place = ap told_place told;
      desk = λ z. absurd (omega (arith, numbers.0, z));
      without_desk = λ z. (c.no_desk.ensures, λ g. no_desk_bad (subst Good c.no_desk.ensures g));
    }
