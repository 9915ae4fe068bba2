-- A name that a check stops is refused; else the desk stands at what is saved (Moving).
use mathlib.Core.Path.{sym, ◌∙◌}
use Rattle.desk_model.specs.Desks as Desks
use Rattle.std.proofs.lemmas.Result.{err_from_is_err_and}
use Rattle.desk.proofs.Moving.{moves_stopped, return_stop, returned}
use Rattle.desk.proofs.Desk.return_to.Goals as goal

pub returns-in_err-check_name : goal.returns-in_err-check_name
returns-in_err-check_name c =
    let d = c.args.self.now in
    let a = c.from-i.result in
    let e = sym c.check_name.ensures ∙ c.in_err-check_name.was in
    let given = err_from_is_err_and c.from_residual.result c.from_residual.ensures.1 in
    rw (given.1, given.2, sym c.from-i.ensures) (moves_stopped d c.requires (Desks.returns a) _ (sym (return_stop d c.requires a c.is_free.result c.is_free.ensures) ∙ e))

pub returns : goal.returns
returns c =
    rw (sym c.from-i.ensures) (returned c.args.self.now c.requires c.from-i.result _ c.is_free.result c.is_free.ensures (sym c.check_name.ensures ∙ c.in_ok-check_name.was))
