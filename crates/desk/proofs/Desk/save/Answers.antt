-- A name that a check stops is refused, any other is held (Moving).
use mathlib.Core.Path.{sym, ◌∙◌}
use Rattle.desk_model.specs.Desks.{saves}
use Rattle.std.proofs.lemmas.Result.{err_from_is_err_and}
use Rattle.desk.proofs.Moving.{moves_stopped, save_stop, saved}
use Rattle.desk.proofs.Desk.save.Goals as goal

pub returns-in_err-check_name : goal.returns-in_err-check_name
returns-in_err-check_name c =
    let d = c.args.self.now in
    let a = c.from-i.result in
    let e = sym c.check_name.ensures ∙ c.in_err-check_name.was in
    let given = err_from_is_err_and c.from_residual.result c.from_residual.ensures.1 in
    rw (given.1, given.2, sym c.from-i.ensures) (moves_stopped d c.requires (saves a) _ (sym (save_stop d c.requires a) ∙ e))

pub returns : goal.returns
returns c =
    rw (sym c.from-i.ensures) (saved c.args.self.now c.requires c.from-i.result _ (sym c.check_name.ensures ∙ c.in_ok-check_name.was))
