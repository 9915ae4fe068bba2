-- The figures of either answer, with the counts behind them.
use mathlib.Core.Path.{◌∙◌, ap, ap₂, sym}
use mathlib.Core.List.{List, ◌∷◌, ◌++◌}
use Prim.Native.Nat.{ℕ}
use Rattle.std.specs.Prelude.{Result}
use Rattle.model.specs.declared.Ending.{Ending}
use Rattle.model.specs.declared.Refusal.{Refusal}
use Rattle.model.specs.Calls.{walk_figures}
use Rattle.model.proofs.Lists.{by_places}
use Rattle.walk.proofs.put_figures.Goals as goal

pub returns-in-Ok : goal.returns-in-Ok
returns-in-Ok c =
    let a = c.args in
    let g = c.in-Ok.end in
    rw (c.from.ensures, c.from-in-Ok.ensures, c.from-in-Ok-2.ensures, c.from-in-Ok-3.ensures)
    (ap₂ (λ (n : ℕ) (counts : List ℕ). 0 ∷ 0 ∷ n ∷ g.length ∷ g.states.s0 ∷ g.states.s1 ∷ g.states.s2 ∷ g.states.s3 ∷ counts) c.watched_figure.ensures (by_places 0 4 a.counts c.requires)
    ∙ sym (ap (λ (x : Result Ending Refusal). walk_figures x ++ a.counts) c.in-Ok.is))

pub returns-in-Err : goal.returns-in-Err
returns-in-Err c =
    let a = c.args in
    let g = c.in-Err.refusal in
    rw c.from-in-Err.ensures (ap (λ (counts : List ℕ). g.number ∷ g.place ∷ 0 ∷ 0 ∷ 0 ∷ 0 ∷ 0 ∷ 0 ∷ counts) (by_places 0 4 a.counts c.requires)
    ∙ sym (ap (λ (x : Result Ending Refusal). walk_figures x ++ a.counts) c.in-Err.is))
