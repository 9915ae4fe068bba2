-- Twelve figures read one by one are the whole list, with the place between the eighth and the ninth.
use mathlib.Core.Path.{ap}
use mathlib.Core.List.{List, ◌∷◌, ◌++◌}
use Prim.Native.Nat.{ℕ}
use lib.ListN.{take, drop}
use Rattle.model.proofs.Lists.{by_places}
use Rattle.exports.specs.Figures.{sixteen}
use Rattle.exports.proofs.put_walk.Goals as goal

pub returns : goal.returns
returns c =
    ap (λ (l : List ℕ). sixteen (take 8 l ++ (c.args.from ∷ drop 8 l))) (by_places 0 12 c.args.values.now c.requires)
