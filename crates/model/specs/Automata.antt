-- Definition 2 of the paper: asynchronous automata by their local transitions; paths.
use Rattle.std.specs.Prelude.{◌≡◌, List, [], ◌∷◌, ℕ}
use Rattle.model.specs.declared.Group.{Group}
use Rattle.model.specs.Groups.{Processes, restrict, merge}

-- a local transition: both groups speak of the letter's processes alone and have 255 elsewhere
pub record Transition : Type 0 where
  pub letter : ℕ
  pub before : Group
  pub after : Group

-- the global state that t leads to: its after states at its letter's processes, the others as they were
abbrev pub move : (ℕ → Processes) → Transition → Group → Group
move loc t g = merge (loc t.letter) t.after g

-- the transitions of the list, one after the other, lead from g to f
abbrev pub Along : (ℕ → Processes) → Group → List Transition → Group → Type 0
Along loc g [] f = g ≡ f
Along loc g (t ∷ ts) f = (restrict (loc t.letter) g ≡ t.before) × Along loc (move loc t g) ts f

-- the word that a path reads
abbrev pub label : List Transition → List ℕ
label [] = []
label (t ∷ ts) = t.letter ∷ label ts
