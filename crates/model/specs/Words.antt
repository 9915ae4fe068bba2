-- Section 2 of the paper: words over a distributed alphabet, their projections, and words that induce the same trace. A
-- letter is a number; `loc a` is the set of its processes. Document 01: a letter is a task, a word is a pile, top
-- first.
use Rattle.std.specs.Prelude.{◌≡◌, Bool, true, false, cond, not, ◌||◌, List, [], ◌∷◌, ℕ, eqb, length}
use Rattle.model.specs.Groups.{Process, every, greatest, Processes, has}

abbrev pub keep : Bool → ℕ → List ℕ → List ℕ
keep true a w = a ∷ w
keep false a w = w

-- The paper's projection to process i. Document 01: a station's own pile, the word without the tasks it has no part in.
abbrev pub project : (ℕ → Processes) → Process → List ℕ → List ℕ
project loc i [] = []
project loc i (a ∷ w) = keep (has (loc a) i) a (project loc i w)

-- The greatest length of any process's projection. Request 2.2: of any one station's own pile; that of a station which
-- the table lacks is empty.
abbrev pub height : (ℕ → Processes) → List ℕ → ℕ
height loc w = greatest (λ i. length (project loc i w))

-- The words induce the same trace. Document 01: all stations' own piles are equal.
abbrev pub Equivalent : (ℕ → Processes) → List ℕ → List ℕ → Type 0
Equivalent loc w v = (i : Process) → project loc i w ≡ project loc i v

abbrev pub starts_with : ℕ → List ℕ → Bool
starts_with a [] = false
starts_with a (b ∷ w) = eqb b a

-- document 01: the task tops the own pile of each of its stations
unfoldable pub tops : (ℕ → Processes) → ℕ → List ℕ → Bool
tops loc a w = every (λ i. not (has (loc a) i) || starts_with a (project loc i w))

-- document 01: the task's first occurrence is removed
abbrev pub remove_first : ℕ → List ℕ → List ℕ
remove_first a [] = []
remove_first a (b ∷ w) = cond (eqb b a) w (b ∷ remove_first a w)
