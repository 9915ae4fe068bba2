-- What the parts of firing find and leave: the place of the letter, the letters moved, the letters written.
use Rattle.std.specs.Prelude.{◌≡◌, cond, List, [], ◌∷◌, ◌++◌, ℕ, suc, ◌+◌, ◌-◌, ◌<◌, ◌≤◌, eqb, length, take, drop, Option, Some, None}
use Rattle.model.specs.Groups.{Processes, apart_test, restrict, same_group}
use Rattle.model.specs.Systems.{Rule}
use Rattle.model.specs.declared.Placed.{Placed}

-- from the top: the place in the word of a, which no letter above it shares a process with; the word's length where
-- there is none
unfoldable pub place : (ℕ → Processes) → ℕ → List ℕ → ℕ
place loc a [] = 0
place loc a (b ∷ w) = cond (eqb b a) 0 (cond (apart_test (loc a) (loc b)) (suc (place loc a w)) (suc (length w)))

-- the place in the buffer of the letter at which the rule fires; the buffer's length where it does not fire
unfoldable pub firing_place : (ℕ → Processes) → Rule → List ℕ → Placed → ℕ
firing_place loc r pile c =
    cond (same_group (restrict (loc r.letter) c.states) r.before)
    (c.top + place loc r.letter (drop c.top pile)) (length pile)

-- the place p, if it is one of the n of the buffer
abbrev pub PlaceFound : ℕ → ℕ → Option ℕ → Type 0
PlaceFound n p (Some q) = (q ≡ p) × (p < n)
PlaceFound n p None = n ≤ p

-- the letters from `top` up to p one place on, over the one at p
unfoldable pub closed : List ℕ → ℕ → ℕ → List ℕ
closed l top p = take (top + 1) l ++ (take (p - top) (drop top l) ++ drop (p + 1) l)

-- the letter at p taken away, and the letters u in front of the word
unfoldable pub rewritten : List ℕ → ℕ → ℕ → List ℕ → List ℕ
rewritten l top p u = take (top + 1 - length u) l ++ (u ++ (take (p - top) (drop top l) ++ drop (p + 1) l))
