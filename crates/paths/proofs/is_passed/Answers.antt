-- A state is passed if its bit of either set is 1; with a record of the last round both sets are one.
use mathlib.Core.Path.{◌≡◌, refl, ap, sym, ◌∙◌}
use mathlib.Core.Bool.{Bool}
use mathlib.Core.List.{List}
use Prim.Native.Nat.{ℕ, ◌+◌}
use Rattle.states.specs.StateSets.{member}
use Rattle.paths.specs.Jobs.{is_passed}
use Rattle.paths.proofs.is_passed.Goals as goal

-- the first test
first : (s : List ℕ) (m n x : ℕ) (b : Bool) → m ≡ n → b ≡ member s (m + x) → member s (n + x) ≡ b
first s m n x b e h = ap (λ (k : ℕ). member s (k + x)) (sym e) ∙ sym h

pub returns-then-contains : goal.returns-then-contains
unfolding is_passed
returns-then-contains c = rw (first _ _ _ _ _ c.slot.ensures.0 c.contains.ensures ∙ c.if-contains.true) c.if-contains.true

pub returns-then-not-found : goal.returns-then-not-found
unfolding is_passed
returns-then-not-found c =
    rw (c.if-not-found.true, first _ _ _ _ _ c.slot.ensures.0 c.contains.ensures ∙ c.if-contains.false)
    (sym (first _ _ _ _ _ c.slot-then-not-found.ensures.0 c.contains-then-not-found.ensures))

pub returns-else-not-found : goal.returns-else-not-found
unfolding is_passed
returns-else-not-found c =
    rw (c.if-not-found.false, first _ _ _ _ _ c.slot.ensures.0 c.contains.ensures ∙ c.if-contains.false) refl
