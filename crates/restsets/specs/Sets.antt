-- Sets of states in the scratch, by the byte where each begins.
use Rattle.std.specs.Prelude.{◌≡◌, false, List, [], ◌∷◌, ◌++◌, ℕ, take, drop}
use Rattle.states.specs.StateSets.{set_length, member, inserted}
use Rattle.rings.specs.Rings.{OutsideSame}
use Rattle.rests.specs.Rests.{set_at}

-- the scratch with another set
abbrev pub with_set : List ℕ → ℕ → List ℕ → List ℕ
with_set s at members = take at s ++ (members ++ drop set_length (drop at s))

-- the set with one state more
unfoldable pub with_state : List ℕ → ℕ → ℕ → List ℕ
with_state s at x = with_set s at (inserted (set_at s at) x)

-- and with several more, one after the other
abbrev pub with_states : List ℕ → ℕ → List ℕ → List ℕ
with_states s at [] = s
with_states s at (x ∷ xs) = with_states (with_state s at x) at xs

-- it has no state
abbrev pub EmptySet : List ℕ → ℕ → Type 0
EmptySet s at = (x : ℕ) → member (set_at s at) x ≡ false

-- nothing else has changed
abbrev pub OnlySet : ℕ → List ℕ → List ℕ → Type 0
OnlySet at s t = OutsideSame set_length at s t
