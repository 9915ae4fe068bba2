-- Sets of states that a word is read with: which words a set accepts, and where the two sets stand in the scratch.
use Rattle.std.specs.Prelude.{◌≡◌, Bool, false, ◌&&◌, ◌||◌, List, ℕ, zero, suc, eqb, take, drop}
use Rattle.model.specs.declared.Group.{Group}
use Rattle.model.specs.Automata.{Transition, move}
use Rattle.model.specs.Groups.{Processes, restrict, same_group}
use Rattle.model.specs.Systems.{System, accepts}
use Rattle.states.specs.StateNumbers.{state_count, group_numbered}
use Rattle.states.specs.StateSets.{set_length, member}

-- some number below n passes the test
unfoldable pub some_below : (ℕ → Bool) → ℕ → Bool
some_below f zero = false
some_below f (suc n) = some_below f n || f n

-- the automaton accepts the word from g
unfoldable pub accepts_from : System → List ℕ → Group → Bool
accepts_from sys w g = accepts sys.loc sys.transitions sys.accepting w g

-- the test of one number: it is in the set, and the word is accepted from its group
abbrev pub member_accepts : System → Processes → List ℕ → List ℕ → ℕ → Bool
member_accepts sys L members w m = member members m && accepts_from sys w (group_numbered L m)

-- some state in the set accepts the word
unfoldable pub some_accepts : System → Processes → List ℕ → List ℕ → Bool
some_accepts sys L members w = some_below (member_accepts sys L members w) state_count

-- the transition reads the letter a in g and leads to a state that accepts w
unfoldable pub leads : System → ℕ → Group → List ℕ → Transition → Bool
leads sys a g w t =
    eqb t.letter a && same_group (restrict (sys.loc a) g) t.before && accepts_from sys w (move sys.loc t g)

-- members' accepts what `members` does, and the words that pass the test
pub record Extends (sys : System) (L : Processes) (members members' : List ℕ) (test : List ℕ → Bool) : Type 0 where
  pub words : (w : List ℕ) → some_accepts sys L members' w ≡ some_accepts sys L members w || test w

-- the two sets: the states after the letters read so far, and those after one letter more
abbrev pub here : List ℕ → List ℕ
here scratch = take set_length scratch

abbrev pub there : List ℕ → List ℕ
there scratch = take set_length (drop set_length scratch)
