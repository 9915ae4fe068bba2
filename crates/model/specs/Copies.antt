-- Lemma 10 of the paper, and request 2.6: the copy of an automaton. It accepts the same configurations of control
-- states, and enters no control state.
use Rattle.std.specs.Prelude.{Bool, cond, not, ◌||◌, List, [], ◌∷◌, ◌++◌, map, ℕ, zero, suc, ◌+◌, leb}
use Rattle.model.specs.declared.Group.{Group}
use Rattle.model.specs.Lists.{all_of, concat_map, filter}
use Rattle.model.specs.Groups.{Process, every, at, build, Processes, has, processes_of, within_test, restrict}
use Rattle.model.specs.Groups.{merge}
use Rattle.model.specs.Automata.{Transition}
use Rattle.model.specs.Systems.{System}

-- the form that Lemma 10 yields: at every process of the letter the state after is no control state
unfoldable pub leaves_control : (ℕ → Processes) → (Process → ℕ) → Transition → Bool
leaves_control loc controls t = every (λ i. not (has (loc t.letter) i) || leb (controls i) (at t.after i))

-- "If any watch transition enters a line state"
unfoldable pub reenters : System → Bool
reenters sys = not (all_of (leaves_control sys.loc sys.controls) sys.transitions)

-- "each station gets a second set of states, numbered s plus the old number": the copies of a group's states
unfoldable pub copies : (Process → ℕ) → Group → Group
copies states g = build (λ i. states i + at g i)

-- the sets of processes by their bits, and those within a set
abbrev pub sets_below : ℕ → List Processes
sets_below zero = []
sets_below (suc n) = sets_below n ++ processes_of n ∷ []

unfoldable pub subsets : Processes → List Processes
subsets L = filter (λ M. within_test M L) (sets_below 16)

-- "plain or copied states, in every mixture": copied at the processes of M and plain at the others, for each set M
-- within L
unfoldable pub mixed : (Process → ℕ) → Processes → Group → Group
mixed states M g = merge M (copies states g) g

unfoldable pub mixtures : (Process → ℕ) → Processes → Group → List Group
mixtures states L g = map (λ M. mixed states M g) (subsets L)

-- "A transition goes from plain or copied states, in every mixture over its task's stations, to copied ones only."
abbrev pub copy_from : (ℕ → Processes) → (Process → ℕ) → Transition → Group → Transition
copy_from loc states t g = record {
  letter = t.letter;
  before = g;
  after = restrict (loc t.letter) (copies states t.after);
}

unfoldable pub copied : (ℕ → Processes) → (Process → ℕ) → Transition → List Transition
copied loc states t = map (copy_from loc states t) (mixtures states (loc t.letter) t.before)

-- The system whose automaton is saturated: if some transition enters a control state it has the copy, and else its own
-- automaton. "A group, plain, copied or mixed, accepts exactly if its plain version does."
abbrev pub with_copy : System → System
with_copy sys = record {
  loc = sys.loc;
  processes = sys.processes;
  controls = sys.controls;
  states = λ i. cond (reenters sys) (sys.states i + sys.states i) (sys.states i);
  rules = sys.rules;
  transitions = cond (reenters sys) (concat_map (copied sys.loc sys.states) sys.transitions) sys.transitions;
  accepting = cond (reenters sys) (concat_map (mixtures sys.states sys.processes) sys.accepting)
      sys.accepting;
  start = sys.start;
}
