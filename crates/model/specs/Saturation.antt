-- Section 4 of the paper: the sets of transitions δ(k).
use Rattle.std.specs.Prelude.{◌≡◌, ◌⊎◌, List, ℕ, zero, suc}
use Rattle.std.proofs.Math.Option.{some}
use Rattle.std.proofs.Math.ListN.{get_elem?}
use Rattle.model.specs.declared.Group.{Group}
use Rattle.model.specs.Lists.{Each}
use Rattle.model.specs.Groups.{Processes, restrict}
use Rattle.model.specs.Automata.{Transition, Along, label}
use Rattle.model.specs.Systems.{Rule, System, InAutomaton}

-- what a rule adds for a path from its after states that ends in e: the transition on its letter from its before states
-- to e
abbrev pub added : (ℕ → Processes) → Rule → Group → Transition
added loc r e = record { letter = r.letter; before = r.before; after = restrict (loc r.letter) e }

-- some rule adds t for some path over D that starts in its after states and reads its written letters
pub record Added (sys : System) (D : Transition → Type 0) (t : Transition) : Type 0 where
  pub number : ℕ
  pub rule : Rule
  pub is : get_elem? sys.rules number ≡ some rule
  pub path : List Transition
  pub goods : Each D path
  pub reads : label path ≡ rule.written
  pub end : Group
  pub along : Along sys.loc rule.after path end
  pub makes : t ≡ added sys.loc rule end

-- δ(0) is the automaton's own, and δ(k+1) has δ(k) and what is added over it
abbrev pub Delta : System → ℕ → Transition → Type 0
Delta sys zero t = InAutomaton sys t
Delta sys (suc k) t = Delta sys k t ⊎ Added sys (Delta sys k) t
