-- Definitions 4 and 8 of the paper: cooperating multi-pushdown systems, their steps, and the sets that an automaton
-- accepts. Document 01, "Words of the line".
use Rattle.std.specs.Prelude.{◌≡◌, Bool, cond, ◌&&◌, ℕ, ◌≤◌, max, eqb, length, take}
use Rattle.std.proofs.Math.Option.{Option, none, some}
use mathlib.Core.List.{List, [], ◌∷◌, ◌++◌, Memᴰ}
use Rattle.std.proofs.Math.ListN.{get_elem?}
use Rattle.model.specs.declared.Group.{Group}
use Rattle.model.specs.Lists.{Each, any_of, and_then, value_or}
use Rattle.model.specs.Groups.{Process, Processes, same_group, restrict, merge}
use Rattle.model.specs.Words.{Equivalent, project, height, tops, remove_first}
use Rattle.model.specs.Automata.{Transition, move, Along, label}

-- A transition of the system. Document 01: a rule, with its states before and after and its written tasks, top first.
pub record Rule : Type 0 where
  pub letter : ℕ
  pub before : Group
  pub after : Group
  pub written : List ℕ

-- A configuration, with a word that induces its trace. Document 01: a situation.
pub record Configuration : Type 0 where
  pub states : Group
  pub word : List ℕ

-- A cooperating system with an automaton over its states, and a start. `processes` are those that it has (document 01:
-- the stations 0 to k-1). At process i the states are the numbers below `states i`, the control states (document 01:
-- line states) those below `controls i`.
pub record System : Type 0 where
  pub loc : ℕ → Processes
  pub processes : Processes
  pub controls : Process → ℕ
  pub states : Process → ℕ
  pub rules : List Rule
  pub transitions : List Transition
  pub accepting : List Group
  pub start : Configuration

-- document 01: two situations are equal if states and all stations' own piles are equal
pub record Equal (loc : ℕ → Processes) (c d : Configuration) : Type 0 where
  pub states : c.states ≡ d.states
  pub words : Equivalent loc c.word d.word

-- ---- steps
-- Definition 4: (p, π(ax)) ⊢ (q, π(ux)) by the rule r that reads a and writes u, for the word x that is `below`
pub record Step (loc : ℕ → Processes) (r : Rule) (c d : Configuration) : Type 0 where
  pub below : List ℕ
  pub enabled : restrict (loc r.letter) c.states ≡ r.before
  pub read : Equivalent loc c.word (r.letter ∷ below)
  pub states : d.states ≡ merge (loc r.letter) r.after c.states
  pub written : Equivalent loc d.word (r.written ++ below)

-- the paper's ⊢ taken once for each rule number of the list
pub data Steps (sys : System) : List ℕ → Configuration → Configuration → Type 0 where
  stay : {c d : Configuration} → Equal sys.loc c d → Steps sys [] c d
  onward : {n : ℕ} {ns : List ℕ} {r : Rule} {c d e : Configuration} → get_elem? sys.rules n ≡ some r
      → Step sys.loc r c d → Steps sys ns d e → Steps sys (n ∷ ns) c e

-- document 01: a rule fires if its before states match and its task tops the own pile of each of its stations
unfoldable pub enabled : (ℕ → Processes) → Rule → Configuration → Bool
enabled loc r c = same_group (restrict (loc r.letter) c.states) r.before && tops loc r.letter c.word

-- document 01: the task's first occurrence is removed, the written tasks go in front of all that remains, the states
-- change
abbrev pub fired : (ℕ → Processes) → Rule → Configuration → Configuration
fired loc r c = record {
  states = merge (loc r.letter) r.after c.states;
  word = r.written ++ remove_first r.letter c.word;
}

unfoldable pub fire : (ℕ → Processes) → Rule → Configuration → Option Configuration
fire loc r c = cond (enabled loc r c) (some (fired loc r c)) none

-- the configuration after the rules of the list, fired in order; none if a number has no rule or a rule does not fire
-- in its turn
abbrev pub walk : System → List ℕ → Configuration → Option Configuration
walk sys [] c = some c
walk sys (n ∷ ns) c = and_then (get_elem? sys.rules n) (λ r. and_then (fire sys.loc r c) (walk sys ns))

-- request 2.2: peak, "the greatest length of any one station's own pile along the run, start included"
abbrev pub peak : System → List ℕ → Configuration → ℕ
peak sys [] c = height sys.loc c.word
peak sys (n ∷ ns) c = max (height sys.loc c.word) (value_or 0 (λ d. peak sys ns d) (walk sys (n ∷ []) c))

-- the same as a statement: no process's projection is longer than k after any first part of the run, the empty one
-- included, and after some part one is as long
pub record PeakIs (sys : System) (ns : List ℕ) (c : Configuration) (k : ℕ) : Type 0 where
  pub most : (j : ℕ) (d : Configuration) → walk sys (take j ns) c ≡ some d → (i : Process)
      → length (project sys.loc i d.word) ≤ k
  pub reached : (j : ℕ) × (d : Configuration) × (walk sys (take j ns) c ≡ some d) × (i : Process)
      × (length (project sys.loc i d.word) ≡ k)

-- ---- acceptance
-- Definition 8: some path of transitions in D leads from the states of c, over the word of c, to a group in F
pub record Accepts (loc : ℕ → Processes) (F : Group → Type 0) (D : Transition → Type 0)
    (c : Configuration) : Type 0 where
  pub path : List Transition
  pub reads : label path ≡ c.word
  pub goods : Each D path
  pub end : Group
  pub along : Along loc c.states path end
  pub accepting : F end

abbrev pub Accepting : System → Group → Type 0
Accepting sys g = Memᴰ g sys.accepting

abbrev pub InAutomaton : System → Transition → Type 0
InAutomaton sys t = Memᴰ t sys.transitions

-- Document 01: the situation is watched.
abbrev pub Accepted : System → Configuration → Type 0
Accepted sys c = Accepts sys.loc (Accepting sys) (InAutomaton sys) c

abbrev pub is_accepting : Group → List Group → Bool
is_accepting g acc = any_of (same_group g) acc

-- acceptance as a test: for the first letter some transition, then the rest of the word
abbrev pub accepts : (ℕ → Processes) → List Transition → List Group → List ℕ → Group → Bool
accepts loc ts acc [] g = is_accepting g acc
accepts loc ts acc (a ∷ w) g =
    any_of (λ (t : Transition). eqb t.letter a && same_group (restrict (loc a) g) t.before
    && accepts loc ts acc w (move loc t g)) ts

-- ---- runs
-- document 01: a run joins c and the watched set if its rules fire in turn from c on and the situation after the last
-- one is watched
pub record Joins (sys : System) (c : Configuration) (ns : List ℕ) : Type 0 where
  pub end : Configuration
  pub walks : walk sys ns c ≡ some end
  pub watched : Accepted sys end
