-- Request 2.8, "No verdict, transition or round moves": logs of one system that differ in the reasons of their records,
-- and what they have in common.
use Rattle.std.specs.Prelude.{◌≡◌, true, false, ℕ, zero, suc, length}
use mathlib.Core.List.{List, Memᴰ, [], ◌∷◌, ◌++◌, map}
use Rattle.model.specs.Automata.{Transition}
use Rattle.model.specs.Lists.{Each}
use Rattle.model.specs.Systems.{System, Configuration}
use Rattle.model.specs.Log.{Record, Candidate, candidates, key_less, in_log, added_record, additions, log_at, keys}
use Rattle.model.specs.Log.{rounds}
use Rattle.model.specs.Unfolding.{accepting_path}

-- transitions in the order of the records of a round, no two alike
abbrev pub KeysRise : List Transition → Type 0
KeysRise [] = Unit {0}
KeysRise (t ∷ ts) = Each (λ (u : Transition). key_less t u ≡ true) ts × KeysRise ts

-- What a round may add to a log: for each transition that some rule adds there and the log lacks, one of the rules that
-- add it, whichever, with one of its paths.
pub record Choice (sys : System) (log : List Record) (cs : List Candidate) : Type 0 where
  pub reasons : Each (λ (c : Candidate). Memᴰ c (candidates sys.loc log sys.rules 0)) cs
  pub lacking : Each (λ (c : Candidate). in_log c.key log ≡ false) cs
  pub whole : (c : Candidate) → Memᴰ c (candidates sys.loc log sys.rules 0) → in_log c.key log ≡ false
      → Memᴰ c.key (map (λ (d : Candidate). d.key) cs)
  pub ordered : KeysRise (map (λ (c : Candidate). c.key) cs)

-- the log of the next round by such a choice
pub record ChosenRound (sys : System) (k : ℕ) (earlier log : List Record) : Type 0 where
  pub chosen : List Candidate
  pub choice : Choice sys earlier chosen
  pub is : log ≡ earlier ++ map (added_record k earlier) chosen

-- a log of rounds up to k, with a choice in each
abbrev pub ChosenLog : System → ℕ → List Record → Type 0
ChosenLog sys zero log = log ≡ log_at sys 0
ChosenLog sys (suc k) log = (earlier : List Record) × ChosenLog sys k earlier × ChosenRound sys (suc k) earlier log

-- two logs that are alike but for the reasons of their records, and the steps that these make
pub record SameButReasons (sys : System) (log other : List Record) : Type 0 where
  -- the same transitions in the same order, so that records have the same numbers; each in the same round
  pub transitions : keys log ≡ keys other
  pub each_round : map (λ (r : Record). r.round) log ≡ map (λ (r : Record). r.round) other
  -- so the same figures, and the same verdict: the first accepting path has the same record numbers, or neither has one
  pub transition_count : length log ≡ length other
  pub highest_round : rounds log ≡ rounds other
  pub verdict : (c : Configuration) → accepting_path sys log c ≡ accepting_path sys other c
  -- and the next round finds the same for both, so that rounds end alike
  pub next : additions sys log ≡ additions sys other
