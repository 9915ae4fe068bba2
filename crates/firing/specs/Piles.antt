-- A word that stands at the end of its buffer, and what firing a rule makes of it.
use Rattle.std.specs.Prelude.{◌≡◌, cond, List, ◌++◌, ℕ, ◌-◌, ◌<◌, ◌≤◌, ltb, length, take, drop, Result, Ok, Err}
use Rattle.std.proofs.Math.Option.{Option, none, some}
use Rattle.model.specs.Groups.{Processes, process_bits}
use Rattle.model.specs.Lists.{Each}
use Rattle.model.specs.Systems.{Configuration}
use Rattle.model.specs.declared.Placed.{Placed}
use Rattle.firing.specs.declared.Fired.{Fired}
use Rattle.firing.specs.declared.Stuck.{Stuck}
use Rattle.firing.specs.declared.Stuck.TheVariants.{Idle, Full}

-- the configuration whose word stands in the buffer from `top` to the end
abbrev pub configuration : List ℕ → Placed → Configuration
configuration pile c = record { states = c.states; word = drop c.top pile }

-- the word lies in the buffer, and its letters are numbers below n
pub record Stands (n : ℕ) (pile : List ℕ) (c : Placed) : Type 0 where
  pub inside : c.top ≤ length pile
  pub letters : Each (λ (a : ℕ). a < n) (drop c.top pile)

-- ---- what the call gives, from what the definition gives
-- L are the processes of the rule's letter; request 2.5: a fired rule tells them as bits
unfoldable pub firing : ℕ → Processes → Option Configuration → Result Fired Stuck
firing n L none = Err Idle
firing n L (some d) =
    cond (ltb n (length d.word)) (Err Full)
    (Ok (record { placed = record { states = d.states; top = n - length d.word }; processes = process_bits L }))

-- the new word at the buffer's end, what lies before it unchanged; nothing changes where the rule does not fire or the
-- word does not fit
unfoldable pub fired_pile : List ℕ → Option Configuration → List ℕ
fired_pile pile none = pile
fired_pile pile (some d) =
    cond (ltb (length pile) (length d.word)) pile (take (length pile - length d.word) pile ++ d.word)

pub record Fires (L : Processes) (o : Option Configuration) (pile pile' : List ℕ) (r : Result Fired Stuck) : Type 0 where
  pub answer : r ≡ firing (length pile) L o
  pub leaves : pile' ≡ fired_pile pile o
