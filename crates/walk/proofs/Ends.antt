-- The answer of a walk where its steps stopped.
use mathlib.Core.Path.{◌≡◌, ap, ap₂, sym, ◌∙◌}
use mathlib.Core.Bool.{Bool}
use mathlib.Core.List.{List}
use Prim.Native.Nat.{ℕ, ◌-◌}
use lib.ListN.{length, drop, length-drop}
use Rattle.std.specs.Prelude.{Option, Some, None, Result, Ok}
use Rattle.model.specs.declared.Ending.{Ending}
use Rattle.model.specs.declared.Refusal.{Refusal}
use Rattle.model.specs.Calls.{halt_end, refuse}
use Rattle.model.specs.Systems.{System, Configuration}
use Rattle.firing.specs.Piles.{configuration}
use Rattle.acceptance.specs.Sets.{accepts_from}
use Rattle.walk.specs.declared.Stop.{Stop}
use Rattle.walk.specs.Walking.{answer_at, answer_or}

-- ---- the answer
pub refused_answer : (sys : System) (s : Stop) (c : Configuration) (number : ℕ) → s.refusal ≡ Some number → refuse number s.at ≡ answer_at sys s c
refused_answer sys s c number e = sym (ap (λ (o : Option ℕ). answer_or (halt_end sys c).answer o s.at) e)

pub ended_answer : (sys : System) (s : Stop) (pile word : List ℕ) (watched : Bool) → s.refusal ≡ None → word ≡ drop s.placed.top pile → watched ≡ accepts_from sys word s.placed.states
    → Ok (record { states = s.placed.states; length = length pile - s.placed.top; watched = watched }) ≡ answer_at sys s (configuration pile s.placed)
unfolding accepts_from
ended_answer sys s pile word watched e q f =
    ap₂ ended (sym (length-drop s.placed.top pile)) (f ∙ ap (λ (w : List ℕ). accepts_from sys w s.placed.states) q)
    ∙ sym (ap (λ (o : Option ℕ). answer_or (halt_end sys (configuration pile s.placed)).answer o s.at) e)
  where
    ended : ℕ → Bool → Result Ending Refusal
    ended n b = Ok (record { states = s.placed.states; length = n; watched = b })
