-- What the desk's calls for C and Rust answer and leave.
use Rattle.std.specs.Prelude.{◌≡◌, List, ℕ}
use Rattle.desk_model.specs.Desks.{Call, Told, fires, open_told, told_place, told_processes, told_refusal}
use Rattle.model.specs.Tables.{read}
use Rattle.desk.specs.declared.Desk.{Desk}
use Rattle.desk.specs.Promises.{Good, Leaves, Opened, no_desk, outcome_of}
use Rattle.exports.specs.declared.desks.Fire.{Fire}
use Rattle.exports.specs.declared.desks.Opening.{Opening}

-- the number of the refusal, 0 if there is none, and the desk as the call leaves it
pub record DeskAnswers (c : Call) (d : Desk) (number : ℕ) (d' : Desk) : Type 0 where
  pub answer : number ≡ told_refusal (outcome_of c d).told
  pub leaves : Leaves c d d'

-- of a fire besides the processes of the rule's letter, 0 if it is refused
abbrev pub fire_told : Told → Fire
fire_told told = record { number = told_refusal told; processes = told_processes told }

pub record DeskFires (n : ℕ) (d : Desk) (f : Fire) (d' : Desk) : Type 0 where
  pub answer : f ≡ fire_told (outcome_of (fires n) d).told
  pub leaves : Leaves (fires n) d d'

-- the number and the place of the table's refusal, 0 and 0 if there is none; a desk exactly then
pub record DeskOpens (bytes : List ℕ) (o : Opening) : Type 0 where
  pub number : o.number ≡ told_refusal (open_told (read bytes))
  pub place : o.place ≡ told_place (open_told (read bytes))
  pub desk : o.number ≡ 0 → Opened bytes o.desk
  pub without_desk : (o.number ≡ 0 → ⊥) → (o.desk ≡ no_desk) × (Good o.desk → ⊥)
