-- The struct `Desk`: what it shows of a desk, what always holds of one that was opened, and what each call promises.
use Rattle.std.specs.Prelude.{◌≡◌, true, false, cond, List, [], ◌∷◌, map, ℕ, ◌≤◌, length, take, replicate, Result, Ok}
use Rattle.std.proofs.Math.Option.{Option, none, some}
use Rattle.model.specs.Calls.{filled}
use Rattle.desk_model.specs.Desks.{Call, Contents, DeskOutcome, HistoriesLead, Leads, Told, desk_call, desk_pile}
use Rattle.desk_model.specs.Desks.{name_count, note_calls, open_told, opened, told_by, told_refusal, uncounted}
use Rattle.desk_model.specs.Desks.{unwritten}
use Rattle.model.specs.declared.Refusal.{Refusal}
use Rattle.model.specs.Lists.{Each}
use Rattle.model.specs.Systems.{System, Configuration}
use Rattle.model.specs.Tables.{longest, read}
use Rattle.table.specs.declared.Table.{Table}
use Rattle.table.specs.Reading.{Holds, system_in}
use Rattle.table.specs.Reading as Reading
use Rattle.model.specs.declared.Placed.{Placed}
use Rattle.firing.specs.Piles.{configuration}
use Rattle.steps.specs.Stepping.{InShape}
use Rattle.desk.specs.declared.Counts.{Counts}
use Rattle.desk.specs.declared.Desk.{Desk}
use Rattle.desk.specs.declared.Named.{Named}
use Rattle.desk.specs.declared.Sight.{Sight}

-- ---- what it shows
-- its own copy of the accepted table
abbrev pub table_of : Desk → List ℕ
table_of d = take d.size d.bytes

-- at the front of its buffer, zeros behind it
abbrev pub copy_of : List ℕ → List ℕ
copy_of bytes = filled bytes (replicate longest 0)

abbrev pub system_on : Desk → System
system_on d = system_in (table_of d)

-- what is saved under a name; a word stands at the end of its buffer, and what lies before it is of no account
abbrev pub saved_in : Named → Option Configuration
saved_in s = cond s.held (some (configuration s.pile s.placed)) none

abbrev pub shown : Desk → Contents
shown d = record { here = configuration d.pile d.placed; names = map saved_in d.names; counts = d.counts }

-- ---- what always holds
pub record GoodName (t : Table) (s : Named) : Type 0 where
  pub size : length s.pile ≡ desk_pile
  pub shape : s.held ≡ true → InShape t s.pile s.placed

-- Every call asks it of the desk and leaves it so; an opening that is not refused gives it.
pub record Good (d : Desk) : Type 0 where
  pub inside : d.size ≤ length d.bytes
  pub holds : Holds (table_of d) d.table
  pub shape : InShape d.table d.pile d.placed
  pub size : length d.pile ≡ desk_pile
  pub count : length d.names ≡ name_count
  pub counts : length d.counts ≡ 4
  pub names : Each (GoodName d.table) d.names

-- ---- what a call promises
abbrev pub outcome_of : Call → Desk → DeskOutcome
outcome_of c d = desk_call (system_on d) (shown d) c

-- what it leaves: the desk shows what the definition says, on the same table; refused, it is the same desk in every
-- byte
pub record Leaves (c : Call) (d d' : Desk) : Type 0 where
  pub contents : shown d' ≡ (outcome_of c d).contents
  pub table : table_of d' ≡ table_of d
  pub copy : d'.bytes ≡ d.bytes
  pub unchanged : (told_refusal (outcome_of c d).told ≡ 0 → ⊥) → d' ≡ d
  pub good : Good d'

pub record Moves (c : Call) (d : Desk) (told : Told) (d' : Desk) : Type 0 where
  pub answer : told ≡ (outcome_of c d).told
  pub leaves : Leaves c d d'

-- what a look shows: the states, the length of the word, and the word at the front of its buffer, zeros behind it
abbrev pub sight_of : Configuration → Sight
sight_of c = record { states = c.states; length = length c.word; pile = filled c.word (replicate desk_pile 0) }

-- what a count shows
abbrev pub counts_of : Contents → Counts
counts_of s = record { steps = s.counts }

-- ---- opening
-- a desk on these bytes: its copy of them, at the start, no name held
pub record Opened (bytes : List ℕ) (d : Desk) : Type 0 where
  pub table : table_of d ≡ bytes
  pub copy : d.bytes ≡ copy_of bytes
  pub contents : shown d ≡ opened (system_in bytes)
  pub good : Good d

-- "one that meets 1 to 9 is refused so, and there is then no desk to call"
pub record Opens (bytes : List ℕ) (r : Result Desk Refusal) : Type 0 where
  pub answer : told_by r ≡ open_told (read bytes)
  pub desk : (d : Desk) → r ≡ Ok d → Opened bytes d

-- what stands in the place of a desk where there is none
abbrev pub nowhere : Placed
nowhere = record { states = record { s0 = 0; s1 = 0; s2 = 0; s3 = 0 }; top = 0 }

abbrev pub no_desk : Desk
no_desk = record {
  size = 0;
  table = Reading.counts_of [];
  placed = nowhere;
  counts = uncounted;
  bytes = replicate longest 0;
  pile = replicate desk_pile 0;
  names = replicate name_count (record { held = false; placed = nowhere; pile = replicate desk_pile 0 });
}

-- ---- a desk and the calls that led to it
pub data Called : Desk → List Call → Desk → Type 0 where
  uncalled : {d : Desk} → Called d [] d
  called : {d d' e : Desk} {c : Call} {cs : List Call} → Leaves c d d' → Called d' cs e → Called d (c ∷ cs) e

-- After these calls on a desk opened on these bytes: its copy of the table is still those bytes, it stands where a walk
-- of its current history on them stands, and each name where a walk of its own does, and its counts are those of the
-- fires since it was opened or last returned.
pub record Accounted (bytes : List ℕ) (cs : List Call) (d : Desk) : Type 0 where
  pub table : table_of d ≡ bytes
  pub copy : d.bytes ≡ copy_of bytes
  pub stands : HistoriesLead (system_in bytes) (Leads bytes (system_in bytes))
      (note_calls (system_in bytes) (opened (system_in bytes)) unwritten cs) (shown d)
