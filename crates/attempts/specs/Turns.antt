-- The turns of an attempt: where it stands, and what the records tried so far have shown.
use Rattle.std.specs.Prelude.{◌≡◌, Bool, true, List, [], ◌∷◌, ◌++◌, map, ℕ, ◌+◌, ◌-◌, ◌*◌, ◌<◌, ◌≤◌, length, drop}
use Rattle.model.specs.declared.Group.{Group}
use Rattle.model.specs.Groups.{restrict}
use Rattle.model.specs.Log.{Path, push, extend, paths, log_at}
use Rattle.model.specs.Records.{number_at}
use Rattle.model.specs.Unfolding.{first_accepting}
use Rattle.states.specs.StateSets.{first_from}
use Rattle.records.specs.Entries.{HasRecord}
use Rattle.packs.specs.Packs.{packed, mask_of, packed_restrict, packed_merge, packed_before}
use Rattle.rings.specs.Rings.{record_reads, OutsideSame}
use Rattle.scratch.specs.Regions.{stack_at}
use Rattle.scratch.specs.StackNumbers.{stack_place}
use Rattle.table.specs.declared.Table.{Table}
use Rattle.table.specs.Reading.{Holds, saturated_in, system_in, pile_in}
use Rattle.logs.specs.RoundLogs.{EachRound}
use Rattle.rests.specs.declared.Scope.{Scope}
use Rattle.rests.specs.Rests.{processes_of_table, zeroed_group, path_from}
use Rattle.attempts.specs.declared.Span.{Span}
use Rattle.attempts.specs.declared.Stand.{Stand}
use Rattle.attempts.specs.declared.Tried.{Tried}
use Rattle.std.specs.declared.ops.ControlFlow.{ControlFlow}
use Rattle.std.specs.declared.ops.ControlFlow.TheVariants.{Continue, Break}
use Rattle.attempts.specs.Attempts.{Ready, trail, state_by, state_along, Shown}

-- ---- one place
-- an attempt before letter k: in a state, as one number; the record to be tried next, and the tries left
abbrev pub stand_at : List ℕ → ℕ → ℕ → ℕ → ℕ → Stand
stand_at table k m r tries = record {
  place = k;
  letter = pile_in table k;
  mask = mask_of ((system_in table).loc (pile_in table k));
  state = m;
  next = r;
  left = tries;
}

abbrev pub with_next : Stand → ℕ → ℕ → Stand
with_next x r tries = record {
  place = x.place;
  letter = x.letter;
  mask = x.mask;
  state = x.state;
  next = r;
  left = tries;
}

-- record r reads the letter where an attempt stands
abbrev pub reads_here : List ℕ → Stand → ℕ → Bool
reads_here log x r = record_reads log x.letter (packed_restrict x.mask x.state) r

-- the first such record is next
unfoldable pub entered : List ℕ → List ℕ → Scope → ℕ → ℕ → ℕ → Stand
entered table log c k m tries =
    let x = stand_at table k m 0 tries in with_next x (first_from (reads_here log x) 0 c.count) tries

-- the first such record after the one that was next
unfoldable pub followed : List ℕ → Scope → Stand → ℕ → Stand
followed log c x tries =
    with_next x (first_from (reads_here log x) (x.next + 1) (c.count - (x.next + 1))) tries

-- the last record on the stack
abbrev pub last_number : Table → List ℕ → Stand → ℕ
last_number t s x = number_at 2 s (stack_place (t.pile - x.place))

-- where it was tried: the state is that after it with its states before taken over
unfoldable pub returned : List ℕ → Table → List ℕ → List ℕ → Stand → Stand
returned table t log s x =
    let r = last_number t s x in
    let k = x.place - 1 in
    stand_at table k
    (packed_merge (mask_of ((system_in table).loc (pile_in table k))) (packed_before log r) x.state) r x.left

pub record Returning (table : List ℕ) (t : Table) (log s : List ℕ) (x : Stand) : Type 0 where
  pub holds : Holds table t
  pub later : 0 < x.place
  pub inside : x.place ≤ t.pile
  pub room : stack_place (t.pile - x.place) + 2 ≤ length s
  pub there : HasRecord log (last_number t s x)

-- ---- the records tried so far
-- record r reads letter k in the state g
abbrev pub reads_in : List ℕ → Table → List ℕ → ℕ → Group → ℕ → Bool
reads_in table t log k g r =
    record_reads log (pile_in table k)
    (packed (restrict ((system_in table).loc (pile_in table k)) (zeroed_group (processes_of_table t) g))) r

-- the records on the stack read their letters, from letter k on in the state g
abbrev pub Taken : List ℕ → Table → List ℕ → Scope → ℕ → Group → List ℕ → Type 0
Taken table t log c k g [] = Unit {0}
Taken table t log c k g (r ∷ ns) =
    (r < c.limit) × (reads_in table t log k g r ≡ true) × Taken table t log c (k + 1) (state_by table log k r g) ns

-- the paths of the rest from letter k on whose first record is r or a later one
abbrev pub paths_from : List ℕ → ℕ → ℕ → Group → ℕ → List Path
paths_from table round k g r =
    extend (system_in table).loc (pile_in table k) g
    (λ h. paths (system_in table).loc (log_at (saturated_in table) round) (drop (k + 1) (system_in table).start.word) h)
    (drop r (log_at (saturated_in table) round)) r

-- the paths that go by these records and then as `last` says, and behind them those with a later record for one of
-- these: in the order of their record numbers
abbrev pub paths_left : List ℕ → List ℕ → ℕ → ℕ → Group → List ℕ → List Path → List Path
paths_left table log round k g [] last = last
paths_left table log round k g (r ∷ ns) last =
    map (push r) (paths_left table log round (k + 1) (state_by table log k r g) ns last)
    ++ paths_from table round k g (r + 1)

-- ---- where an attempt stands
-- the state behind the records on the stack
abbrev pub here_state : List ℕ → Table → List ℕ → Span → Group → List ℕ → Stand → Group
here_state table t log span g s x = state_along table log span.low (trail t span.low x.place s) g

-- it stands before a letter of the span, in that state
pub record AtPlace (table : List ℕ) (t : Table) (log : List ℕ) (c : Scope) (span : Span) (g : Group)
    (s : List ℕ) (x : Stand) : Type 0 where
  pub ready : Ready table t log c span g s
  pub from : span.low ≤ x.place
  pub below : x.place < span.high
  pub letter : x.letter ≡ pile_in table x.place
  pub processes : x.mask ≡ mask_of ((system_in table).loc (pile_in table x.place))
  pub state : x.state ≡ packed (zeroed_group (processes_of_table t) (here_state table t log span g s x))
  pub taken : Taken table t log c span.low g (trail t span.low x.place s)

-- the first accepting path is among those that go on from there by record r or a later one, and those behind them
abbrev pub AmongLeft : List ℕ → Table → List ℕ → Scope → Span → Group → List ℕ → Stand → ℕ → Type 0
AmongLeft table t log c span g s x r =
    EachRound table t log c.limit (λ (round : ℕ).
    path_from table round span.low g
    ≡ first_accepting (saturated_in table).accepting
    (paths_left table log round span.low g (trail t span.low x.place s)
    (paths_from table round x.place (here_state table t log span g s x) r)))

-- and the record to be tried next, if there is one, reads the letter
pub record OnWay (table : List ℕ) (t : Table) (log : List ℕ) (c : Scope) (span : Span) (g : Group)
    (s : List ℕ) (x : Stand) : Type 0 where
  pub at : AtPlace table t log c span g s x
  pub reads : x.next < c.limit → reads_in table t log x.place (here_state table t log span g s x) x.next ≡ true
  pub left : AmongLeft table t log c span g s x x.next

-- what falls: a try takes one off the tries left, a step back one off the place
abbrev pub weight : Stand → ℕ
weight x = 65 * x.left + x.place

abbrev pub TurnsTo : List ℕ → Table → List ℕ → Scope → Span → Group → Stand → List ℕ → ControlFlow Tried Stand → Type 0
TurnsTo table t log c span g x s (Continue y) = OnWay table t log c span g s y × (weight y < weight x)
TurnsTo table t log c span g x s (Break a) = Shown table t log c span g s a

pub record Turned (table : List ℕ) (t : Table) (log : List ℕ) (c : Scope) (span : Span) (g : Group) (x : Stand)
    (s s' : List ℕ) (r : ControlFlow Tried Stand) : Type 0 where
  pub same : OutsideSame 128 stack_at s s'
  pub to : TurnsTo table t log c span g x s' r

-- an attempt stands there on its way from some state; what holds of every such state
abbrev pub SomeWay : List ℕ → Table → List ℕ → Scope → Span → List ℕ → Stand → Type 0
SomeWay table t log c span s x = (g : Group) × OnWay table t log c span g s x

abbrev pub EachWay : List ℕ → Table → List ℕ → Scope → Span → Stand → List ℕ → List ℕ → ControlFlow Tried Stand → Type 0
EachWay table t log c span x s s' r =
    (g : Group) → OnWay table t log c span g s x → Turned table t log c span g x s s' r
