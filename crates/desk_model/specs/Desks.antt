-- Request 2.1, named situations at the desk: what a desk holds, the checks of its calls, what each call does, and the
-- histories of fires that its calls note. Request 2.5: who took part since it was opened or last returned. A situation
-- is a configuration here.
use Rattle.std.specs.Prelude.{◌≡◌, Bool, false, cond, List, [], ◌∷◌, ◌++◌, map, ℕ, zero, suc, ◌≤◌, min, ltb, leb, length, get_or, set, replicate, Result, Ok, Err}
use Rattle.std.proofs.Math.Option.{Option, none, some}
use Rattle.std.proofs.Math.ListN.{get_elem?}
use Rattle.model.specs.declared.Refusal.{Refusal}
use Rattle.model.specs.Lists.{is_missing, value_or}
use Rattle.model.specs.Groups.{at_each, process_bits}
use Rattle.model.specs.Systems.{System, Configuration, walk}
use Rattle.model.specs.Participation.{rule_processes, step_counts, with_step}
use Rattle.model.specs.Tables.{Reading, accepted, refused}
use Rattle.model.specs.Calls.{filled, halt_end, walk_call, walk_scratch, zeros}

-- ---- what a desk holds
-- "a pile of up to 256 tasks and up to 8 named situations, names 0 to 7"
abbrev pub desk_pile : ℕ
desk_pile = 256

abbrev pub name_count : ℕ
name_count = 8

-- "A desk's count stops at 4,294,967,295."
abbrev pub count_ceiling : ℕ
count_ceiling = 4294967295

-- the configuration where it stands; for each name the one that is saved under it, none if the name is not held; and
-- for each process the number of steps that it took part in, since the desk was opened or last returned
pub record Contents : Type 0 where
  pub here : Configuration
  pub names : List (Option Configuration)
  pub counts : List ℕ

abbrev pub uncounted : List ℕ
uncounted = at_each (λ i. 0)

-- "opened once on a table, no name held": it stands at the table's start, and nothing is counted
abbrev pub opened : System → Contents
opened sys = record { here = sys.start; names = replicate name_count none; counts = uncounted }

-- what a call tells: done; fired, with the processes of the rule's letter as bits; or refused, by this number at this
-- place
pub data Told : Type 0 where
  Done : Told
  Fired : ℕ → Told
  Refused : ℕ → ℕ → Told

-- so in code: the answer of a fire, and of a call that tells no processes
abbrev pub told_by_fire : Result ℕ Refusal → Told
told_by_fire (Ok processes) = Told.Fired processes
told_by_fire (Err r) = Told.Refused r.number r.place

abbrev pub told_by : {A : Type 0} → Result A Refusal → Told
told_by (Ok x) = Told.Done
told_by (Err r) = Told.Refused r.number r.place

-- "one that meets 1 to 9 is refused so", with the place that reading the table gives
abbrev pub open_told : Reading → Told
open_told (accepted items) = Told.Done
open_told (refused number place) = Told.Refused number place

-- ---- its calls
-- "It fires a rule, saves under a name, returns to a name and forgets a name."
pub data Call : Type 0 where
  fires : ℕ → Call
  saves : ℕ → Call
  returns : ℕ → Call
  forgets : ℕ → Call

-- the rule that a call is about, the name, and the name that has to be held
abbrev pub rule_asked : Call → Option ℕ
rule_asked (fires n) = some n
rule_asked (saves a) = none
rule_asked (returns a) = none
rule_asked (forgets a) = none

abbrev pub name_asked : Call → Option ℕ
name_asked (fires n) = none
name_asked (saves a) = some a
name_asked (returns a) = some a
name_asked (forgets a) = some a

abbrev pub held_asked : Call → Option ℕ
held_asked (fires n) = none
held_asked (saves a) = none
held_asked (returns a) = some a
held_asked (forgets a) = some a

-- where firing rule n leads, and what is saved under the name a
abbrev pub fired_to : System → Contents → ℕ → Option Configuration
fired_to sys s n = walk sys (n ∷ []) s.here

abbrev pub named : Contents → ℕ → Option Configuration
named s a = get_or s.names a none

-- ---- the checks
-- what they find of a call; false where the call is about no such thing
pub record Findings : Type 0 where
  pub missing : Bool
  pub beyond : Bool
  pub empty : Bool
  pub idle : Bool
  pub full : Bool

pub record Check : Type 0 where
  pub number : ℕ
  pub stops : Bool

abbrev pub is_high : Configuration → Bool
is_high c = ltb desk_pile (length c.word)

-- a check stops a call if its test holds of what the call is about; a call that has no such thing it does not stop
abbrev pub stops_at : Option ℕ → (ℕ → Bool) → Bool
stops_at x test = value_or false test x

-- no rule of this number; bad name, above 7; empty name, not held; the rule doesn't fire; more than 256 tasks after it
unfoldable pub findings : System → Contents → Call → Findings
findings sys s c = record {
  missing = stops_at (rule_asked c) (λ (n : ℕ). is_missing (get_elem? sys.rules n));
  beyond = stops_at (name_asked c) (λ (a : ℕ). leb name_count a);
  empty = stops_at (held_asked c) (λ (a : ℕ). is_missing (named s a));
  idle = stops_at (rule_asked c) (λ (n : ℕ). is_missing (fired_to sys s n));
  full = stops_at (rule_asked c) (λ (n : ℕ). value_or false is_high (fired_to sys s n));
}

-- the checks in their order
abbrev pub checks : Findings → List Check
checks f =
    record { number = 13; stops = f.missing }
    ∷ record { number = 18; stops = f.beyond }
    ∷ record { number = 17; stops = f.empty }
    ∷ record { number = 12; stops = f.idle }
    ∷ record { number = 14; stops = f.full }
    ∷ []

-- the number of the first check that stops the call, 0 if none does
abbrev pub first_stop : List Check → ℕ
first_stop [] = 0
first_stop (k ∷ ks) = cond k.stops k.number (first_stop ks)

-- what code gives where this is the first stop: a refusal of place 0, or none
abbrev pub stop_or_pass : ℕ → Result Unit Refusal
stop_or_pass zero = Ok tt
stop_or_pass (suc n) = Err (record { number = suc n; place = 0 })

abbrev pub stop_of : System → Contents → Call → ℕ
stop_of sys s c = first_stop (checks (findings sys s c))

-- ---- what a call does that no check stops
-- at the configuration c, with these counts
abbrev pub moved_to : Contents → List ℕ → Configuration → Contents
moved_to s counts c = record { here = c; names = s.names; counts = counts }

abbrev pub renamed : Contents → ℕ → Option Configuration → Contents
renamed s a x = record { here = s.here; names = set s.names a x; counts = s.counts }

-- a fire counts for the processes that take part
abbrev pub counts_after : System → Contents → ℕ → List ℕ
counts_after sys s n = with_step count_ceiling (rule_processes sys n) s.counts

-- "Saving over a name replaces it"; after a return "every name stays held", and the counts begin anew
abbrev pub after : System → Contents → Call → Contents
after sys s (fires n) = value_or s (moved_to s (counts_after sys s n)) (fired_to sys s n)
after sys s (saves a) = renamed s a (some s.here)
after sys s (returns a) = value_or s (moved_to s uncounted) (named s a)
after sys s (forgets a) = renamed s a none

-- "A fired rule now also tells its task's stations as bits"
abbrev pub tells : System → Call → Told
tells sys (fires n) = Told.Fired (process_bits (rule_processes sys n))
tells sys (saves a) = Told.Done
tells sys (returns a) = Told.Done
tells sys (forgets a) = Told.Done

-- ---- what a call comes to: what it tells, and what the desk holds after it
pub record DeskOutcome : Type 0 where
  pub told : Told
  pub contents : Contents

-- "A refused call changes nothing", and its place is 0
abbrev pub outcome : ℕ → Contents → DeskOutcome → DeskOutcome
outcome zero s o = o
outcome (suc n) s o = record { told = Told.Refused (suc n) 0; contents = s }

unfoldable pub desk_call : System → Contents → Call → DeskOutcome
desk_call sys s c = outcome (stop_of sys s c) s (record { told = tells sys c; contents = after sys s c })

-- the refusal's number, 0 if there is none, and its place; the bits of the processes that took part, 0 where no rule
-- was fired
abbrev pub told_refusal : Told → ℕ
told_refusal Told.Done = 0
told_refusal (Told.Fired processes) = 0
told_refusal (Told.Refused number place) = number

abbrev pub told_place : Told → ℕ
told_place Told.Done = 0
told_place (Told.Fired processes) = 0
told_place (Told.Refused number place) = place

abbrev pub told_processes : Told → ℕ
told_processes Told.Done = 0
told_processes (Told.Fired processes) = processes
told_processes (Told.Refused number place) = 0

-- what a desk holds after a sequence of calls
abbrev pub desk_calls : System → Contents → List Call → Contents
desk_calls sys s [] = s
desk_calls sys s (c ∷ cs) = desk_calls sys (desk_call sys s c).contents cs

-- ---- the histories of fires
-- the current one; for each name the one that is noted under it; and the fires since the desk was opened or last
-- returned
pub record Histories : Type 0 where
  pub current : List ℕ
  pub noted : List (Option (List ℕ))
  pub since : List ℕ

abbrev pub unwritten : Histories
unwritten = record { current = []; noted = replicate name_count none; since = [] }

-- "A save notes the current history of fires; a return makes the noted history the current one, and every name stays
-- held."
abbrev pub note_call : Histories → Call → Histories
note_call h (fires n) = record { current = h.current ++ (n ∷ []); noted = h.noted; since = h.since ++ (n ∷ []) }
note_call h (saves a) = record { current = h.current; noted = set h.noted a (some h.current); since = h.since }
note_call h (returns a) = record {
  current = value_or h.current (λ (ns : List ℕ). ns) (get_or h.noted a none);
  noted = h.noted;
  since = [];
}
note_call h (forgets a) = record { current = h.current; noted = set h.noted a none; since = h.since }

-- a refused call notes nothing
abbrev pub note : Told → Histories → Call → Histories
note Told.Done h c = note_call h c
note (Told.Fired processes) h c = note_call h c
note (Told.Refused number place) h c = h

abbrev pub note_calls : System → Contents → Histories → List Call → Histories
note_calls sys s h [] = h
note_calls sys s h (c ∷ cs) = note_calls sys (desk_call sys s c).contents (note (desk_call sys s c).told h c) cs

-- ---- the claim
-- A walk of the history on the table leads to c: the history is a run, and the walk call, with any pile of 256 bytes
-- and any scratch that serves, is not refused, gives the states of c and the counts of the history, and leaves the word
-- of c.
pub record Leads (table : List ℕ) (sys : System) (ns : List ℕ) (c : Configuration) : Type 0 where
  pub run : walk sys ns sys.start ≡ some c
  pub call : (pile scratch : List ℕ) → length pile ≡ desk_pile → walk_scratch ≤ length scratch
      → walk_call table ns pile scratch ≡ record {
        answer = (halt_end sys c).answer;
        counts = step_counts sys ns;
        rest = [];
        pile = filled c.word pile;
        scratch = zeros scratch;
      }

-- a name is held exactly if a history is noted under it, and that leads to what is saved
abbrev pub Noted : (List ℕ → Configuration → Type 0) → Option (List ℕ) → Option Configuration → Type 0
Noted To none none = Unit {0}
Noted To none (some c) = ⊥
Noted To (some ns) none = ⊥
Noted To (some ns) (some c) = To ns c

-- The histories lead to what the desk holds: "the desk stands where a walk of its current history stands", and so does
-- each name; and for each process it gives the number of steps that it took part in "since it was opened or last
-- returned", up to the ceiling. `To` says where a history leads.
pub record HistoriesLead (sys : System) (To : List ℕ → Configuration → Type 0) (h : Histories)
    (s : Contents) : Type 0 where
  pub here : To h.current s.here
  pub names : (a : ℕ) → Noted To (get_or h.noted a none) (named s a)
  pub counts : s.counts ≡ map (min count_ceiling) (step_counts sys h.since)
