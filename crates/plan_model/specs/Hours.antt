-- Request 2.7, opening hours: minutes, when processes are open, the plan of a run on the week, its checks, the call,
-- and the claim.
use Rattle.std.specs.Prelude.{Bool, true, false, cond, not, ◌&&◌, ◌||◌, List, [], ◌∷◌, ◌++◌, map, ◌↔◌, ◌≡◌, ℕ, zero, suc, ◌+◌, ◌-◌, ◌%◌, ◌<◌, min, ltb, leb, ℤ, pos, negsuc, ◌+ℤ◌, length, get_or, take, drop, Result, Ok, Err, ⊤}
use Rattle.std.proofs.Math.Option.{Option, none, some}
use Rattle.std.specs.Int.Signed.{lt_z, le_z}
use Rattle.plan_model.specs.declared.Window.{Window}
use Rattle.model.specs.Lists.{any_of, is_missing, value_or, all_below}
use Rattle.model.specs.Groups.{Process, Processes, at_each, every, has, processes_of, number_of, fold_each}
use Rattle.model.specs.Systems.{System}
use Rattle.model.specs.declared.Refusal.{Refusal}
use Rattle.model.specs.Calls.{refuse}
use Rattle.model.specs.Participation.{rule_processes}
use Rattle.model.specs.Tables.{Item, Reading, accepted, refused, read, system_of, count}
use Rattle.model.specs.Demands.{Describes}

-- ---- minutes
-- Minutes are integers, and minute 0 is Monday 00:00 of the plan's week.
abbrev pub week_minutes : ℕ
week_minutes = 10080

-- The minute of the week is the floor remainder. "Minutes before the plan's Monday are negative, and minute -1 is
-- minute 10,079 of a week": `negsuc n` is the integer -(n + 1).
abbrev pub minute_of_week : ℤ → ℕ
minute_of_week (pos n) = n % week_minutes
minute_of_week (negsuc n) = week_minutes - 1 - n % week_minutes

abbrev pub later_of : ℤ → ℤ → ℤ
later_of s t = cond (lt_z s t) t s

-- ---- when processes are open
-- "opening before closing, closing .. not included"
abbrev pub in_window : ℕ → Window → Bool
in_window m w = leb w.opens m && ltb m w.closes

-- A process with these windows is open at a minute of the integers. Weeks repeat, so "windows that touch or overlap,
-- also across Sunday midnight, run on".
abbrev pub is_open : List Window → ℤ → Bool
is_open windows t = any_of (in_window (minute_of_week t)) windows

-- a step of the run: its stations, which are the processes of its rule's letter, and its rule's length
pub record PlannedStep : Type 0 where
  pub processes : Processes
  pub minutes : ℕ

-- from the minute t on "all its stations are open for its whole length"; `week` are the windows of each process
unfoldable pub fits : (Process → List Window) → PlannedStep → ℤ → Bool
fits week s t = all_below s.minutes (λ k. every (λ i. not (has s.processes i) || is_open (week i) (t +ℤ pos k)))

-- the first of the n numbers from k on of which the test holds
unfoldable pub first_among : ℕ → ℕ → (ℕ → Bool) → Option ℕ
first_among zero k f = none
first_among (suc n) k f = elim (f k) [ true ↦ some k | false ↦ first_among n (suc k) f ]

-- How many minutes after `bound` the first minute is from which the step fits. Weeks repeat: what fits none of the
-- 10,080 minutes from the bound on fits none (`never_fits_lem`).
unfoldable pub delay : (Process → List Window) → PlannedStep → ℤ → Option ℕ
delay week s bound = first_among week_minutes 0 (λ d. fits week s (bound +ℤ pos d))

-- ---- the plan
-- the minute at which a process has ended its earlier steps; the plan's start where it had none
abbrev pub end_of : List ℤ → Process → ℤ
end_of ends i = get_or ends (number_of i) (pos 0)

abbrev pub at_start : ℤ → List ℤ
at_start start = at_each (λ i. start)

-- "not before the plan's start nor before all its stations have ended their earlier steps"
unfoldable pub bound_of : ℤ → List ℤ → Processes → ℤ
bound_of start ends L =
    fold_each (λ i t. cond (has L i) (later_of (end_of ends i) t) t) start

-- the processes of L have ended at t
unfoldable pub ended_at : Processes → ℤ → List ℤ → List ℤ
ended_at L t ends = at_each (λ i. cond (has L i) t (end_of ends i))

-- "each step begins at the first minute"
unfoldable pub begin_of : (Process → List Window) → ℤ → List ℤ → PlannedStep → ℤ
begin_of week start ends s =
    let bound = bound_of start ends s.processes in
    bound +ℤ pos (value_or 0 (λ (d : ℕ). d) (delay week s bound))

-- "in run order"
unfoldable pub begins_from : (Process → List Window) → ℤ → List ℤ → List PlannedStep → List ℤ
begins_from week start ends [] = []
begins_from week start ends (s ∷ steps) =
    begin_of week start ends s
    ∷ begins_from week start (ended_at s.processes (begin_of week start ends s +ℤ pos s.minutes) ends) steps

-- ---- check 20
-- the step "fits no minute of any week"
unfoldable pub never_fits : (Process → List Window) → PlannedStep → Bool
never_fits week s = is_missing (delay week s (pos 0))

-- "the first such step", counted from k
unfoldable pub first_never : (Process → List Window) → List PlannedStep → ℕ → Option ℕ
first_never week [] k = none
first_never week (s ∷ steps) k = cond (never_fits week s) (some k) (first_never week steps (k + 1))

-- ---- check 19
-- "Each station has up to 14 windows"
abbrev pub window_places : ℕ
window_places = 14

-- "opening before closing, closing at most 10,080"
abbrev pub window_fits : Window → Bool
window_fits w = ltb w.opens w.closes && leb w.closes week_minutes

abbrev pub window_at : List Window → ℕ → Window
window_at windows k = get_or windows k (record { opens = 0; closes = 0 })

-- "Windows past a station's count .. aren't looked at"
abbrev pub process_fits : List Window → ℕ → Bool
process_fits windows count = leb count window_places && all_below count (λ k. window_fits (window_at windows k))

-- the hours of each process of the table
unfoldable pub hours_fit : ℕ → List (List Window) → List ℕ → Bool
hours_fit processes hours counts = all_below processes (λ i. process_fits (get_or hours i []) (get_or counts i 0))

-- "A rule has a length of 1 to 1,440 minutes"
abbrev pub longest_step : ℕ
longest_step = 1440

abbrev pub length_fits : ℕ → Bool
length_fits n = leb 1 n && leb n longest_step

-- each rule of the table has one
unfoldable pub lengths_fit : ℕ → List ℕ → Bool
lengths_fit rules lengths = leb rules (length lengths) && all_below rules (λ n. length_fits (get_or lengths n 0))

abbrev pub farthest_start : ℕ
farthest_start = 1000000

-- "The plan's start lies between -1,000,000 and 1,000,000, both allowed"
unfoldable pub start_fits : ℤ → Bool
start_fits start = le_z (negsuc (farthest_start - 1)) start && le_z start (pos farthest_start)

abbrev pub most_steps : ℕ
most_steps = 1000000

-- no "rule number the table lacks", no "run above 1,000,000 steps"
unfoldable pub run_fits : ℕ → List ℕ → Bool
run_fits rules run = leb (length run) most_steps && all_below (length run) (λ k. ltb (get_or run k 0) rules)

-- all of check 19, for a table of so many processes and rules and a list with room for so many begins
unfoldable pub plan_fits : ℕ → ℕ → List ℕ → List (List Window) → List ℕ → List ℕ → ℤ → ℕ → Bool
plan_fits processes rules run hours counts lengths start room =
    hours_fit processes hours counts && lengths_fit rules lengths && start_fits start && run_fits rules run
    && leb (length run) room

-- ---- the call: table, run, hours with their counts, lengths of the rules, start, list of begins
-- the windows of each process: as many as its count says, and as there are places
abbrev pub windows_of : List (List Window) → List ℕ → ℕ → List Window
windows_of hours counts i = take (min (get_or counts i 0) window_places) (get_or hours i [])

abbrev pub week_of : List (List Window) → List ℕ → Process → List Window
week_of hours counts i = windows_of hours counts (number_of i)

abbrev pub step_of : System → List ℕ → ℕ → PlannedStep
step_of sys lengths n = record { processes = rule_processes sys n; minutes = get_or lengths n 0 }

abbrev pub steps_of : System → List ℕ → List ℕ → List PlannedStep
steps_of sys lengths run = map (step_of sys lengths) run

-- what the plan call gives: that the plan is laid, or why it is refused
abbrev pub Planned : Type 0
Planned = Result ⊤ Refusal

abbrev pub given : Planned
given = Ok tt

abbrev pub never_or : Option ℕ → Planned
never_or none = given
never_or (some k) = refuse 20 k

-- "Checks, after the table's own: 19 ..; 20 comes after 19"
unfoldable pub plan_given : Reading → List ℕ → List (List Window) → List ℕ → List ℕ → ℤ → ℕ → Planned
plan_given (refused number place) run hours counts lengths start room = refuse number place
plan_given (accepted items) run hours counts lengths start room =
    cond (plan_fits (count 1 items) (count 3 items) run hours counts lengths start room)
    (never_or (first_never (week_of hours counts) (steps_of (system_of items) lengths run) 0))
    (refuse 19 0)

unfoldable pub plan_begins : Reading → List ℕ → List (List Window) → List ℕ → List ℕ → ℤ → List ℤ
plan_begins (refused number place) run hours counts lengths start = []
plan_begins (accepted items) run hours counts lengths start =
    begins_from (week_of hours counts) start (at_start start) (steps_of (system_of items) lengths run)

-- "A refused plan leaves the lent list .. unchanged; a given one leaves the places after the run's last step
-- unchanged."
abbrev pub begins_after : Planned → List ℤ → List ℤ → List ℤ
begins_after (Ok x) planned begins = planned ++ drop (length planned) begins
begins_after (Err r) planned begins = begins

pub record PlanOutcome : Type 0 where
  pub answer : Planned
  pub begins : List ℤ

unfoldable pub plan_call : List ℕ → List ℕ → List (List Window) → List ℕ → List ℕ → ℤ → List ℤ → PlanOutcome
plan_call table run hours counts lengths start begins =
    let answer = plan_given (read table) run hours counts lengths start (length begins) in
    record {
      answer = answer;
      begins = begins_after answer (plan_begins (read table) run hours counts lengths start) begins;
    }

-- ---- the claim, in the request's words
-- t is the minute s, or some minutes later
pub record NotBefore (s t : ℤ) : Type 0 where
  pub later : ℕ
  pub is : t ≡ s +ℤ pos later

abbrev pub step_at : List PlannedStep → ℕ → PlannedStep
step_at steps k = get_or steps k (record { processes = processes_of 0; minutes = 0 })

abbrev pub begin_at : List ℤ → ℕ → ℤ
begin_at begins k = get_or begins k (pos 0)

-- step k may begin at t: "not before the plan's start nor before all its stations have ended their earlier steps"
pub record MayBegin (start : ℤ) (steps : List PlannedStep) (begins : List ℤ) (k : ℕ) (t : ℤ) : Type 0 where
  pub from_start : NotBefore start t
  pub from_ends : (j : ℕ) → j < k → (i : Process) → has (step_at steps j).processes i ≡ true
      → has (step_at steps k).processes i ≡ true
      → NotBefore (begin_at begins j +ℤ pos (step_at steps j).minutes) t

-- "each step begins at the first minute .. from which all its stations are open for its whole length"
pub record BeginsFirst (week : Process → List Window) (start : ℤ) (steps : List PlannedStep) (begins : List ℤ)
    (k : ℕ) : Type 0 where
  pub may : MayBegin start steps begins k (begin_at begins k)
  pub fitting : fits week (step_at steps k) (begin_at begins k) ≡ true
  pub first : (t : ℤ) → MayBegin start steps begins k t → fits week (step_at steps k) t ≡ true
      → NotBefore (begin_at begins k) t

-- step k is the first that fits no minute of the integers
pub record NeverOpen (week : Process → List Window) (steps : List PlannedStep) (k : ℕ) : Type 0 where
  pub is_step : k < length steps
  pub never : (t : ℤ) → fits week (step_at steps k) t ≡ false
  pub earlier : (j : ℕ) → j < k → (t : ℤ) × (fits week (step_at steps j) t ≡ true)

-- 20 at the first such step, and no refusal where there is none
pub record Exact20 (week : Process → List Window) (steps : List PlannedStep) (number place : ℕ) : Type 0 where
  pub refused_20 : (k : ℕ) → NeverOpen week steps k ↔ ((number ≡ 20) × (place ≡ k))
  pub given : ((k : ℕ) → NeverOpen week steps k → ⊥) → number ≡ 0

-- What a call means by the number of its refusal, 0 if there is none, and its place: not refused, every step begins at
-- its first minute. "Checks, after the table's own": a table that is refused gives its number and place; "19, bad
-- hours", place 0, exactly when it is not all within bounds. Where table and check 19 let a plan through, it is refused
-- by "20, never open, exactly when some step fits no minute of any week, place the first such step".
pub record PlanMeans (table run : List ℕ) (hours : List (List Window)) (counts lengths : List ℕ) (start : ℤ)
    (number place : ℕ) (begins : List ℤ) : Type 0 where
  pub first_minutes : number ≡ 0
      → Describes table
      (λ (sys : System). (k : ℕ) → k < length run
      → BeginsFirst (week_of hours counts) start (steps_of sys lengths run) begins k)
  pub refused_table : (n p : ℕ) → read table ≡ refused n p → (number ≡ n) × (place ≡ p)
  pub refused_19 : (items : List Item) → read table ≡ accepted items
      → (plan_fits (count 1 items) (count 3 items) run hours counts lengths start (length begins) ≡ false)
      ↔ ((number ≡ 19) × (place ≡ 0))
  pub let_through : (items : List Item) → read table ≡ accepted items
      → plan_fits (count 1 items) (count 3 items) run hours counts lengths start (length begins) ≡ true
      → Exact20 (week_of hours counts) (steps_of (system_of items) lengths run) number place
