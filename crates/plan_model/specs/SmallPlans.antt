-- Request 2.7: small plans, as one table of calls and what they give, with one theorem. Of table T rule 0 is of both
-- processes, rule 1 of process 0, rule 2 of process 1. The list of begins has four places and is used before: all its
-- minutes are 7.
use Rattle.std.specs.Prelude.{◌≡◌, refl, List, [], ◌∷◌, map, ℕ, ℤ, pos, negsuc, length, replicate}
use Rattle.model.specs.Calls.{refuse}
use Rattle.plan_model.specs.declared.Window.{Window}
use Rattle.model.specs.Tables.{is_out_of_turn, group_fits, transition_fits, written_fit, value_fits, cooperates, is_narrow}
use Rattle.model.specs.Tables.{is_reentry, is_twin, refusal, read_from, read, system_of}
use Rattle.plan_model.specs.Hours.{PlanOutcome, begin_of, begins_from, bound_of, delay, ended_at, first_among}
use Rattle.plan_model.specs.Hours.{first_never, fits, hours_fit, lengths_fit, never_fits, plan_begins, plan_call}
use Rattle.plan_model.specs.Hours.{Planned, given, plan_fits, plan_given, run_fits, start_fits}
use Rattle.model.specs.SmallTables.{table_T}

-- from the opening minute to the closing one, which is not included
abbrev pub from_to : ℕ → ℕ → Window
from_to a b = record { opens = a; closes = b }

abbrev pub all_week : List Window
all_week = from_to 0 10080 ∷ []

-- six minutes of Monday
abbrev pub short : List Window
short = from_to 20 26 ∷ []

-- what is no window, wherever it is looked at
abbrev pub no_window : Window
no_window = from_to 1 0

abbrev pub minutes : ℕ → List Window
minutes n = replicate n (from_to 0 1)

-- four stations of one state; one task of all of them, and one rule on it, which writes none
abbrev pub four_stations : List ℕ
four_stations =
    1 ∷ 1 ∷ 1 ∷ 1 ∷ 1 ∷ 1 ∷ 1 ∷ 1 ∷ 1 ∷ 1 ∷ 1 ∷ 1 ∷ 2 ∷ 15 ∷ 3 ∷ 0 ∷ 0 ∷ 0 ∷ 0 ∷ 0 ∷ 0 ∷ 0 ∷ 0 ∷ 0 ∷ 0
    ∷ 255 ∷ 255 ∷ 255 ∷ 255 ∷ 255 ∷ 255 ∷ 6 ∷ 0 ∷ 0 ∷ 0 ∷ 0 ∷ 8 ∷ []

-- a call, and what it gives
pub record SmallPlan : Type 0 where
  pub table : List ℕ
  pub run : List ℕ
  pub hours : List (List Window)
  pub counts : List ℕ
  pub lengths : List ℕ
  pub start : ℤ
  pub answer : Planned
  pub begins : List ℤ

abbrev pub outcome_of : SmallPlan → PlanOutcome
outcome_of p =
    plan_call p.table p.run p.hours p.counts p.lengths p.start (replicate 4 (pos 7))

-- on T, with all windows of both processes
abbrev pub on_T : List ℕ → List Window → List Window → List ℕ → ℤ → Planned → List ℤ → SmallPlan
on_T run first second lengths start answer begins = record {
  table = table_T;
  run = run;
  hours = first ∷ second ∷ [];
  counts = length first ∷ length second ∷ [];
  lengths = lengths;
  start = start;
  answer = answer;
  begins = begins;
}

-- rule 1 of T, by the windows of process 0 as its count says; the other processes have these hours and counts
abbrev pub by_count : List Window → ℕ → List (List Window) → List ℕ → List ℕ → Planned → List ℤ → SmallPlan
by_count first count others counts lengths answer begins = record {
  table = table_T;
  run = 1 ∷ [];
  hours = first ∷ others;
  counts = count ∷ counts;
  lengths = lengths;
  start = pos 0;
  answer = answer;
  begins = begins;
}

-- the one rule of four stations, five minutes long, from minute 0 on
abbrev pub on_four : List (List Window) → List ℕ → Planned → List ℤ → SmallPlan
on_four hours counts answer begins = record {
  table = four_stations;
  run = 0 ∷ [];
  hours = hours;
  counts = counts;
  lengths = 5 ∷ [];
  start = pos 0;
  answer = answer;
  begins = begins;
}

abbrev pub unchanged : List ℤ
unchanged = replicate 4 (pos 7)

-- a begin or two, and the places behind them
abbrev pub begin : ℤ → List ℤ
begin t = t ∷ replicate 3 (pos 7)

abbrev pub begin_both : ℤ → ℤ → List ℤ
begin_both s t = s ∷ t ∷ replicate 2 (pos 7)

abbrev pub usual : List ℕ
usual = 6 ∷ 2 ∷ 2 ∷ []

abbrev pub small_plans : List SmallPlan
small_plans =
    -- open all week: rules 1 and 2 begin when rule 0 has ended; the fourth place is left as it was
    on_T (0 ∷ 1 ∷ 2 ∷ []) all_week all_week usual (pos 0) given (pos 0 ∷ pos 6 ∷ pos 6 ∷ pos 7 ∷ [])
    -- the minute before the plan's Monday
    ∷ on_T (1 ∷ []) (from_to 10079 10080 ∷ []) [] (6 ∷ 1 ∷ 2 ∷ []) (negsuc 2) given (begin (negsuc 0))
    -- both are open from minute 20 of the next week on; the first step just fits, and ends as the window closes
    ∷ on_T (0 ∷ 2 ∷ []) short (from_to 10 40 ∷ []) usual (pos 10070) given (begin_both (pos 10100) (pos 10106))
    -- minutes of the week before
    ∷ on_T (0 ∷ []) short (from_to 10 40 ∷ []) usual (negsuc 10074) given (begin (negsuc 10059))
    -- windows that touch and that overlap run on, and so do those across Sunday midnight
    ∷ on_T (1 ∷ []) (from_to 110 120 ∷ from_to 100 108 ∷ from_to 105 110 ∷ []) [] (6 ∷ 20 ∷ 2 ∷ []) (pos 95)
    given (begin (pos 100))
    ∷ on_T (1 ∷ []) (from_to 0 15 ∷ from_to 10075 10080 ∷ []) [] (6 ∷ 20 ∷ 2 ∷ []) (pos 10060)
    given (begin (pos 10075))
    -- a step waits for its own process only, and begins may fall
    ∷ on_T (1 ∷ 2 ∷ []) short all_week usual (pos 0) given (begin_both (pos 20) (pos 0))
    -- the empty run is given, also where nothing opens
    ∷ on_T [] [] [] usual (pos 0) given unchanged
    -- never open: the window of process 1 is a minute too short
    ∷ on_T (1 ∷ 2 ∷ []) short (from_to 20 21 ∷ []) usual (pos 0) (refuse 20 1) unchanged
    -- bad hours: a window that closes as it opens, one that closes too late, of a process that no step needs
    ∷ on_T (1 ∷ []) all_week (from_to 60 60 ∷ []) usual (pos 0) (refuse 19 0) unchanged
    ∷ on_T (1 ∷ []) all_week (from_to 60 10081 ∷ []) usual (pos 0) (refuse 19 0) unchanged
    -- 14 windows, and 15; windows past a count are not looked at, neither for 19 nor for 20
    ∷ by_count (minutes 14) 14 [] [] (6 ∷ 1 ∷ 2 ∷ []) given (begin (pos 0))
    ∷ by_count (minutes 15) 15 [] [] (6 ∷ 1 ∷ 2 ∷ []) (refuse 19 0) unchanged
    ∷ by_count (from_to 0 1 ∷ no_window ∷ []) 1 [] [] (6 ∷ 1 ∷ 2 ∷ []) given (begin (pos 0))
    ∷ by_count (from_to 0 1 ∷ all_week) 1 [] [] usual (refuse 20 0) unchanged
    ∷ by_count (from_to 0 1 ∷ all_week) 2 [] [] usual given (begin (pos 0))
    -- nor are processes and rules that the table lacks; process 1 it has
    ∷ by_count all_week 1 ([] ∷ (no_window ∷ []) ∷ (no_window ∷ []) ∷ []) (0 ∷ 1 ∷ 99 ∷ []) usual given
    (begin (pos 0))
    ∷ by_count all_week 1 ((no_window ∷ []) ∷ [] ∷ [] ∷ []) (1 ∷ 0 ∷ 0 ∷ []) usual (refuse 19 0) unchanged
    ∷ by_count all_week 1 [] [] (6 ∷ 2 ∷ 2 ∷ 0 ∷ 9999 ∷ []) given (begin (pos 0))
    -- four processes, each with windows and a count of its own: the step waits for the last of them
    ∷ on_four ((from_to 0 99 ∷ []) ∷ (from_to 10 99 ∷ []) ∷ (from_to 20 99 ∷ []) ∷ (from_to 30 99 ∷ []) ∷ [])
    (1 ∷ 1 ∷ 1 ∷ 1 ∷ []) given (begin (pos 30))
    ∷ on_four (all_week ∷ all_week ∷ all_week ∷ (from_to 0 4 ∷ from_to 50 60 ∷ []) ∷ []) (1 ∷ 1 ∷ 1 ∷ 2 ∷ [])
    given (begin (pos 50))
    ∷ on_four (all_week ∷ all_week ∷ all_week ∷ (from_to 0 4 ∷ from_to 50 60 ∷ []) ∷ []) (1 ∷ 1 ∷ 1 ∷ 1 ∷ [])
    (refuse 20 0) unchanged
    ∷ on_four (all_week ∷ all_week ∷ all_week ∷ (from_to 0 5 ∷ no_window ∷ []) ∷ []) (1 ∷ 1 ∷ 1 ∷ 2 ∷ [])
    (refuse 19 0) unchanged
    -- a rule of 1,440 minutes, and of one more; a rule without a length, and a length of 0, of a rule that no step has;
    -- before any 20
    ∷ on_T (1 ∷ []) all_week [] (6 ∷ 1440 ∷ 2 ∷ []) (pos 0) given (begin (pos 0))
    ∷ on_T (0 ∷ []) [] [] (6 ∷ 2 ∷ 1441 ∷ []) (pos 0) (refuse 19 0) unchanged
    ∷ on_T (0 ∷ []) [] [] (6 ∷ 2 ∷ []) (pos 0) (refuse 19 0) unchanged
    ∷ on_T (0 ∷ []) [] [] (6 ∷ 2 ∷ 0 ∷ []) (pos 0) (refuse 19 0) unchanged
    -- the first start and the last one, and one too early and one too late
    ∷ on_T [] [] [] usual (negsuc 999999) given unchanged
    ∷ on_T [] [] [] usual (pos 1000000) given unchanged
    ∷ on_T [] [] [] usual (negsuc 1000000) (refuse 19 0) unchanged
    ∷ on_T [] [] [] usual (pos 1000001) (refuse 19 0) unchanged
    -- a rule that the table lacks; a list as long as the run, and a shorter one
    ∷ on_T (3 ∷ []) all_week all_week usual (pos 0) (refuse 19 0) unchanged
    ∷ on_T (1 ∷ 1 ∷ 1 ∷ 1 ∷ []) all_week all_week usual (pos 0) given (pos 0 ∷ pos 2 ∷ pos 4 ∷ pos 6 ∷ [])
    ∷ on_T (1 ∷ 1 ∷ 1 ∷ 1 ∷ 1 ∷ []) all_week all_week usual (pos 0) (refuse 19 0) unchanged
    -- a table that is refused
    ∷ record {
      table = [];
      run = [];
      hours = [];
      counts = [];
      lengths = [];
      start = pos 0;
      answer = refuse 1 0;
      begins = unchanged;
    }
    ∷ []

-- the definitions give each result
pub small_plans_hold : map outcome_of small_plans
    ≡ map (λ (p : SmallPlan). record { answer = p.answer; begins = p.begins }) small_plans
unfolding is_out_of_turn group_fits transition_fits written_fit value_fits cooperates is_narrow is_reentry is_twin refusal
    read_from read system_of fits first_among delay bound_of ended_at begin_of begins_from never_fits first_never hours_fit
    lengths_fit start_fits run_fits plan_fits plan_given plan_begins plan_call
small_plans_hold = refl
