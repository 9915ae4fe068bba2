-- Document 01, "Small tables": the starred ones, as one table of calls and what they give, with one theorem; rows of
-- requests 2.2 and 2.4 to 2.6.
use Rattle.std.specs.Prelude.{◌≡◌, refl, List, [], ◌∷◌, ◌++◌, map, ℕ, replicate, take}
use Rattle.model.specs.Groups.{greatest, same_group, process_bits, restrict, merge}
use Rattle.model.specs.Words.{tops}
use Rattle.model.specs.Systems.{enabled, fire}
use Rattle.model.specs.Copies.{leaves_control, reenters, copies, subsets, mixed, mixtures, copied}
use Rattle.model.specs.Tables.{is_out_of_turn, group_fits, transition_fits, written_fit, value_fits, cooperates}
use Rattle.model.specs.Tables.{is_narrow, is_reentry, is_twin, refusal, read_from, read, system_of}
use Rattle.model.specs.Log.{reads_at, key_less, same_key, additions, log_at, first_saturated, saturated_at}
use Rattle.model.specs.Unfolding.{accepting_path, emitted_by}
use Rattle.model.specs.Records.{record_bytes}
use Rattle.model.specs.Calls.{records_of, run_of, log_after, page_after, answer_given, answer_call, run_call, walk_call}
use Rattle.model.specs.Calls.{answer_figures, run_given, run_figures, walk_counts, walk_given, walk_figures}
use Rattle.model.specs.Participation.{with_step}

-- a call, with the lengths of its lent buffers
pub data Call : Type 0 where
  asks : (table : List ℕ) (log scratch : ℕ) → Call
  logs : (table : List ℕ) (log scratch : ℕ) → Call
  runs : (table : List ℕ) (log scratch page : ℕ) → Call
  walks : (table list : List ℕ) (pile scratch : ℕ) → Call

-- a buffer that was used before
abbrev pub used : ℕ → List ℕ
used n = replicate n 7

-- its figures, and what it leaves: of an answer nothing more or the log, of a run the page, of a walk its counts, the
-- part handed back and the pile
abbrev pub gives : Call → List (List ℕ)
gives (asks table log scratch) = answer_figures (answer_call table (used log) (used scratch)).answer ∷ []
gives (logs table log scratch) =
    let o = answer_call table (used log) (used scratch) in answer_figures o.answer ∷ o.log ∷ []
gives (runs table log scratch page) =
    let o = run_call table (used log) (used scratch) (used page) in run_figures o.answer ∷ o.page ∷ []
gives (walks table list pile scratch) =
    let o = walk_call table list (used pile) (used scratch) in walk_figures o.answer ∷ o.counts ∷ o.rest ∷ o.pile
    ∷ []

-- ---- the tables
-- Table T: two stations, q = s = 2; tasks 0 {0,1}, 1 {0}, 2 {1}
abbrev pub head_T : List ℕ
head_T = 1 ∷ 2 ∷ 2 ∷ 1 ∷ 2 ∷ 2 ∷ 2 ∷ 3 ∷ 2 ∷ 1 ∷ 2 ∷ 2 ∷ []

-- rule 0: task 0, (0,0) to (0,0), writes 1 2; rule 1: task 1, 0 to 1, writes none; rule 2: task 2, the same
abbrev pub rules01_T : List ℕ
rules01_T =
    3 ∷ 0 ∷ 0 ∷ 0 ∷ 255 ∷ 255 ∷ 0 ∷ 0 ∷ 255 ∷ 255 ∷ 2 ∷ 1 ∷ 2 ∷ 255 ∷ 255 ∷ 255 ∷ 255
    ∷ 3 ∷ 1 ∷ 0 ∷ 255 ∷ 255 ∷ 255 ∷ 1 ∷ 255 ∷ 255 ∷ 255 ∷ 0 ∷ 255 ∷ 255 ∷ 255 ∷ 255 ∷ 255 ∷ 255 ∷ []

abbrev pub rule2_T : List ℕ
rule2_T = 3 ∷ 2 ∷ 255 ∷ 0 ∷ 255 ∷ 255 ∷ 255 ∷ 1 ∷ 255 ∷ 255 ∷ 0 ∷ 255 ∷ 255 ∷ 255 ∷ 255 ∷ 255 ∷ 255 ∷ []

-- accepting (1,1); start (0,0), pile 0
abbrev pub accepting_T : List ℕ
accepting_T = 5 ∷ 1 ∷ 1 ∷ 255 ∷ 255 ∷ []

abbrev pub start_T : List ℕ
start_T = 6 ∷ 0 ∷ 0 ∷ 255 ∷ 255 ∷ 7 ∷ 0 ∷ 8 ∷ []

abbrev pub table_T : List ℕ
table_T = head_T ++ rules01_T ++ rule2_T ++ accepting_T ++ start_T

-- one station, q = 2 and s = `states`, tasks 0 and 1, rule: task 1, 1 to 1, writes none; watch: task 0, 0 to 1;
-- accepting 1; start 0, pile 0 1
abbrev pub re_entry : (states : ℕ) → List ℕ
re_entry states =
    1 ∷ 2 ∷ states ∷ 2 ∷ 1 ∷ 2 ∷ 1
    ∷ 3 ∷ 1 ∷ 1 ∷ 255 ∷ 255 ∷ 255 ∷ 1 ∷ 255 ∷ 255 ∷ 255 ∷ 0 ∷ 255 ∷ 255 ∷ 255 ∷ 255 ∷ 255 ∷ 255
    ∷ 4 ∷ 0 ∷ 0 ∷ 255 ∷ 255 ∷ 255 ∷ 1 ∷ 255 ∷ 255 ∷ 255
    ∷ 5 ∷ 1 ∷ 255 ∷ 255 ∷ 255 ∷ 6 ∷ 0 ∷ 255 ∷ 255 ∷ 255 ∷ 7 ∷ 0 ∷ 7 ∷ 1 ∷ 8 ∷ []

-- two stations, q = 1, s = 1 and `states`; tasks 0 {0}, 1 {0,1}; watch: task 0, 0 to 0, and task 1, (0,0) to (0,0);
-- accepting (0,0); start (0,0), then the pile's items
abbrev pub staying : (states : ℕ) → List ℕ → List ℕ
staying states pile =
    1 ∷ 1 ∷ 1 ∷ 1 ∷ 1 ∷ states ∷ 2 ∷ 1 ∷ 2 ∷ 3
    ∷ 4 ∷ 0 ∷ 0 ∷ 255 ∷ 255 ∷ 255 ∷ 0 ∷ 255 ∷ 255 ∷ 255 ∷ 4 ∷ 1 ∷ 0 ∷ 0 ∷ 255 ∷ 255 ∷ 0 ∷ 0 ∷ 255 ∷ 255
    ∷ 5 ∷ 0 ∷ 0 ∷ 255 ∷ 255 ∷ 6 ∷ 0 ∷ 0 ∷ 255 ∷ 255 ∷ (pile ++ 8 ∷ [])

-- one station, one state, tasks 0 to 2, rule i writes i+1 twice, rule 2 none, state 0 accepting, pile 0
abbrev pub doubling : List ℕ
doubling =
    1 ∷ 1 ∷ 1 ∷ 2 ∷ 1 ∷ 2 ∷ 1 ∷ 2 ∷ 1
    ∷ 3 ∷ 0 ∷ 0 ∷ 255 ∷ 255 ∷ 255 ∷ 0 ∷ 255 ∷ 255 ∷ 255 ∷ 2 ∷ 1 ∷ 1 ∷ 255 ∷ 255 ∷ 255 ∷ 255
    ∷ 3 ∷ 1 ∷ 0 ∷ 255 ∷ 255 ∷ 255 ∷ 0 ∷ 255 ∷ 255 ∷ 255 ∷ 2 ∷ 2 ∷ 2 ∷ 255 ∷ 255 ∷ 255 ∷ 255
    ∷ 3 ∷ 2 ∷ 0 ∷ 255 ∷ 255 ∷ 255 ∷ 0 ∷ 255 ∷ 255 ∷ 255 ∷ 0 ∷ 255 ∷ 255 ∷ 255 ∷ 255 ∷ 255 ∷ 255
    ∷ 5 ∷ 0 ∷ 255 ∷ 255 ∷ 255 ∷ 6 ∷ 0 ∷ 255 ∷ 255 ∷ 255 ∷ 7 ∷ 0 ∷ 8 ∷ []

-- one station, one state, tasks 0 and 1; rule 0: task 0, `count` written tasks in six places; rule 1: task 1, writes
-- none; state 0 accepting, pile 0
abbrev pub roast : (count : ℕ) → List ℕ
roast count =
    1 ∷ 1 ∷ 1 ∷ 2 ∷ 1 ∷ 2 ∷ 1
    ∷ 3 ∷ 0 ∷ 0 ∷ 255 ∷ 255 ∷ 255 ∷ 0 ∷ 255 ∷ 255 ∷ 255 ∷ count ∷ 1 ∷ 1 ∷ 1 ∷ 1 ∷ 1 ∷ 1
    ∷ 3 ∷ 1 ∷ 0 ∷ 255 ∷ 255 ∷ 255 ∷ 0 ∷ 255 ∷ 255 ∷ 255 ∷ 0 ∷ 255 ∷ 255 ∷ 255 ∷ 255 ∷ 255 ∷ 255
    ∷ 5 ∷ 0 ∷ 255 ∷ 255 ∷ 255 ∷ 6 ∷ 0 ∷ 255 ∷ 255 ∷ 255 ∷ 7 ∷ 0 ∷ 8 ∷ []

-- table T as document 01 has it, with four places in a rule
abbrev pub short_bodies_T : List ℕ
short_bodies_T =
    head_T
    ++ (3 ∷ 0 ∷ 0 ∷ 0 ∷ 255 ∷ 255 ∷ 0 ∷ 0 ∷ 255 ∷ 255 ∷ 2 ∷ 1 ∷ 2 ∷ 255 ∷ 255
    ∷ 3 ∷ 1 ∷ 0 ∷ 255 ∷ 255 ∷ 255 ∷ 1 ∷ 255 ∷ 255 ∷ 255 ∷ 0 ∷ 255 ∷ 255 ∷ 255 ∷ 255
    ∷ 3 ∷ 2 ∷ 255 ∷ 0 ∷ 255 ∷ 255 ∷ 255 ∷ 1 ∷ 255 ∷ 255 ∷ 0 ∷ 255 ∷ 255 ∷ 255 ∷ 255 ∷ [])
    ++ accepting_T ++ start_T

-- one station, one state, tasks 0 to 2, rules 0 and 1 on task 0 write 1 and 2, rules 2 and 3 take these away, state 0
-- accepting, pile 0
abbrev pub choice : List ℕ
choice =
    1 ∷ 1 ∷ 1 ∷ 2 ∷ 1 ∷ 2 ∷ 1 ∷ 2 ∷ 1
    ∷ 3 ∷ 0 ∷ 0 ∷ 255 ∷ 255 ∷ 255 ∷ 0 ∷ 255 ∷ 255 ∷ 255 ∷ 1 ∷ 1 ∷ 255 ∷ 255 ∷ 255 ∷ 255 ∷ 255
    ∷ 3 ∷ 0 ∷ 0 ∷ 255 ∷ 255 ∷ 255 ∷ 0 ∷ 255 ∷ 255 ∷ 255 ∷ 1 ∷ 2 ∷ 255 ∷ 255 ∷ 255 ∷ 255 ∷ 255
    ∷ 3 ∷ 1 ∷ 0 ∷ 255 ∷ 255 ∷ 255 ∷ 0 ∷ 255 ∷ 255 ∷ 255 ∷ 0 ∷ 255 ∷ 255 ∷ 255 ∷ 255 ∷ 255 ∷ 255
    ∷ 3 ∷ 2 ∷ 0 ∷ 255 ∷ 255 ∷ 255 ∷ 0 ∷ 255 ∷ 255 ∷ 255 ∷ 0 ∷ 255 ∷ 255 ∷ 255 ∷ 255 ∷ 255 ∷ 255
    ∷ 5 ∷ 0 ∷ 255 ∷ 255 ∷ 255 ∷ 6 ∷ 0 ∷ 255 ∷ 255 ∷ 255 ∷ 7 ∷ 0 ∷ 8 ∷ []

-- two stations, q = 2 and 1, s = 2; tasks 0 {0}, 1 {1}; rule: task 0, 0 to 1, writes none; watch: task 1, 0 to 1 and 1
-- to 1; accepting (1,1); start (0,0), pile 0 1 1 1
abbrev pub idle_station : List ℕ
idle_station =
    1 ∷ 2 ∷ 2 ∷ 1 ∷ 1 ∷ 2 ∷ 2 ∷ 1 ∷ 2 ∷ 2
    ∷ 3 ∷ 0 ∷ 0 ∷ 255 ∷ 255 ∷ 255 ∷ 1 ∷ 255 ∷ 255 ∷ 255 ∷ 0 ∷ 255 ∷ 255 ∷ 255 ∷ 255 ∷ 255 ∷ 255
    ∷ 4 ∷ 1 ∷ 255 ∷ 0 ∷ 255 ∷ 255 ∷ 255 ∷ 1 ∷ 255 ∷ 255 ∷ 4 ∷ 1 ∷ 255 ∷ 1 ∷ 255 ∷ 255 ∷ 255 ∷ 1 ∷ 255 ∷ 255
    ∷ 5 ∷ 1 ∷ 1 ∷ 255 ∷ 255 ∷ 6 ∷ 0 ∷ 0 ∷ 255 ∷ 255 ∷ 7 ∷ 0 ∷ 7 ∷ 1 ∷ 7 ∷ 1 ∷ 7 ∷ 1 ∷ 8 ∷ []

-- ---- the calls and what they give
pub record Example : Type 0 where
  pub call : Call
  pub result : List (List ℕ)

abbrev pub starred : List Example
starred =
    -- T: reachable, transitions 3, rounds 2, steps 3; with peak 1 and the run 0 1 2
    record { call = asks table_T 84 34030; result = (0 ∷ 0 ∷ 1 ∷ 3 ∷ 2 ∷ 3 ∷ []) ∷ [] }
    ∷ record {
      call = runs table_T 84 34030 5;
      result = (0 ∷ 0 ∷ 1 ∷ 3 ∷ 2 ∷ 3 ∷ 1 ∷ []) ∷ (0 ∷ 1 ∷ 2 ∷ 0 ∷ 0 ∷ []) ∷ [];
    }
    -- its log of 87 bytes: task 1 from 0 to 1 by rule 1 and task 2 alike by rule 2, both in round 1 with no path; task
    -- 0 in round 2 by rule 0 over these
    ∷ record {
      call = logs table_T 87 34030;
      result = (0 ∷ 0 ∷ 1 ∷ 3 ∷ 2 ∷ 3 ∷ [])
          ∷ (1 ∷ 0 ∷ 255 ∷ 255 ∷ 255 ∷ 1 ∷ 255 ∷ 255 ∷ 255 ∷ 1 ∷ 0 ∷ 1 ∷ 0 ∷ 255 ∷ 255 ∷ 255 ∷ 255 ∷ 255 ∷ 255 ∷ 255
          ∷ 255 ∷ 255 ∷ 255 ∷ 255 ∷ 255 ∷ 1 ∷ 0 ∷ 0
          ∷ 2 ∷ 255 ∷ 0 ∷ 255 ∷ 255 ∷ 255 ∷ 1 ∷ 255 ∷ 255 ∷ 1 ∷ 0 ∷ 2 ∷ 0 ∷ 255 ∷ 255 ∷ 255 ∷ 255 ∷ 255 ∷ 255 ∷ 255
          ∷ 255 ∷ 255 ∷ 255 ∷ 255 ∷ 255 ∷ 1 ∷ 0 ∷ 0
          ∷ 0 ∷ 0 ∷ 0 ∷ 255 ∷ 255 ∷ 1 ∷ 1 ∷ 255 ∷ 255 ∷ 2 ∷ 0 ∷ 0 ∷ 0 ∷ 0 ∷ 0 ∷ 1 ∷ 0 ∷ 255 ∷ 255 ∷ 255 ∷ 255 ∷ 255
          ∷ 255 ∷ 255 ∷ 255 ∷ 3 ∷ 0 ∷ 0
          ∷ 0 ∷ 0 ∷ 0 ∷ [])
          ∷ [];
    }
    -- T without rule 2: unreachable, 1, 1
    ∷ record {
      call = asks (head_T ++ rules01_T ++ accepting_T ++ start_T) 84 34030;
      result = (0 ∷ 0 ∷ 2 ∷ 1 ∷ 1 ∷ 0 ∷ []) ∷ [];
    }
    -- T without its accepting item: unreachable
    ∷ record {
      call = asks (head_T ++ rules01_T ++ rule2_T ++ start_T) 84 34030;
      result = (0 ∷ 0 ∷ 2 ∷ 3 ∷ 2 ∷ 0 ∷ []) ∷ [];
    }
    -- T with start (1,1) and no pile: steps 0, transitions 3, peak 0, and an empty run
    ∷ record {
      call = runs (head_T ++ rules01_T ++ rule2_T ++ accepting_T ++ (6 ∷ 1 ∷ 1 ∷ 255 ∷ 255 ∷ 8 ∷ [])) 84 34030 2;
      result = (0 ∷ 0 ∷ 1 ∷ 3 ∷ 2 ∷ 0 ∷ 0 ∷ []) ∷ (0 ∷ 0 ∷ []) ∷ [];
    }
    -- T, log of 83 bytes: refusal 10
    ∷ record { call = asks table_T 83 34030; result = (10 ∷ 0 ∷ 0 ∷ 0 ∷ 0 ∷ 0 ∷ []) ∷ [] }
    -- the empty file: 1 at 0
    ∷ record { call = asks [] 84 34030; result = (1 ∷ 0 ∷ 0 ∷ 0 ∷ 0 ∷ 0 ∷ []) ∷ [] }
    -- T has 76 bytes: 1 at 75 without the last of them, 9 at 76 with one more
    ∷ record { call = asks (take 75 table_T) 84 34030; result = (1 ∷ 75 ∷ 0 ∷ 0 ∷ 0 ∷ 0 ∷ []) ∷ [] }
    ∷ record { call = asks (table_T ++ (8 ∷ [])) 84 34030; result = (9 ∷ 76 ∷ 0 ∷ 0 ∷ 0 ∷ 0 ∷ []) ∷ [] }
    -- T, walk 0 2 1: (1,1), empty, watched; request 2.5: each station took part in two steps
    ∷ record {
      call = walks table_T (0 ∷ 2 ∷ 1 ∷ []) 3 2048;
      result = (0 ∷ 0 ∷ 1 ∷ 0 ∷ 1 ∷ 1 ∷ 255 ∷ 255 ∷ []) ∷ (2 ∷ 2 ∷ 0 ∷ 0 ∷ []) ∷ [] ∷ (0 ∷ 0 ∷ 0 ∷ []) ∷ [];
    }
    -- walk 0: (0,0), pile 1 2, not watched
    ∷ record {
      call = walks table_T (0 ∷ []) 3 2048;
      result = (0 ∷ 0 ∷ 2 ∷ 2 ∷ 0 ∷ 0 ∷ 255 ∷ 255 ∷ []) ∷ (1 ∷ 1 ∷ 0 ∷ 0 ∷ []) ∷ [] ∷ (1 ∷ 2 ∷ 0 ∷ []) ∷ [];
    }
    -- T, walk 1: 12 at 0
    ∷ record {
      call = walks table_T (1 ∷ []) 3 2048;
      result = (12 ∷ 0 ∷ 0 ∷ 0 ∷ 0 ∷ 0 ∷ 0 ∷ 0 ∷ []) ∷ (0 ∷ 0 ∷ 0 ∷ 0 ∷ []) ∷ (1 ∷ []) ∷ (0 ∷ 0 ∷ 0 ∷ []) ∷ [];
    }
    -- request 2.6, re_entry: unreachable with 3 transitions and 1 round
    ∷ record { call = asks (re_entry 2) 84 34030; result = (0 ∷ 0 ∷ 2 ∷ 3 ∷ 1 ∷ 0 ∷ []) ∷ [] }
    -- doubling: run 0 1 2 2 1 2 2, peak 3
    ∷ record {
      call = runs doubling 84 34030 7;
      result = (0 ∷ 0 ∷ 1 ∷ 3 ∷ 3 ∷ 7 ∷ 3 ∷ []) ∷ (0 ∷ 1 ∷ 2 ∷ 2 ∷ 1 ∷ 2 ∷ 2 ∷ []) ∷ [];
    }
    -- beside the starred ones: the order 2, 3, 4, 1 of the checks of an item; 16 and 11 of a run; the lowest of two
    -- rules as the reason
    ∷ record { call = asks (9 ∷ []) 84 34030; result = (2 ∷ 0 ∷ 0 ∷ 0 ∷ 0 ∷ 0 ∷ []) ∷ [] }
    ∷ record { call = asks (2 ∷ []) 84 34030; result = (3 ∷ 0 ∷ 0 ∷ 0 ∷ 0 ∷ 0 ∷ []) ∷ [] }
    ∷ record {
      call = asks (1 ∷ 1 ∷ 1 ∷ 1 ∷ 1 ∷ 1 ∷ 1 ∷ 1 ∷ 1 ∷ 1 ∷ 1 ∷ 1 ∷ 1 ∷ []) 84 34030;
      result = (4 ∷ 12 ∷ 0 ∷ 0 ∷ 0 ∷ 0 ∷ []) ∷ [];
    }
    ∷ record {
      call = runs (head_T ++ rules01_T ++ accepting_T ++ start_T) 84 34030 2;
      result = (16 ∷ 0 ∷ 0 ∷ 0 ∷ 0 ∷ 0 ∷ 0 ∷ []) ∷ (7 ∷ 7 ∷ []) ∷ [];
    }
    ∷ record { call = runs table_T 84 34030 2; result = (11 ∷ 0 ∷ 0 ∷ 0 ∷ 0 ∷ 0 ∷ 0 ∷ []) ∷ (7 ∷ 7 ∷ []) ∷ [] }
    ∷ record { call = runs choice 84 34030 2; result = (0 ∷ 0 ∷ 1 ∷ 3 ∷ 2 ∷ 2 ∷ 1 ∷ []) ∷ (0 ∷ 2 ∷ []) ∷ [] }
    -- request 2.2: the peak is that of the station that has no part in the run
    ∷ record { call = runs idle_station 84 34030 1; result = (0 ∷ 0 ∷ 1 ∷ 3 ∷ 1 ∷ 1 ∷ 3 ∷ []) ∷ (0 ∷ []) ∷ [] }
    -- request 2.4: six written tasks, whose record has six path places; a count of 7: 5; a body in the old length is
    -- read by the new layout only
    ∷ record {
      call = logs (roast 6) 56 34020;
      result = (0 ∷ 0 ∷ 1 ∷ 2 ∷ 2 ∷ 7 ∷ [])
          ∷ (1 ∷ 0 ∷ 255 ∷ 255 ∷ 255 ∷ 0 ∷ 255 ∷ 255 ∷ 255 ∷ 1 ∷ 0 ∷ 1 ∷ 0 ∷ 255 ∷ 255 ∷ 255 ∷ 255 ∷ 255 ∷ 255 ∷ 255
          ∷ 255 ∷ 255 ∷ 255 ∷ 255 ∷ 255 ∷ 1 ∷ 0 ∷ 0
          ∷ 0 ∷ 0 ∷ 255 ∷ 255 ∷ 255 ∷ 0 ∷ 255 ∷ 255 ∷ 255 ∷ 2 ∷ 0 ∷ 0 ∷ 0 ∷ 0 ∷ 0 ∷ 0 ∷ 0 ∷ 0 ∷ 0 ∷ 0 ∷ 0 ∷ 0 ∷ 0 ∷ 0
          ∷ 0 ∷ 7 ∷ 0 ∷ 0 ∷ [])
          ∷ [];
    }
    ∷ record {
      call = runs (roast 6) 56 34020 7;
      result = (0 ∷ 0 ∷ 1 ∷ 2 ∷ 2 ∷ 7 ∷ 6 ∷ []) ∷ (0 ∷ 1 ∷ 1 ∷ 1 ∷ 1 ∷ 1 ∷ 1 ∷ []) ∷ [];
    }
    ∷ record {
      call = runs (roast 6) 56 34019 7;
      result = (15 ∷ 0 ∷ 0 ∷ 0 ∷ 0 ∷ 0 ∷ 0 ∷ []) ∷ (7 ∷ 7 ∷ 7 ∷ 7 ∷ 7 ∷ 7 ∷ 7 ∷ []) ∷ [];
    }
    ∷ record { call = asks (roast 7) 56 34020; result = (5 ∷ 7 ∷ 0 ∷ 0 ∷ 0 ∷ 0 ∷ []) ∷ [] }
    ∷ record { call = asks short_bodies_T 84 34030; result = (5 ∷ 12 ∷ 0 ∷ 0 ∷ 0 ∷ 0 ∷ []) ∷ [] }
    -- request 2.5: refused at step 2, a walk gives the counts of the steps before it; refused before its first step,
    -- none
    ∷ record {
      call = walks table_T (0 ∷ 1 ∷ 1 ∷ 2 ∷ []) 3 2048;
      result = (12 ∷ 2 ∷ 0 ∷ 0 ∷ 0 ∷ 0 ∷ 0 ∷ 0 ∷ []) ∷ (2 ∷ 1 ∷ 0 ∷ 0 ∷ []) ∷ (1 ∷ 2 ∷ []) ∷ (2 ∷ 0 ∷ 0 ∷ []) ∷ [];
    }
    ∷ record {
      call = walks table_T (0 ∷ []) 0 2048;
      result = (14 ∷ 0 ∷ 0 ∷ 0 ∷ 0 ∷ 0 ∷ 0 ∷ 0 ∷ []) ∷ (0 ∷ 0 ∷ 0 ∷ 0 ∷ []) ∷ [] ∷ [] ∷ [];
    }
    ∷ record {
      call = walks (re_entry 5) (0 ∷ []) 3 2048;
      result = (7 ∷ 24 ∷ 0 ∷ 0 ∷ 0 ∷ 0 ∷ 0 ∷ 0 ∷ []) ∷ (0 ∷ 0 ∷ 0 ∷ 0 ∷ []) ∷ [] ∷ (7 ∷ 7 ∷ 7 ∷ []) ∷ [];
    }
    -- request 2.6: the log of the re_entry table, task 0 from 0 and from its copy 2 to the copy 3 in round 0; s = 4 is
    -- copied, s = 5 is not: 7 at the watch transition, also where the wide station is none of its task's
    ∷ record {
      call = logs (re_entry 2) 84 34030;
      result = (0 ∷ 0 ∷ 2 ∷ 3 ∷ 1 ∷ 0 ∷ [])
          ∷ (0 ∷ 0 ∷ 255 ∷ 255 ∷ 255 ∷ 3 ∷ 255 ∷ 255 ∷ 255 ∷ 0 ∷ 0 ∷ 255 ∷ 255 ∷ 255 ∷ 255 ∷ 255 ∷ 255 ∷ 255 ∷ 255 ∷ 255
          ∷ 255 ∷ 255 ∷ 255 ∷ 255 ∷ 255 ∷ 0 ∷ 0 ∷ 0
          ∷ 0 ∷ 2 ∷ 255 ∷ 255 ∷ 255 ∷ 3 ∷ 255 ∷ 255 ∷ 255 ∷ 0 ∷ 0 ∷ 255 ∷ 255 ∷ 255 ∷ 255 ∷ 255 ∷ 255 ∷ 255 ∷ 255 ∷ 255
          ∷ 255 ∷ 255 ∷ 255 ∷ 255 ∷ 255 ∷ 0 ∷ 0 ∷ 0
          ∷ 1 ∷ 1 ∷ 255 ∷ 255 ∷ 255 ∷ 1 ∷ 255 ∷ 255 ∷ 255 ∷ 1 ∷ 0 ∷ 0 ∷ 0 ∷ 255 ∷ 255 ∷ 255 ∷ 255 ∷ 255 ∷ 255 ∷ 255
          ∷ 255 ∷ 255 ∷ 255 ∷ 255 ∷ 255 ∷ 1 ∷ 0 ∷ 0 ∷ [])
          ∷ [];
    }
    ∷ record { call = asks (re_entry 4) 84 34030; result = (0 ∷ 0 ∷ 2 ∷ 3 ∷ 1 ∷ 0 ∷ []) ∷ [] }
    ∷ record { call = asks (re_entry 5) 84 34030; result = (7 ∷ 24 ∷ 0 ∷ 0 ∷ 0 ∷ 0 ∷ []) ∷ [] }
    ∷ record { call = asks (staying 5 []) 168 34060; result = (7 ∷ 10 ∷ 0 ∷ 0 ∷ 0 ∷ 0 ∷ []) ∷ [] }
    -- task 0 leads to a mixed group, which accepts, and from which task 1 leads on; round 0 alone needs six records;
    -- watched is said of the table's own automaton
    ∷ record { call = asks (staying 1 (7 ∷ 0 ∷ [])) 168 34060; result = (0 ∷ 0 ∷ 1 ∷ 6 ∷ 0 ∷ 0 ∷ []) ∷ [] }
    ∷ record { call = asks (staying 1 (7 ∷ 0 ∷ 7 ∷ 1 ∷ [])) 168 34060; result = (0 ∷ 0 ∷ 1 ∷ 6 ∷ 0 ∷ 0 ∷ []) ∷ [] }
    ∷ record { call = asks (staying 1 (7 ∷ 0 ∷ [])) 167 34060; result = (10 ∷ 0 ∷ 0 ∷ 0 ∷ 0 ∷ 0 ∷ []) ∷ [] }
    ∷ record {
      call = walks (staying 1 (7 ∷ 0 ∷ 7 ∷ 1 ∷ [])) [] 2 2048;
      result = (0 ∷ 0 ∷ 1 ∷ 2 ∷ 0 ∷ 0 ∷ 255 ∷ 255 ∷ []) ∷ (0 ∷ 0 ∷ 0 ∷ 0 ∷ []) ∷ [] ∷ (0 ∷ 1 ∷ []) ∷ [];
    }
    ∷ []

-- the definitions give each result
pub starred_hold : map (λ (e : Example). gives e.call) starred ≡ map (λ (e : Example). e.result) starred
unfolding greatest same_group process_bits restrict merge tops enabled fire leaves_control reenters copies subsets mixed
    mixtures copied is_out_of_turn group_fits transition_fits written_fit value_fits cooperates is_narrow is_reentry is_twin
    refusal read_from read system_of reads_at key_less same_key additions log_at first_saturated saturated_at accepting_path
    emitted_by records_of run_of log_after page_after record_bytes answer_given answer_call run_given run_call walk_counts
    walk_given with_step walk_call
starred_hold = refl
