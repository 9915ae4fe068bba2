-- Document 01, "Small tables": what the program `line` writes for them, as one table of inputs and texts, with one
-- theorem.
use Rattle.std.specs.Prelude.{◌≡◌, refl, List, [], ◌∷◌, ◌++◌, map, ℕ, suc, Ok}
use mathlib.Core.Path.{ap}
use Prim.Native.String.{String}
use Rattle.model.specs.declared.Verdict.{Verdict}
use Rattle.model.specs.Groups.{greatest, same_group, restrict, merge}
use Rattle.model.specs.Words.{tops}
use Rattle.model.specs.Systems.{enabled, fire}
use Rattle.model.specs.Copies.{leaves_control, reenters, copies, subsets, mixed, mixtures, copied}
use Rattle.model.specs.Tables.{is_out_of_turn, group_fits, transition_fits, written_fit, value_fits, cooperates, is_narrow}
use Rattle.model.specs.Tables.{is_reentry, is_twin, refusal, read_from, read, system_of}
use Rattle.model.specs.Log.{reads_at, key_less, same_key, additions, log_at, first_saturated, saturated_at}
use Rattle.model.specs.Unfolding.{accepting_path, emitted_by}
use Rattle.model.specs.Calls.{refuse, records_of, run_of, page_after, answer_given, answer_call, run_given, run_call}
use Rattle.model.specs.SmallTables.{head_T, rules01_T, rule2_T, accepting_T, start_T, table_T, re_entry, staying}
use Rattle.model.specs.SmallTables.{doubling, roast, short_bodies_T}
use Rattle.listing.specs.LineText.{line_text, text_with}
use Rattle.listing.specs.Listing.{ascii, digits_of, decimal, line, counted, refused_line, answer_lines, run_line, run_lines}
use Rattle.listing.specs.Listing.{listing}

pub record Example : Type 0 where
  pub input : List ℕ
  pub text : String

abbrev pub examples : List Example
examples =
    record { input = table_T; text = "answer reachable\ntransitions 3\nrounds 2\nsteps 3\npeak 1\nrun 0 1 2\n" }
    -- T without rule 2
    ∷ record {
      input = head_T ++ rules01_T ++ accepting_T ++ start_T;
      text = "answer unreachable\ntransitions 1\nrounds 1\n";
    }
    -- T with start (1,1) and no pile: an empty run
    ∷ record {
      input = head_T ++ rules01_T ++ rule2_T ++ accepting_T ++ (6 ∷ 1 ∷ 1 ∷ 255 ∷ 255 ∷ 8 ∷ []);
      text = "answer reachable\ntransitions 3\nrounds 2\nsteps 0\npeak 0\nrun\n";
    }
    ∷ record {
      input = doubling;
      text = "answer reachable\ntransitions 3\nrounds 3\nsteps 7\npeak 3\nrun 0 1 2 2 1 2 2\n";
    }
    -- request 2.6: the re_entry table; the same with s = 5; a start that is accepted over a mixed group
    ∷ record { input = re_entry 2; text = "answer unreachable\ntransitions 3\nrounds 1\n" }
    ∷ record { input = re_entry 5; text = "refused 7 at 24\n" }
    ∷ record {
      input = staying 1 (7 ∷ 0 ∷ 7 ∷ 1 ∷ []);
      text = "answer reachable\ntransitions 6\nrounds 0\nsteps 0\npeak 2\nrun\n";
    }
    -- request 2.4: six written tasks in one rule; a count of 7; bodies in the old length
    ∷ record {
      input = roast 6;
      text = "answer reachable\ntransitions 2\nrounds 2\nsteps 7\npeak 6\nrun 0 1 1 1 1 1 1\n";
    }
    ∷ record { input = roast 7; text = "refused 5 at 7\n" }
    ∷ record { input = short_bodies_T; text = "refused 5 at 12\n" }
    -- the empty file
    ∷ record { input = []; text = "refused 1 at 0\n" }
    ∷ []

-- the definitions give each text
pub examples_hold : map (λ (e : Example). line_text e.input) examples
    ≡ map (λ (e : Example). ascii e.text) examples
unfolding greatest same_group restrict merge tops enabled fire leaves_control reenters copies subsets mixed mixtures
    copied is_out_of_turn group_fits transition_fits written_fit value_fits cooperates is_narrow is_reentry is_twin refusal
    read_from read system_of reads_at key_less same_key additions log_at first_saturated saturated_at accepting_path emitted_by
    records_of run_of page_after answer_given answer_call run_given run_call line_text text_with listing answer_lines refused_line
    run_lines run_line counted line decimal
examples_hold = refl

-- doubling with 19 letters: a run longer than the page. Its number of steps is computed with as much fuel as its digits
-- take, and any more beside.
six_digits : (fuel : ℕ) → digits_of (suc (suc (suc (suc (suc (suc fuel)))))) 524287 ≡ ascii "524287"
six_digits fuel = refl

long_number : decimal 524287 ≡ ascii "524287"
unfolding decimal
long_number = six_digits 524281

long_lines : listing (Ok (Verdict.Reachable 19 19 524287)) (refuse 11 0) []
    ≡ (counted (ascii "answer reachable\n") 19 19 ++ (ascii "steps " ++ ascii "524287" ++ ascii "\n")) ++ line (ascii "run refused ") 11
unfolding listing answer_lines run_lines line
long_lines = ap (λ (d : List ℕ). (counted (ascii "answer reachable\n") 19 19 ++ (ascii "steps " ++ d ++ ascii "\n")) ++ line (ascii "run refused ") 11) long_number

pub long_run : listing (Ok (Verdict.Reachable 19 19 524287)) (refuse 11 0) []
    ≡ ascii "answer reachable\ntransitions 19\nrounds 19\nsteps 524287\nrun refused 11\n"
unfolding counted line decimal
long_run = long_lines
