-- The text of the program `line` depends on its buffers by their lengths, and on no more of the input than its buffer holds.
use mathlib.Core.Path.{◌≡◌, refl, ap, ap₂, sym, ◌∙◌}
use mathlib.Core.Bool.{true, false, cond}
use mathlib.Core.Option.{Option, none, some}
use mathlib.Core.List.{List, [], ◌++◌, append-nil}
use Prim.Native.Nat.{ℕ, ◌-◌, ◌*◌, ◌≤◌}
use native.Mathlib.Omega.{arith}
use lib.Dec.{ltb}
use lib.ListN.{length, take, replicate, length-replicate}
use borrow.Author.Tests.{ltb-false}
use Rattle.std.specs.Prelude.{Result, Ok, Err}
use Rattle.model.specs.declared.Refusal.{Refusal}
use Rattle.model.specs.declared.Run.{Run}
use Rattle.model.specs.declared.Verdict.{Verdict}
use Rattle.model.specs.Calls.{answer_call, answer_given, capacity, is_long, page_after, run_call, run_given, run_of, refused_by, run_verdict, scratch_for, scratch_needed, start_path}
use Rattle.model.specs.Records.{record_length}
use Rattle.model.specs.Copies.{with_copy}
use Rattle.model.specs.Log.{Path, limit, longest_run}
use Rattle.model.specs.Systems.{System}
use Rattle.model.specs.Tables.{Reading, accepted, refused, read, saturated_of, system_of}
use Rattle.model.specs.Unfolding.{path_steps}
use Rattle.model.proofs.Prefixes.{answer_prefix, run_prefix, telling}
use Rattle.model.proofs.Tests.{by_test, or_left}
use Rattle.listing.specs.LineText.{Lent, line_log, line_page, line_records, line_scratch, line_text, text_with}
use Rattle.listing.specs.Listing.{answer_lines, is_reachable, listed, listing, run_lines}

-- ---- lengths alone count
answer_lengths : (input log scratch log' scratch' : List ℕ) → length log ≡ length log' → length scratch ≡ length scratch' → (answer_call input log scratch).answer ≡ (answer_call input log' scratch').answer
unfolding answer_call
answer_lengths input log scratch log' scratch' l s = ap₂ (answer_given (read input)) l s

-- a refused run lists nothing of the page, and any other leaves zeros behind the run
page_lengths : (g : Result Run Refusal) (run page page' : List ℕ) → length page ≡ length page' → run_lines g (page_after (refused_by g) run page) ≡ run_lines g (page_after (refused_by g) run page')
unfolding run_lines page_after
page_lengths (Ok x) run page page' h = ap (λ (n : ℕ). run_lines (Ok x) (run ++ replicate (n - length run) 0)) h
page_lengths (Err r) run page page' h = refl

-- what the run call lists
abbrev ran_lines : List ℕ → List ℕ → List ℕ → List ℕ → List ℕ
ran_lines input log scratch page = run_lines (run_call input log scratch page).answer (run_call input log scratch page).page

run_lengths : (input log scratch page log' scratch' page' : List ℕ) → length log ≡ length log' → length scratch ≡ length scratch' → length page ≡ length page' → ran_lines input log scratch page ≡ ran_lines input log' scratch' page'
unfolding run_call
run_lengths input log scratch page log' scratch' page' l s p =
    let given = run_given (read input) (length log) (length scratch) (length page) in
    let given' = run_given (read input) (length log') (length scratch') (length page') in
    let same : given ≡ given' = rw (l, s, p) in
    page_lengths given (run_of (read input)) page page' p ∙ ap (λ (g : Result Run Refusal). run_lines g (page_after (refused_by g) (run_of (read input)) page')) same

text_lengths : (input log scratch page log' scratch' page' : List ℕ) → length log ≡ length log' → length scratch ≡ length scratch' → length page ≡ length page' → text_with input log scratch page ≡ text_with input log' scratch' page'
unfolding text_with listing
text_lengths input log scratch page log' scratch' page' l s p =
    ap₂ (λ (a : Result Verdict Refusal) (ran : List ℕ). answer_lines a ++ cond (is_reachable a) ran []) (answer_lengths input log scratch log' scratch' l s) (run_lengths input log scratch page log' scratch' page' l s p)

zeros_length : (n : ℕ) → n ≡ length (replicate {A = ℕ} n 0)
zeros_length n = sym (length-replicate {A = ℕ} n 0)

text_of : (input log scratch page : List ℕ) → Lent log scratch page → text_with input log scratch page ≡ line_text input
unfolding line_text
text_of input log scratch page b =
    text_lengths input log scratch page line_log line_scratch line_page (b.log_length ∙ zeros_length (line_records * record_length)) (b.scratch_length ∙ zeros_length (scratch_for line_records))
    (b.page_length ∙ zeros_length 10000)

-- ---- a reachable answer with the run behind it, or another answer alone, is the whole text
module _ (input log scratch page : List ℕ) (a : Result Verdict Refusal) (b : Lent log scratch page) (e : a ≡ (answer_call input log scratch).answer) where
  text_is : answer_lines a ++ cond (is_reachable a) (ran_lines input log scratch page) [] ≡ line_text input
  unfolding text_with listing
  text_is = ap (λ (x : Result Verdict Refusal). answer_lines x ++ cond (is_reachable x) (ran_lines input log scratch page) []) e ∙ text_of input log scratch page b

  pub text_with_run : is_reachable a ≡ true → {ran : Result Run Refusal} {left : List ℕ} → ran ≡ (run_call input log scratch page).answer → left ≡ (run_call input log scratch page).page
      → answer_lines a ++ run_lines ran left ≡ line_text input
  text_with_run y r l = let t = text_is in ap₂ (λ (x : Result Run Refusal) (p : List ℕ). answer_lines a ++ run_lines x p) r l ∙ rw y at t

  pub text_alone : is_reachable a ≡ false → answer_lines a ≡ line_text input
  text_alone n = let t = text_is in sym (append-nil (answer_lines a)) ∙ rw n at t

-- ---- bytes behind the input's buffer change nothing
pub line_prefix : (n : ℕ) (input : List ℕ) → telling ≤ n → line_text (take n input) ≡ line_text input
unfolding line_text text_with
line_prefix n input h = rw (answer_prefix n input line_log line_scratch h, run_prefix n input line_log line_scratch line_page h)

-- the buffer of the program
pub line_buffer : (input : List ℕ) → line_text (take 65536 input) ≡ line_text input
line_buffer input = line_prefix 65536 input (omega arith)

-- ---- a run has no more rules than the page has places
verdict_fits : (sys : System) (room : ℕ) (path : Option Path) → listed (run_verdict sys room path) ≤ room
verdict_fits sys room none = omega arith
verdict_fits sys room (some p) =
    let steps = path_steps (limit (with_copy sys)) p.numbers in
    by_test (is_long steps room) (λ y. rw y (omega arith)) (λ n. rw n (ltb-false room steps (or_left (ltb room steps) (ltb longest_run steps) n)))

given_fits : (r : Reading) (log scratch room : ℕ) → listed (run_given r log scratch room) ≤ room
unfolding run_given
given_fits (refused number place) log scratch room = omega arith
given_fits (accepted items) log scratch room =
    by_test (ltb scratch (scratch_needed log)) (λ y. rw y (omega arith)) (λ n. rw n
    (by_test (ltb (capacity log) (length (limit (saturated_of items)))) (λ y. rw y (omega arith)) (λ m. rw m (verdict_fits (system_of items) room (start_path (saturated_of items))))))

pub run_fits_lem : (input log scratch page : List ℕ) → listed (run_call input log scratch page).answer ≤ length page
unfolding run_call
run_fits_lem input log scratch page = given_fits (read input) (length log) (length scratch) (length page)
