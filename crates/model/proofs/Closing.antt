-- What refusals leave: laws of the closing contents.
use mathlib.Core.Path.{◌≡◌, ap, refl, subst, sym}
use mathlib.Core.Bool.{false, true, true≢false}
use mathlib.Core.Option.{Option, none, some}
use mathlib.Core.List.{List, [], ◌∷◌}
use Prim.Native.Nat.{ℕ, zero, suc, ◌+◌, ◌≤◌}
use native.Mathlib.Omega.{arith}
use lib.Dec.{ltb}
use lib.ListN.{get_elem?, length, replicate}
use borrow.Author.Tests.{le-leb, ne_eqb}
use Rattle.model.specs.Calls.{answer_call, answer_given, changes_nothing, filled, log_after, page_after, records_of, refused_by, run_call, run_given, run_of, scratch_after, step_by, step_to, walk_call, walk_from, walk_given, walk_scratch, zeros}
use Rattle.model.specs.Lists.{value_or}
use Rattle.model.specs.Log.{Record}
use Rattle.model.specs.Systems.{Configuration, Rule, System, fire}
use Rattle.model.specs.Tables.{Reading, accepted, read, refused, system_of}
use Rattle.model.proofs.RefusalNumbers.{Numbered9, read_numbered}
use Rattle.model.proofs.Tests.{by_test}

-- zeros know the length alone
pub zeros_same : (s s' : List ℕ) → length s ≡ length s' → zeros s ≡ zeros s'
zeros_same s s' e = ap (λ (n : ℕ). replicate n 0) e

-- a refused table has a number from 1 to 9, and changes no buffer
pub refusal_number : (table : List ℕ) (number place : ℕ) → read table ≡ refused number place → (1 ≤ number) × (number ≤ 9)
refusal_number table number place e = subst Numbered9 e (read_numbered table)

pub refusal_changes_nothing : (table : List ℕ) (number place : ℕ) → read table ≡ refused number place → changes_nothing number ≡ true
refusal_changes_nothing table number place e =
    let b = refusal_number table number place e in
    rw (le-leb 1 number b.0, le-leb number 9 b.1)

-- ---- every buffer of a call, by the refusal's number
log_untouched : (number : ℕ) (records : List Record) (log : List ℕ) → changes_nothing number ≡ true → log_after number records log ≡ log
unfolding log_after
log_untouched number records log e = rw e

scratch_untouched : (number : ℕ) (scratch : List ℕ) → changes_nothing number ≡ true → scratch_after number scratch ≡ scratch
unfolding scratch_after
scratch_untouched number scratch e = rw e

scratch_zero : (number : ℕ) (scratch : List ℕ) → changes_nothing number ≡ false → scratch_after number scratch ≡ zeros scratch
unfolding scratch_after
scratch_zero number scratch e = rw e

page_untouched : (number : ℕ) (run page : List ℕ) → changes_nothing number ≡ true → page_after number run page ≡ page
unfolding page_after
page_untouched zero run page e = absurd (true≢false (sym e))
page_untouched (suc n) run page e = rw (ne_eqb (suc n) 0 (λ z. omega arith))

pub answer_closes : (table log scratch : List ℕ)
    → (changes_nothing (refused_by (answer_call table log scratch).answer) ≡ true → ((answer_call table log scratch).log ≡ log) × ((answer_call table log scratch).scratch ≡ scratch))
    × (changes_nothing (refused_by (answer_call table log scratch).answer) ≡ false → (answer_call table log scratch).scratch ≡ zeros scratch)
unfolding answer_call
answer_closes table log scratch =
    let number = refused_by (answer_given (read table) (length log) (length scratch)) in
    ((λ e. (log_untouched number (records_of (read table)) log e, scratch_untouched number scratch e)), scratch_zero number scratch)

pub run_closes : (table log scratch page : List ℕ)
    → (changes_nothing (refused_by (run_call table log scratch page).answer) ≡ true
    → ((run_call table log scratch page).log ≡ log) × ((run_call table log scratch page).scratch ≡ scratch) × ((run_call table log scratch page).page ≡ page))
    × (changes_nothing (refused_by (run_call table log scratch page).answer) ≡ false → (run_call table log scratch page).scratch ≡ zeros scratch)
unfolding run_call
run_closes table log scratch page =
    let number = refused_by (run_given (read table) (length log) (length scratch) (length page)) in
    ((λ e. (log_untouched number (records_of (read table)) log e, scratch_untouched number scratch e, page_untouched number (run_of (read table)) page e)), scratch_zero number scratch)

-- once a walk has begun it is refused by none of the numbers that change nothing
late : (sys : System) (size step : ℕ) (ns : List ℕ) (c : Configuration) → changes_nothing (refused_by (walk_from sys size step ns c).answer) ≡ true → ⊥
late sys size step [] c e = true≢false (sym e)
late sys size step (n ∷ ns) c e = by_rule (λ d. late sys size (step + 1) ns d) (get_elem? sys.rules n) e
  where
    by_step : ((d : Configuration) → changes_nothing (refused_by (walk_from sys size (step + 1) ns d).answer) ≡ true → ⊥) → (o : Option Configuration)
        → changes_nothing (refused_by (step_to (λ d. walk_from sys size (step + 1) ns d) size step (n ∷ ns) c o).answer) ≡ true → ⊥
    by_step later none e = true≢false (sym e)
    by_step later (some d) e = by_test (ltb size (length d.word)) (λ y. true≢false (sym (rw y at e))) (λ m. later d (rw m at e))

    by_rule : ((d : Configuration) → changes_nothing (refused_by (walk_from sys size (step + 1) ns d).answer) ≡ true → ⊥) → (o : Option Rule)
        → changes_nothing (refused_by (step_by (λ d. walk_from sys size (step + 1) ns d) sys.loc size step (n ∷ ns) c o).answer) ≡ true → ⊥
    by_rule later none e = true≢false (sym e)
    by_rule later (some r) e = by_step later (fire sys.loc r c) e

-- a walk that is refused before its first step leaves the pile
pile_untouched : (table list pile : List ℕ) (r : Reading) (scratch : ℕ) → changes_nothing (refused_by (walk_given r list (length pile) scratch).answer) ≡ true
    → value_or pile (λ (w : List ℕ). filled w pile) (walk_given r list (length pile) scratch).pile ≡ pile
unfolding walk_given
pile_untouched table list pile (refused number place) scratch e = refl
pile_untouched table list pile (accepted items) scratch e = by_test (ltb scratch walk_scratch)
    (λ y. rw y)
    (λ n. by_test (ltb (length pile) (length (system_of items).start.word))
    (λ y. rw (n, y))
    (λ m. absurd (late (system_of items) (length pile) 0 list (system_of items).start (rw (n, m) at e))))

pub walk_closes : (table list pile scratch : List ℕ)
    → (changes_nothing (refused_by (walk_call table list pile scratch).answer) ≡ true → ((walk_call table list pile scratch).pile ≡ pile) × ((walk_call table list pile scratch).scratch ≡ scratch))
    × (changes_nothing (refused_by (walk_call table list pile scratch).answer) ≡ false → (walk_call table list pile scratch).scratch ≡ zeros scratch)
unfolding walk_call
walk_closes table list pile scratch =
    let number = refused_by (walk_given (read table) list (length pile) (length scratch)).answer in
    ((λ e. (pile_untouched table list pile (read table) (length scratch) e, scratch_untouched number scratch e)), scratch_zero number scratch)
