-- From what the search and the unfolding give to the verdict and the run.
use mathlib.Core.Path.{◌≡◌, refl, ap, ap₂, sym, subst, ◌∙◌}
use mathlib.Core.Bool.{true, false}
use mathlib.Core.Option.{Option, none, some}
use mathlib.Core.List.{List, ◌++◌}
use Prim.Native.Nat.{ℕ, ◌-◌, ◌≤◌}
use native.Mathlib.Omega.{arith}
use lib.Dec.{ltb}
use lib.ListN.{length, take, drop, replicate, length-append, length-drop}
use lib.Seq.{take_at}
use borrow.Author.Tests.{ltb-false}
use Rattle.std.specs.Prelude.{Result, Ok}
use Rattle.model.specs.declared.Refusal.{Refusal}
use Rattle.model.specs.declared.Run.{Run}
use Rattle.model.specs.Calls.{zeros, filled, refuse, verdict, start_path, is_long, page_after}
use Rattle.model.specs.Log.{Record, Path, limit, rounds, saturated_at, longest_run}
use Rattle.model.specs.Unfolding.{emitted, path_steps}
use Rattle.model.proofs.Closing.{zeros_same}
use Rattle.model.proofs.Copies.{peak_copy}
use Rattle.model.proofs.Reachability.{answer_steps}
use Rattle.model.proofs.Tests.{or_left, or_right}
use Rattle.table.specs.declared.Table.{Table}
use Rattle.table.specs.Reading.{saturated_in, system_in}
use Rattle.scratch.specs.StackNumbers.{stack_of}
use Rattle.std.specs.Prelude.{Option as Optional, Some, None}
use Rattle.verdict.specs.declared.Held.{Held}
use Rattle.start.specs.Search.{start_found, Sought}
use Rattle.unfold.specs.Runs.{Unfoldable, Unfolded}
use Rattle.unfold.proofs.Working.{path_unfoldable}
use Rattle.verdict.specs.Verdicts.{stated, AtLimit, PathOnStack, start_run, RunLeft}

-- ---- the verdict
stated_found : (log : List Record) (o : Option Path) → stated (start_found log o) (length log) (rounds log) ≡ verdict log o
unfolding stated
stated_found log none = refl
stated_found log (some p) = refl

pub verdict_stated : {table : List ℕ} {t : Table} {log : List ℕ} {h : Held} {s : List ℕ} → AtLimit table t log h s → {answer : Optional ℕ} {s' : List ℕ}
    → Sought table t (saturated_at (saturated_in table)) answer s' → stated answer h.count h.rounds ≡ verdict (limit (saturated_in table)) (start_path (saturated_in table))
verdict_stated {table} w f = rw (f.given, sym w.log_of.size, w.highest) (stated_found (limit (saturated_in table)) (start_path (saturated_in table)))

-- ---- whether a run is long
pub short_fits : (steps room : ℕ) → is_long steps room ≡ false → (steps ≤ room) × (steps ≤ longest_run)
short_fits steps room e =
    (ltb-false room steps (or_left (ltb room steps) (ltb longest_run steps) e), ltb-false longest_run steps (or_right (ltb room steps) (ltb longest_run steps) e))

-- ---- the run of a path on the stack
-- the page with the run, and zeros behind it
page_filled : (run page page₁ page₂ : List ℕ) (used : ℕ) → length run ≡ used → used ≤ length page → page₁ ≡ run ++ drop (length run) page
    → page₂ ≡ take used page₁ ++ replicate (length page₁ - used) 0 → page₂ ≡ filled run page
page_filled run page page₁ page₂ used size room e f =
    let rest : List ℕ = drop (length run) page in
    let long : length page₁ - used ≡ length page - length run = omega (arith, ap length e, length-append run rest, length-drop (length run) page) in
    let front : take used page₁ ≡ run = ap (λ (l : List ℕ). take used l) e ∙ take_at run rest used size in
    f ∙ ap₂ (λ (l : List ℕ) (n : ℕ). l ++ replicate n 0) front long

module _ {table : List ℕ} {t : Table} {log : List ℕ} {count most steps : ℕ} {s : List ℕ} (w : PathOnStack table t log count most steps s) {page : List ℕ} where
  pub run_long : is_long steps (length page) ≡ true → {s' : List ℕ} → s' ≡ zeros s → RunLeft table s page (refuse 11 0) s' page
  unfolding page_after
  run_long e z = record { given = rw (w.is, ← w.figure, e); cleared = z; run = refl }

  module _ (short : is_long steps (length page) ≡ false) where
    pub run_unfoldable : Unfoldable (saturated_in table) (stack_of s t.pile) page
    run_unfoldable =
        let f = short_fits steps (length page) short in
        path_unfoldable w.log_of w.path w.is (stack_of s t.pile) page w.stack (omega (arith, f.0, w.figure)) (omega (arith, f.1, w.figure))

    pub run_written : {page₁ page₂ s₂ : List ℕ} (s₁ : List ℕ) {transitions used highest : ℕ} → Unfolded (saturated_in table) (stack_of s t.pile) page page₁ highest → used ≡ steps
        → transitions ≡ count → page₂ ≡ take used page₁ ++ replicate (length page₁ - used) 0 → s₂ ≡ zeros s₁ → length s₁ ≡ length s
        → RunLeft table s page (Ok (record { transitions = transitions; rounds = most; steps = steps; peak = highest })) s₂ page₂
    unfolding page_after start_run
    run_written {page₁} {page₂} s₁ {used = used} {highest = highest} u us tr f z e =
        let run : List ℕ = emitted (limit (saturated_in table)) w.path.numbers in
        let v : Unfolded (saturated_in table) w.path.numbers page page₁ highest = subst (λ (ns : List ℕ). Unfolded (saturated_in table) ns page page₁ highest) w.stack u in
        let fits = short_fits steps (length page) short in
        let size : length run ≡ used = omega (arith, w.figure, fits.1, answer_steps (saturated_in table) (saturated_at (saturated_in table)) (system_in table).start w.path w.is) in
        record {
          given = rw (w.is, ← w.figure, short, tr, ← w.log_of.size, w.highest, v.highest ∙ peak_copy (system_in table) run (system_in table).start);
          cleared = z ∙ zeros_same s₁ s e;
          run = page_filled run page page₁ page₂ used size (omega (arith, fits.0)) v.written f ∙ rw w.is;
        }

-- ---- from the search to the run
no_path : (log : List Record) (o : Option Path) → None ≡ start_found log o → o ≡ none
no_path log none e = refl
no_path log (some p) e = let z : ◌≡◌ {A = ℕ} 0 1 = cc in absurd (omega arith)

path_found : (log : List Record) (o : Option Path) (steps : ℕ) → Some steps ≡ start_found log o → (p : Path) × (o ≡ some p) × (steps ≡ path_steps log p.numbers)
path_found log none steps e = let z : ◌≡◌ {A = ℕ} 0 1 = cc in absurd (omega arith)
path_found log (some p) steps e = (p, refl, cc)

module _ {table : List ℕ} {t : Table} {log : List ℕ} {h : Held} {s : List ℕ} (w : AtLimit table t log h s) {answer : Optional ℕ} {s₁ : List ℕ}
    (f : Sought table t (saturated_at (saturated_in table)) answer s₁) (size : length s₁ ≡ length s) where
  pub run_none : {page s₂ : List ℕ} → answer ≡ None → s₂ ≡ zeros s₁ → RunLeft table s page (refuse 16 0) s₂ page
  unfolding page_after
  run_none e z = record {
    given = rw (no_path (limit (saturated_in table)) (start_path (saturated_in table)) (sym e ∙ f.given));
    cleared = z ∙ zeros_same s₁ s size;
    run = refl;
  }

  pub path_stacked : {steps : ℕ} → answer ≡ Some steps → PathOnStack table t log h.count h.rounds steps s₁
  path_stacked {steps} e =
      let p = path_found (limit (saturated_in table)) (start_path (saturated_in table)) steps (sym e ∙ f.given) in
      record {
        log_of = w.log_of;
        room = omega (arith, w.room, w.linked.room.fits, size);
        highest = w.highest;
        path = p.0;
        is = p.1;
        stack = f.stack p.0 p.1;
        figure = p.2;
      }

  pub run_back : {page : List ℕ} {r : Result Run Refusal} {s₂ page₂ : List ℕ} → RunLeft table s₁ page r s₂ page₂ → RunLeft table s page r s₂ page₂
  run_back d = record { given = d.given; cleared = d.cleared ∙ zeros_same s₁ s size; run = d.run }
