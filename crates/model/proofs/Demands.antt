-- Demand 3 holds of the definitions of the answer and the run call.
use mathlib.Core.Path.{◌∙◌, ◌≡◌, ap, refl, subst, sym}
use mathlib.Core.Bool.{cond, false, true}
use mathlib.Core.Logic.{◌⊎◌, inl, inr, ⊎_elim}
use mathlib.Core.Option.{Option, none, some}
use mathlib.Core.List.{List}
use Prim.Native.Nat.{◌-◌, ◌<◌, ◌≤◌, min, ℕ}
use native.Mathlib.Omega.{arith}
use lib.Dec.{ltb}
use lib.ListN.{length, replicate, take}
use lib.Seq.{take_at}
use borrow.Author.Tests.{le-ltb, lt-ltb, ltb-false, ltb-true}
use Rattle.std.specs.Prelude.{Result, Ok}
use Rattle.model.specs.declared.Refusal.{Refusal}
use Rattle.model.specs.declared.Run.{Run}
use Rattle.model.specs.declared.Verdict.{Verdict}
use Rattle.model.specs.Calls.{answer_call, answer_given, capacity, filled, is_long, page_after, refuse, refused_by, run_found, run_call, run_given, run_of, run_verdict, scratch_needed, start_path, verdict}
use Rattle.model.specs.Copies.{with_copy}
use Rattle.model.specs.Demands.{StepsCounted, Decided, Demand3, LogServes, LogShort, NoRun, ScratchServes, TooLong}
use Rattle.model.specs.Log.{Path, Record, limit, rounds, saturated_at, steps_cap, longest_run}
use Rattle.model.specs.Systems.{Joins, System, peak}
use Rattle.model.specs.Tables.{Item, Reading, accepted, read, refused, saturated_of, system_of}
use Rattle.model.specs.Unfolding.{Unfolds, emitted, path_steps}
use Rattle.model.proofs.Copies.{joins_with_copy, with_copy_joins}
use Rattle.model.proofs.Emission.{unfolds_unique}
use Rattle.model.proofs.Limit.{limit_saturated}
use Rattle.model.proofs.Reachability.{answer_no, answer_steps, answer_yes, path_unfolds}
use Rattle.model.proofs.CheckedItems.{Complete, read_complete}
use Rattle.model.proofs.AcceptedTables.{accepted_control, accepted_cooperating, accepted_copyable}
use Rattle.model.proofs.CopiedTables.{accepted_bytes, accepted_well_formed}
use Rattle.model.proofs.RefusalNumbers.{Numbered9, read_numbered}
use Rattle.model.proofs.Tests.{by_test}

-- ---- every accepted table is decided: its start's path in the limit, or no run
module _ (items : List Item) (c : Complete items) where
  pub found_joins : (p : Path) → start_path (saturated_of items) ≡ some p → Joins (system_of items) (system_of items).start (emitted (limit (saturated_of items)) p.numbers)
  found_joins p e =
      with_copy_joins (system_of items) (accepted_copyable items c) (accepted_cooperating items c) (system_of items).start (emitted (limit (saturated_of items)) p.numbers) (accepted_control items c)
      (answer_yes (saturated_of items) (accepted_well_formed items c) (saturated_at (saturated_of items)) (system_of items).start (accepted_control items c) p e)

  pub none_joins : start_path (saturated_of items) ≡ none → NoRun (system_of items)
  none_joins e ns j =
      answer_no (saturated_of items) (accepted_well_formed items c) (saturated_at (saturated_of items)) (limit_saturated (saturated_of items) (accepted_bytes items c)) (system_of items).start e ns
      (joins_with_copy (system_of items) (accepted_copyable items c) (system_of items).start ns j)

-- ---- steps
steps_figure : (sys : System) (p : Path) → start_path sys ≡ some p → path_steps (limit sys) p.numbers ≡ min (length (emitted (limit sys) p.numbers)) steps_cap
steps_figure sys p e = answer_steps sys (saturated_at sys) sys.start p e

pub found_counts : (sys : System) (p : Path) → start_path sys ≡ some p → StepsCounted sys (length (emitted (limit sys) p.numbers))
found_counts sys p e = record { path = p; is = e; run = emitted (limit sys) p.numbers; unfolds = path_unfolds sys (saturated_at sys) sys.start p e; counted = refl }

-- the rules emitted are those of the function
pub counts_emitted : (sys : System) (n : ℕ) (p : Path) → start_path sys ≡ some p → (c : StepsCounted sys n) → c.run ≡ emitted (limit sys) p.numbers
counts_emitted sys n p e c =
    let same : c.path ≡ p = some_inj (sym c.is ∙ e) in
    sym (unfolds_unique c.unfolds (emitted (limit sys) p.numbers) (subst (λ (q : Path). Unfolds (limit sys) q.numbers (emitted (limit sys) p.numbers)) (sym same) (path_unfolds sys (saturated_at sys) sys.start p e)))
  where
    some_inj : {p q : Path} → some p ≡ some q → p ≡ q
    some_inj e = cc

-- ---- what the calls give under the premises
module _ (table log scratch : List ℕ) (items : List Item) (e : read table ≡ accepted items) (serves : ScratchServes log scratch) where
  answer_serves : LogServes (saturated_of items) log → (answer_call table log scratch).answer ≡ Ok (verdict (limit (saturated_of items)) (start_path (saturated_of items)))
  unfolding answer_call answer_given
  answer_serves l = rw (e, le-ltb (length scratch) (scratch_needed (length log)) serves, le-ltb (capacity (length log)) (length (limit (saturated_of items))) l)

  answer_lacks : LogShort (saturated_of items) log → (answer_call table log scratch).answer ≡ refuse 10 0
  unfolding answer_call answer_given
  answer_lacks l = rw (e, le-ltb (length scratch) (scratch_needed (length log)) serves, lt-ltb (capacity (length log)) (length (limit (saturated_of items))) l)

  run_serves : (page : List ℕ) → LogServes (saturated_of items) log → (run_call table log scratch page).answer ≡ run_verdict (system_of items) (length page) (start_path (saturated_of items))
  unfolding run_call run_given
  run_serves page l = rw (e, le-ltb (length scratch) (scratch_needed (length log)) serves, le-ltb (capacity (length log)) (length (limit (saturated_of items))) l)

  run_lacks : (page : List ℕ) → LogShort (saturated_of items) log → (run_call table log scratch page).answer ≡ refuse 10 0
  unfolding run_call run_given
  run_lacks page l = rw (e, le-ltb (length scratch) (scratch_needed (length log)) serves, lt-ltb (capacity (length log)) (length (limit (saturated_of items))) l)

  pub page_after_lem : (page : List ℕ) (p : Path) → start_path (saturated_of items) ≡ some p → refused_by (run_call table log scratch page).answer ≡ 0
      → (run_call table log scratch page).page ≡ filled (emitted (limit (saturated_of items)) p.numbers) page
  unfolding run_call page_after run_of
  page_after_lem page p q z = rw z (rw (e, q))

-- ---- the steps figure tells whether the run is too long
long_true : (n pageLength : ℕ) → is_long (min n steps_cap) pageLength ≡ true → (pageLength < n) ⊎ (longest_run < n)
long_true n m e = by_test (ltb m (min n steps_cap))
    (λ y. inl (let less : m < min n steps_cap = ltb-true m (min n steps_cap) y in omega arith))
    (λ z. inr (let less : longest_run < min n steps_cap = ltb-true longest_run (min n steps_cap) (rw z at e) in omega arith))

long_of : (n pageLength : ℕ) → (pageLength < n) ⊎ (longest_run < n) → is_long (min n steps_cap) pageLength ≡ true
long_of n m t = by_test (ltb m (min n steps_cap)) (λ y. rw y) (λ z. rw z (lt-ltb longest_run (min n steps_cap)
    (let more : min n steps_cap ≤ m = ltb-false m (min n steps_cap) z in ⊎_elim (λ (l : m < n). omega arith) (λ (l : longest_run < n). omega arith) t)))

pub take_run : (run page : List ℕ) → take (length run) (filled run page) ≡ run
take_run run page = take_at run (replicate (length page - length run) 0) (length run) refl

-- ---- demand 3 under both premises, by the start's path
module _ (sys : System) (page : List ℕ) (answer : Result Verdict Refusal) (ran : Result Run Refusal) (left : List ℕ) where
  decided_none : start_path (with_copy sys) ≡ none → NoRun sys → answer ≡ Ok (verdict (limit (with_copy sys)) none) → ran ≡ refuse 16 0 → Decided sys page answer ran left
  decided_none e never a r = record {
    unreachable = ((λ q. a), (λ q. never));
    reachable = ((λ j. absurd (never j.0 j.1)), (λ q. absurd (let z : ◌≡◌ {A = ℕ} 0 1 = cc in omega arith)));
    long = λ n k. absurd (none_some k.path k.is);
    given = λ n k. absurd (none_some k.path k.is);
    no_run = ((λ q. r), (λ q. never));
  }
    where
      none_some : (p : Path) → start_path (with_copy sys) ≡ some p → ⊥
      none_some p q = let z : ◌≡◌ {A = ℕ} 0 1 = cc in omega arith

  module _ (p : Path) (e : start_path (with_copy sys) ≡ some p) (joins : Joins sys sys.start (emitted (limit (with_copy sys)) p.numbers))
      (a : answer ≡ Ok (verdict (limit (with_copy sys)) (some p))) (r : ran ≡ run_verdict sys (length page) (some p))
      (l : refused_by ran ≡ 0 → left ≡ filled (emitted (limit (with_copy sys)) p.numbers) page) where
    abbrev figure : ℕ
    figure = path_steps (limit (with_copy sys)) p.numbers

    steps_are : (n : ℕ) (k : StepsCounted (with_copy sys) n) → (k.run ≡ emitted (limit (with_copy sys)) p.numbers) × (figure ≡ min n steps_cap) × (n ≡ length (emitted (limit (with_copy sys)) p.numbers))
    steps_are n k =
        let same : k.run ≡ emitted (limit (with_copy sys)) p.numbers = counts_emitted (with_copy sys) n p e k in
        let long : n ≡ length (emitted (limit (with_copy sys)) p.numbers) = sym k.counted ∙ ap length same in
        (same, steps_figure (with_copy sys) p e ∙ ap (λ (m : ℕ). min m steps_cap) (sym long), long)

    -- refused as long, or not
    long_run : (n : ℕ) (k : StepsCounted (with_copy sys) n) → TooLong n page → ran ≡ refuse 11 0
    long_run n k t = r ∙ rw ((steps_are n k).1, long_of n (length page) t)

    short_figure : (n : ℕ) (k : StepsCounted (with_copy sys) n) → (TooLong n page → ⊥) → is_long figure (length page) ≡ false
    short_figure n k f = by_test (is_long figure (length page)) (λ y. absurd (f (long_true n (length page) (subst (λ (m : ℕ). is_long m (length page) ≡ true) (steps_are n k).1 y)))) (λ z. z)

    refused_long : (n : ℕ) (k : StepsCounted (with_copy sys) n) → ran ≡ refuse 11 0 → TooLong n page
    refused_long n k q = by_test (is_long figure (length page))
        (λ y. long_true n (length page) (subst (λ (m : ℕ). is_long m (length page) ≡ true) (steps_are n k).1 y))
        (λ z. absurd (let reached : Ok (run_found sys (limit (with_copy sys)) p) ≡ refuse 11 0 = sym (r ∙ rw z) ∙ q in
        let bad : ◌≡◌ {A = ℕ} 0 1 = cc in omega arith))

    -- the figure is exact where the run is not too long
    exact : (n : ℕ) → (TooLong n page → ⊥) → min n steps_cap ≡ n
    exact n f = by_test (ltb longest_run n) (λ y. absurd (f (inr (ltb-true longest_run n y)))) (λ z. let le : n ≤ longest_run = ltb-false longest_run n z in omega arith)

    given_run : (n : ℕ) (k : StepsCounted (with_copy sys) n) → (TooLong n page → ⊥) → ran ≡ Ok (record { transitions = length (limit (with_copy sys)); rounds = rounds (limit (with_copy sys)); steps = n; peak = peak sys k.run sys.start })
    given_run n k f = r ∙ rw (short_figure n k f, (steps_are n k).1, exact n f, (steps_are n k).0)

    given_page : (n : ℕ) (k : StepsCounted (with_copy sys) n) → (TooLong n page → ⊥) → Joins sys sys.start (take n left)
    given_page n k f = rw (l (rw (given_run n k f)), (steps_are n k).2, take_run (emitted (limit (with_copy sys)) p.numbers) page) joins

    decided_some : Decided sys page answer ran left
    decided_some = record {
      unreachable = ((λ never. absurd (never (emitted (limit (with_copy sys)) p.numbers) joins)), (λ q. absurd (let z : ◌≡◌ {A = ℕ} 0 1 = cc in omega arith)));
      reachable = (
        (λ j. (length (emitted (limit (with_copy sys)) p.numbers), found_counts (with_copy sys) p e, a ∙ rw (steps_figure (with_copy sys) p e))),
        (λ q. (emitted (limit (with_copy sys)) p.numbers, joins)),
      );
      long = λ n k. (long_run n k, refused_long n k);
      given = λ n k f. (given_run n k f, a ∙ rw ((steps_are n k).1, exact n f), given_page n k f);
      no_run = ((λ never. absurd (never (emitted (limit (with_copy sys)) p.numbers) joins)), (λ q. absurd (not_16 q)));
    }
      where
        not_16 : ran ≡ refuse 16 0 → ⊥
        not_16 q = by_test (is_long figure (length page))
            (λ y. let bad : refuse 11 0 ≡ refuse 16 0 = sym (r ∙ rw y) ∙ q in let z : ◌≡◌ {A = ℕ} 11 16 = ap refused_by bad in omega arith)
            (λ n. let bad : Ok (run_found sys (limit (with_copy sys)) p) ≡ refuse 16 0 = sym (r ∙ rw n) ∙ q in
            let z : ◌≡◌ {A = ℕ} 0 1 = cc in omega arith)

-- ---- a short log, and nowhere else
-- no verdict is a refusal 10
verdict_no_10 : (log : List Record) (o : Option Path) → Ok (verdict log o) ≡ refuse 10 0 → ⊥
verdict_no_10 log none e = let z : ◌≡◌ {A = ℕ} 0 1 = cc in omega arith
verdict_no_10 log (some p) e = let z : ◌≡◌ {A = ℕ} 0 1 = cc in omega arith

run_no_10 : (sys : System) (m : ℕ) (o : Option Path) → run_verdict sys m o ≡ refuse 10 0 → ⊥
run_no_10 sys m none e = let z : ◌≡◌ {A = ℕ} 16 10 = ap refused_by e in omega arith
run_no_10 sys m (some p) e = by_test (is_long (path_steps (limit (with_copy sys)) p.numbers) m)
    (λ y. let bad : refuse 11 0 ≡ refuse 10 0 = rw y at e in let z : ◌≡◌ {A = ℕ} 11 10 = ap refused_by bad in omega arith)
    (λ n. let bad : Ok (run_found sys (limit (with_copy sys)) p) ≡ refuse 10 0 = rw n at e in
    let z : ◌≡◌ {A = ℕ} 0 1 = cc in omega arith)

-- a call that gives 10 past the table's checks has enough scratch and too short a log
module _ (A : Type 0) (refuse : ℕ → A) (distinct : refuse 15 ≡ refuse 10 → ⊥) (scratchLength needed room records : ℕ) (given : A) (not-10 : given ≡ refuse 10 → ⊥) where
  only_short : cond (ltb scratchLength needed) (refuse 15) (cond (ltb room records) (refuse 10) given) ≡ refuse 10 → (needed ≤ scratchLength) × (room < records)
  only_short e = by_test (ltb scratchLength needed)
      (λ y. absurd (distinct (rw y at e)))
      (λ n. by_test (ltb room records)
      (λ y. (ltb-false scratchLength needed n, ltb-true room records y))
      (λ m. absurd (not-10 (rw (n, m) at e))))

answer_only_short : (reading : Reading) (log scratch : List ℕ) → Numbered9 reading → answer_given reading (length log) (length scratch) ≡ refuse 10 0
    → (items : List Item) × (reading ≡ accepted items) × ScratchServes log scratch × LogShort (saturated_of items) log
unfolding answer_given
answer_only_short (refused n p) log scratch h e = absurd (let is : n ≡ 10 = ap refused_by e in omega (arith, h.1))
answer_only_short (accepted items) log scratch h e =
    let s = only_short (Result Verdict Refusal) (λ n. refuse n 0) (λ q. let z : ◌≡◌ {A = ℕ} 15 10 = ap refused_by q in omega arith) (length scratch) (scratch_needed (length log)) (capacity (length log)) (length (limit (saturated_of items)))
    (Ok (verdict (limit (saturated_of items)) (start_path (saturated_of items)))) (verdict_no_10 (limit (saturated_of items)) (start_path (saturated_of items))) e in
    (items, refl, s.0, s.1)

run_only_short : (reading : Reading) (log scratch page : List ℕ) → Numbered9 reading → run_given reading (length log) (length scratch) (length page) ≡ refuse 10 0
    → (items : List Item) × (reading ≡ accepted items) × ScratchServes log scratch × LogShort (saturated_of items) log
unfolding run_given
run_only_short (refused n p) log scratch page h e = absurd (let is : n ≡ 10 = ap refused_by e in omega (arith, h.1))
run_only_short (accepted items) log scratch page h e =
    let s = only_short (Result Run Refusal) (λ n. refuse n 0) (λ q. let z : ◌≡◌ {A = ℕ} 15 10 = ap refused_by q in omega arith) (length scratch) (scratch_needed (length log)) (capacity (length log)) (length (limit (saturated_of items)))
    (run_verdict (system_of items) (length page) (start_path (saturated_of items))) (run_no_10 (system_of items) (length page) (start_path (saturated_of items))) e in
    (items, refl, s.0, s.1)

-- ---- demand 3
decided_by : (table log scratch page : List ℕ) (items : List Item) → read table ≡ accepted items → ScratchServes log scratch → LogServes (saturated_of items) log
    → Decided (system_of items) page (answer_call table log scratch).answer (run_call table log scratch page).answer (run_call table log scratch page).page
decided_by table log scratch page items e s l = split (start_path (saturated_of items)) refl
  where
    split : (o : Option Path) → start_path (saturated_of items) ≡ o
        → Decided (system_of items) page (answer_call table log scratch).answer (run_call table log scratch page).answer (run_call table log scratch page).page
    split none q = decided_none (system_of items) page (answer_call table log scratch).answer (run_call table log scratch page).answer (run_call table log scratch page).page q
        (none_joins items (read_complete table items e) q)
        (answer_serves table log scratch items e s l ∙ ap (λ (o : Option Path). Ok (verdict (limit (saturated_of items)) o)) q)
        (run_serves table log scratch items e s page l ∙ ap (run_verdict (system_of items) (length page)) q)
    split (some p) q = decided_some (system_of items) page (answer_call table log scratch).answer (run_call table log scratch page).answer (run_call table log scratch page).page p q
        (found_joins items (read_complete table items e) p q)
        (answer_serves table log scratch items e s l ∙ ap (λ (o : Option Path). Ok (verdict (limit (saturated_of items)) o)) q)
        (run_serves table log scratch items e s page l ∙ ap (run_verdict (system_of items) (length page)) q)
        (page_after_lem table log scratch items e s page p q)

pub calls_decide : (table log scratch page : List ℕ) → Demand3 table log scratch page (answer_call table log scratch).answer (run_call table log scratch page).answer (run_call table log scratch page).page
unfolding answer_call run_call
calls_decide table log scratch page = record {
  decided = decided_by table log scratch page;
  answer_short = ((λ q. answer_lacks table log scratch q.0 q.1 q.2 q.3), answer_only_short (read table) log scratch (read_numbered table));
  run_short = ((λ q. run_lacks table log scratch q.0 q.1 q.2 page q.3), run_only_short (read table) log scratch page (read_numbered table));
}
