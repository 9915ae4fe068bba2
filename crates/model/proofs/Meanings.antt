-- What the word of the answer call tells, and what the run call writes, whatever the buffers: demand 3 without its premises.
use mathlib.Core.Path.{◌≡◌, refl, ap, sym, subst, ◌∙◌}
use mathlib.Core.Option.{Option, none, some}
use mathlib.Core.List.{List}
use Prim.Native.Nat.{ℕ, ◌≤◌}
use native.Mathlib.Omega.{arith}
use lib.Dec.{ltb}
use lib.ListN.{length, take}
use borrow.Author.Tests.{ltb-false}
use Rattle.std.specs.Prelude.{Result, Ok, Err}
use Rattle.model.specs.declared.Refusal.{Refusal}
use Rattle.model.specs.declared.Run.{Run}
use Rattle.model.specs.Calls.{answer_call, answer_given, capacity, is_long, refuse, refused_by, run_call, run_found, run_given, run_verdict, scratch_needed, start_path, verdict}
use Rattle.model.specs.Demands.{Decided, LogServes, ScratchServes, Tells, Writes}
use Rattle.model.specs.Log.{Path, limit}
use Rattle.model.specs.Systems.{peak}
use Rattle.model.specs.Tables.{Item, Reading, accepted, read, refused, saturated_of, system_of}
use Rattle.model.specs.Unfolding.{emitted, path_steps}
use Rattle.model.proofs.Closing.{refusal_number}
use Rattle.model.proofs.Demands.{calls_decide, counts_emitted, found_counts, found_joins, none_joins, page_after_lem, take_run}
use Rattle.model.proofs.CheckedItems.{read_complete}
use Rattle.model.proofs.Peak.{peak_is}
use Rattle.model.proofs.Tests.{by_test}

-- ---- the answer call
module _ (table : List ℕ) (items : List Item) (e : read table ≡ accepted items) where
  verdict_tells : (o : Option Path) → start_path (saturated_of items) ≡ o → Tells table (Ok (verdict (limit (saturated_of items)) o))
  verdict_tells none q = (items, e, none_joins items (read_complete table items e) q)
  verdict_tells (some p) q = (items, e, (emitted (limit (saturated_of items)) p.numbers, found_joins items (read_complete table items e) p q))

pub answer_tells : (table log scratch : List ℕ) → Tells table (answer_call table log scratch).answer
unfolding answer_call answer_given
answer_tells table log scratch = go (read table) refl
  where
    go : (r : Reading) → read table ≡ r → Tells table (answer_given r (length log) (length scratch))
    go (refused number place) e = (refusal_number table number place e).0
    go (accepted items) e =
        by_test (ltb (length scratch) (scratch_needed (length log))) (λ y. rw y (omega arith))
        (λ n. rw n (by_test (ltb (capacity (length log)) (length (limit (saturated_of items)))) (λ y. rw y (omega arith))
        (λ m. rw m (verdict_tells table items e (start_path (saturated_of items)) refl))))

-- ---- the run call
module _ (table log scratch page : List ℕ) where
  abbrev Right : Result Run Refusal → Type 0
  Right x = Writes table (run_call table log scratch page).page x

  given_is : (r : Reading) → read table ≡ r → (run_call table log scratch page).answer ≡ run_given r (length log) (length scratch) (length page)
  unfolding run_call
  given_is r e = ap (λ (x : Reading). run_given x (length log) (length scratch) (length page)) e

  module _ (items : List Item) (e : read table ≡ accepted items) (s : ScratchServes log scratch) (l : LogServes (saturated_of items) log) where
    decided : Decided (system_of items) page (answer_call table log scratch).answer (run_call table log scratch page).answer (run_call table log scratch page).page
    decided = (calls_decide table log scratch page).decided items e s l

    -- a run that was not refused
    written : (p : Path) → start_path (saturated_of items) ≡ some p → (x : Run) → (run_call table log scratch page).answer ≡ Ok x → Right (Ok x)
    written p q x is =
        let count : ℕ = length (emitted (limit (saturated_of items)) p.numbers) in
        let counts = found_counts (saturated_of items) p q in
        let given = decided.given count counts (λ long. let bad : Ok x ≡ refuse 11 0 = sym is ∙ (decided.long count counts).0 long in let z : ◌≡◌ {A = ℕ} 0 1 = cc in omega arith) in
        let same = same_run (sym is ∙ given.0) in
        let run : List ℕ = emitted (limit (saturated_of items)) p.numbers in
        let on-page : take x.steps (run_call table log scratch page).page ≡ run =
        ap (λ (m : ℕ). take m (run_call table log scratch page).page) same.0 ∙ ap (take count) (page_after_lem table log scratch items e s page p q (ap refused_by is)) ∙ take_run run page in
        let high : x.peak ≡ peak (system_of items) run (system_of items).start =
        same.1 ∙ ap (λ (ns : List ℕ). peak (system_of items) ns (system_of items).start) (counts_emitted (saturated_of items) count p q counts) in
        let joins = found_joins items (read_complete table items e) p q in
        (items, e, (rw on-page joins, rw (on-page, high) (peak_is (system_of items) run (system_of items).start joins.end joins.walks)))
      where
        same_run : {x y : Run} → ◌≡◌ {A = Result Run Refusal} (Ok x) (Ok y) → (x.steps ≡ y.steps) × (x.peak ≡ y.peak)
        same_run {x} {y} e = let same : x ≡ y = cc in (ap (λ (z : Run). z.steps) same, ap (λ (z : Run). z.peak) same)

    verdict_writes : (o : Option Path) → start_path (saturated_of items) ≡ o → (run_call table log scratch page).answer ≡ run_verdict (system_of items) (length page) o → Right (run_verdict (system_of items) (length page) o)
    verdict_writes none q is = omega arith
    verdict_writes (some p) q is = by_test (is_long (path_steps (limit (saturated_of items)) p.numbers) (length page))
        (λ y. rw y (omega arith))
        (λ n. rw n (written p q (run_found (system_of items) (limit (saturated_of items)) p) (is ∙ rw n)))

pub run_writes : (table log scratch page : List ℕ) → Writes table (run_call table log scratch page).page (run_call table log scratch page).answer
unfolding run_given
run_writes table log scratch page = subst (Right table log scratch page) (sym (given_is table log scratch page (read table) refl)) (go (read table) refl)
  where
    go : (r : Reading) → read table ≡ r → Right table log scratch page (run_given r (length log) (length scratch) (length page))
    go (refused number place) e = (refusal_number table number place e).0
    go (accepted items) e =
        let is = given_is table log scratch page (accepted items) e in
        by_test (ltb (length scratch) (scratch_needed (length log)))
        (λ y. rw y (omega arith))
        (λ n. rw n (by_test (ltb (capacity (length log)) (length (limit (saturated_of items))))
        (λ y. rw y (omega arith))
        (λ m. rw m (verdict_writes table log scratch page items e (ltb-false (length scratch) (scratch_needed (length log)) n) (ltb-false (capacity (length log)) (length (limit (saturated_of items))) m) (start_path (saturated_of items)) refl (is ∙ rw (n, m))))))

-- ---- from refusal 10 on the place is 0
abbrev pub Unplaced : {A : Type 0} → Result A Refusal → Type 0
Unplaced (Ok x) = Unit {0}
Unplaced (Err r) = 10 ≤ r.number → r.place ≡ 0

pub answer_placed : (table log scratch : List ℕ) → Unplaced (answer_call table log scratch).answer
unfolding answer_call answer_given
answer_placed table log scratch = go (read table) refl
  where
    go : (r : Reading) → read table ≡ r → Unplaced (answer_given r (length log) (length scratch))
    go (refused number place) e = λ h. absurd (omega (arith, (refusal_number table number place e).1))
    go (accepted items) e =
        by_test (ltb (length scratch) (scratch_needed (length log))) (λ y. rw y (λ h. refl))
        (λ n. rw n (by_test (ltb (capacity (length log)) (length (limit (saturated_of items)))) (λ y. rw y (λ h. refl)) (λ m. rw m tt)))

pub run_placed : (table log scratch page : List ℕ) → Unplaced (run_call table log scratch page).answer
unfolding run_call run_given
run_placed table log scratch page = go (read table) refl
  where
    found : (items : List Item) (o : Option Path) → Unplaced (run_verdict (system_of items) (length page) o)
    found items none = λ h. refl
    found items (some p) = by_test (is_long (path_steps (limit (saturated_of items)) p.numbers) (length page)) (λ y. rw y (λ h. refl)) (λ n. rw n tt)

    go : (r : Reading) → read table ≡ r → Unplaced (run_given r (length log) (length scratch) (length page))
    go (refused number place) e = λ h. absurd (omega (arith, (refusal_number table number place e).1))
    go (accepted items) e =
        by_test (ltb (length scratch) (scratch_needed (length log))) (λ y. rw y (λ h. refl))
        (λ n. rw n (by_test (ltb (capacity (length log)) (length (limit (saturated_of items)))) (λ y. rw y (λ h. refl)) (λ m. rw m (found items (start_path (saturated_of items))))))
