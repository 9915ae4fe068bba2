-- The turns of the unfolding's loop: the log's bytes are those of the limit's records.
use mathlib.Core.Path.{◌≡◌, ap, sym, subst, ◌∙◌}
use mathlib.Core.Option.{some}
use mathlib.Core.List.{List, ◌∷◌, ◌++◌}
use Prim.Native.Nat.{ℕ, ◌+◌, ◌-◌, ◌*◌, ◌<◌, ◌≤◌, min}
use native.Mathlib.Decide.{ℕ_discrete}
use native.Mathlib.Omega.{arith}
use lib.ListN.{length, set, length-append}
use Rattle.model.specs.Calls.{scratch_for, start_path}
use Rattle.model.specs.Log.{Record, Path, record_at, no_number, steps_cap, limit, saturated_at, longest_run}
use Rattle.model.specs.Groups.{Process, greatest, p0}
use Rattle.model.specs.Lists.{Each}
use Rattle.model.specs.Systems.{System}
use Rattle.model.specs.Tables.{written_places}
use Rattle.model.specs.Unfolding.{emitted, path_steps}
use Rattle.model.proofs.Words.{Located}
use Rattle.model.specs.Records.{round_at}
use Rattle.unfold.proofs.EmissionStack.{InLog, emitted_skip, emitted_replace, Low, low_start, low_replace, low_height}
use Rattle.model.proofs.Lists.{each_append, each_map}
use Rattle.model.proofs.Reachability.{accepting_path_found, answer_yes, answer_steps}
use Rattle.model.proofs.Peak.{greatest_most}
use Rattle.model.proofs.Reasons.{path_length_lem}
use Rattle.scratch.specs.Regions.{stack_at}
use Rattle.records.specs.Entries.{Reads}
use Rattle.table.specs.declared.Table.{Table}
use Rattle.table.specs.Reading.{saturated_in, system_in, rule_in}
use Rattle.table.proofs.Layouts.{table_modest, rules_count, pile_count, written_few}
use Rattle.lengths.specs.Projections.{Lengths, Added, Change, LengthsOf, ChangesNoted, length_at, noted}
use Rattle.lengths.proofs.Counting.{project_shorter}
use Rattle.scratch.specs.StackNumbers.{numbers_down, stack_of}
use Rattle.logs.specs.RoundLogs.{LimitLog}
use Rattle.scratch.proofs.StackNumbers.{length_down, stack_top}
use Rattle.logs.proofs.RoundLogs.{holds_well_formed, holds_control, round_fits, round_reads, round_has, limit_earlier}
use Rattle.unfold.specs.declared.Work.{Work}
use Rattle.unfold.specs.Runs.{Unfoldable, Unfolded}
use Rattle.unfold.specs.Turns.{places, StackRoom, top_record, Replaceable, Replaced, Workable, Worked}
use Rattle.unfold.proofs.Pushing.{path_places}
use Rattle.unfold.proofs.Running.{Going, going_count, going_start, rule_inside, page_room, going_fire, going_end}

-- ---- the loop's invariant: what the records on the stack emit is left of the run
pub record Working (table : List ℕ) (room : ℕ) (ns page₀ s page : List ℕ) (w : Work) : Type 0 where
  pub size : length s ≡ room
  pub inside : InLog (limit (saturated_in table)) (stack_of s w.top)
  pub low : Low 64 (length (limit (saturated_in table))) (stack_of s w.top)
  pub going : Going (saturated_in table) (emitted (limit (saturated_in table)) ns) page₀ (emitted (limit (saturated_in table)) (stack_of s w.top)) page w.rules w.lengths w.highest

module _ {table : List ℕ} {t : Table} {changes : List Lengths} {log : List ℕ} {count room : ℕ} {ns page₀ : List ℕ}
    (pre : LimitLog table t log count × (scratch_for count ≤ room) × Unfoldable (saturated_in table) ns page₀ × ChangesNoted table t.rules changes) where
  abbrev sys : System
  sys = saturated_in table

  abbrev records : List Record
  records = limit sys

  abbrev all : List ℕ
  all = emitted records ns

  located : Located sys.loc
  located = (holds_well_formed table t pre.0.holds).cooperating.located

  pub working_start : {s₀ : List ℕ} {top : ℕ} → length s₀ ≡ room → stack_of s₀ top ≡ ns → (l : Lengths) → LengthsOf sys.loc sys.start.word l
      → Working table room ns page₀ s₀ page₀ (record { top = top; rules = 0; lengths = l; highest = l })
  working_start size is l lengths = record {
    size = size;
    inside = rw is pre.2.inside;
    low = rw is (low_start 64 (length records) ns pre.2.low pre.2.inside);
    going = rw is (going_start (omega (arith, pile_count table t pre.0.holds, (table_modest table t pre.0.holds).pile)) pre.2.walks l lengths);
  }

  -- the rules are a number of 32 bits, and the greatest length is counted with them
  pub working_small : {s page : List ℕ} {w : Work} → Working table room ns page₀ s page w → (w.rules ≤ longest_run) × (w.rules ≤ greatest (length_at w.highest))
  working_small {w = w} v = (omega (arith, going_count v.going, pre.2.few), omega (arith, v.going.lengths p0, v.going.under p0, greatest_most (length_at w.highest) p0))

  pub working_end : {s page : List ℕ} {w : Work} → w.top ≤ 0 → Working table room ns page₀ s page w → Unfolded (saturated_in table) ns page₀ page (greatest (length_at w.highest) - w.rules)
  unfolding numbers_down
  working_end {s} {page} {w} h v =
      let z : w.top ≡ 0 = omega arith in
      let e = going_end (subst (λ (k : ℕ). Going sys all page₀ (emitted records (stack_of s k)) page w.rules w.lengths w.highest) z v.going) in
      record { written = e.0; highest = omega (arith, e.1) }

  module _ {s page : List ℕ} {w : Work} (some : 0 < w.top) (v : Working table room ns page₀ s page w) where
    abbrev x : ℕ
    x = top_record s w

    abbrev xs : List ℕ
    xs = stack_of s (w.top - 1)

    abbrev first : Record
    first = record_at records x

    opened : stack_of s w.top ≡ x ∷ xs
    opened = stack_top s w.top some

    in_log_lem : InLog records (x ∷ xs)
    in_log_lem = subst (InLog records) opened v.inside

    low : Low 64 (length records) (x ∷ xs)
    low = subst (Low 64 (length records)) opened v.low

    inside : x < count
    inside = omega (arith, in_log_lem.0, pre.0.size)

    reads : Reads log x first
    reads = round_reads pre.0 x inside

    high : (ns : List ℕ) → Low 64 (length records) ns → StackRoom s (length ns)
    high ns l = omega (arith, low_height 64 (length records) ns l, pre.0.size, pre.1, v.size)

    -- the record on top is not of round 0
    module _ (n : round_at log x ≡ 0 → ⊥) where
      later : 0 < first.round
      later = let m : first.round ≡ 0 → ⊥ = λ z. n (reads.round ∙ z) in omega arith

      earlier : Each (λ (m : ℕ). m < x) first.path
      earlier = limit_earlier table x in_log_lem.0 later

      few : length first.path ≤ written_places
      few = (round_fits pre.0 x inside).short

      low_after : Low 64 (length records) (first.path ++ xs)
      low_after = low_replace 64 (length records) x first.path xs few earlier low

      -- its places are its path
      path_is : places log x ≡ first.path
      path_is = path_places log x first.path few
          (each_map (λ (m : ℕ). m < x) (λ (m : ℕ). m < no_number) (λ m l. omega (arith, inside, pre.0.short)) first.path earlier) reads.place

      fires : Going sys all page₀ (first.rule ∷ emitted records (first.path ++ xs)) page w.rules w.lengths w.highest
      fires = subst (λ (l : List ℕ). Going sys all page₀ l page w.rules w.lengths w.highest)
          (ap (emitted records) opened ∙ emitted_replace records (limit_earlier table) x xs in_log_lem later) v.going

      -- what is noted of its rule
      inside_rules : first.rule < t.rules
      inside_rules = omega (arith, rule_inside located fires, rules_count table t pre.0.holds)

      abbrev change : Process → ℕ
      change = noted changes first.rule

      changes_rule : Change sys.loc (rule_in table first.rule) change
      changes_rule = pre.3.rule first.rule inside_rules

      change_few : (i : Process) → change i ≤ 1 + written_places
      change_few i = omega (arith, changes_rule i, project_shorter sys.loc i (rule_in table first.rule).written, written_few table t pre.0.holds first.rule inside_rules)

      replaceable : Replaceable changes log s page w x
      replaceable = record {
        room = let whole : length (first.path ++ xs) ≡ length first.path + length xs = length-append first.path xs in
            omega (arith, high (first.path ++ xs) low_after, ap length path_is, length_down s stack_at (w.top - 1));
        page_room = page_room located fires pre.2.fits;
        few = omega (arith, going_count v.going, pre.2.few);
        rule = omega (arith, reads.rule, inside_rules, (table_modest table t pre.0.holds).rules);
        addable = λ i. rw reads.rule (omega (arith, change_few i, v.going.under i, v.going.small i, going_count v.going, pre.2.few));
        countable = λ i. omega (arith, v.going.small i, going_count v.going, pre.2.few);
      }

      replaced : {s' page' : List ℕ} {w' : Work} → Replaced changes log s page w x s' page' w' → Working table room ns page₀ s' page' w'
      replaced {s'} {page'} {w'} q =
          let stack : stack_of s' w'.top ≡ first.path ++ xs = q.pushed.stack ∙ ap (λ (l : List ℕ). l ++ xs) path_is in
          let paged : page' ≡ set page w.rules first.rule = q.emits ∙ ap (λ (k : ℕ). set page w.rules k) reads.rule in
          let added : Added change w.lengths w'.lengths = subst (λ (k : ℕ). Added (noted changes k) w.lengths w'.lengths) reads.rule q.lengths in
          record {
            size = q.pushed.size ∙ v.size;
            inside = rw stack (each_append (λ (m : ℕ). m < length records) first.path xs
                (each_map (λ (m : ℕ). m < x) (λ (m : ℕ). m < length records) (λ m l. omega (arith, in_log_lem.0)) first.path earlier) in_log_lem.1);
            low = rw stack low_after;
            going = rw (stack, paged, q.rules) (going_fire located fires change changes_rule pre.2.fits change_few added q.highest);
          }

    pub working_workable : Workable changes log s page w
    working_workable = record {
      some = some;
      room = omega (arith, high (stack_of s w.top) v.low, length_down s stack_at w.top);
      has = round_has pre.0 x inside;
      replaceable = replaceable;
    }

    module _ {s' page' : List ℕ} {w' : Work} (d : Worked changes log s page w s' page' w') where
      pub working_turn : Working table room ns page₀ s' page' w'
      working_turn = elim (ℕ_discrete (round_at log x) 0) [
        | yes z ↦
            let e : emitted records (stack_of s w.top) ≡ emitted records xs = ap (emitted records) opened ∙ emitted_skip records (limit_earlier table) x xs in_log_lem (sym reads.round ∙ z) in
            rw ((d.skipped z).0, (d.skipped z).1, (d.skipped z).2) (record {
              size = v.size;
              inside = in_log_lem.1;
              low = low.1;
              going = subst (λ (l : List ℕ). Going sys all page₀ l page w.rules w.lengths w.highest) e v.going;
            })
        | no n ↦ replaced n (d.replaced n)
      ]

      -- a rule that the page still has room for counts for the records that it puts on the stack, and one more
      pub working_less : (1 + written_places) * (length page₀ - w'.rules) + w'.top < (1 + written_places) * (length page₀ - w.rules) + w.top
      working_less = elim (ℕ_discrete (round_at log x) 0) [
        | yes z ↦ omega (arith, ap (λ (k : Work). k.rules) (d.skipped z).2, ap (λ (k : Work). k.top) (d.skipped z).2)
        | no n ↦
            let q = d.replaced n in
            let tall : length (places log x ++ xs) ≡ length (places log x) + length xs = length-append (places log x) xs in
            omega (arith, q.rules, v.going.size, few n, ap length (path_is n), (replaceable n).page_room, ap length q.pushed.stack, length_down s' stack_at w'.top, length_down s stack_at (w.top - 1))
      ]

-- ---- for the callers: the start's path is unfoldable where its steps fit the page
pub path_unfoldable : {table : List ℕ} {t : Table} {log : List ℕ} {count : ℕ} → LimitLog table t log count → (p : Path) → start_path (saturated_in table) ≡ some p → (ns page : List ℕ) → ns ≡ p.numbers
    → path_steps (limit (saturated_in table)) p.numbers ≤ length page → path_steps (limit (saturated_in table)) p.numbers ≤ longest_run → Unfoldable (saturated_in table) ns page
path_unfoldable {table} {t} {log} {count} lent p is ns page e fits few = rw e (
    let k = saturated_at (saturated_in table) in
    let found = (accepting_path_found (saturated_in table) (limit (saturated_in table)) (system_in table).start p is).0 in
    let joins = answer_yes (saturated_in table) (holds_well_formed table t lent.holds) k (system_in table).start (holds_control table t lent.holds) p is in
    let steps : path_steps (limit (saturated_in table)) p.numbers ≡ min (length (emitted (limit (saturated_in table)) p.numbers)) steps_cap = answer_steps (saturated_in table) k (system_in table).start p is in
    record {
      inside = found.inside;
      low = omega (arith, path_length_lem found, pile_count table t lent.holds, (table_modest table t lent.holds).pile);
      end = joins.end;
      walks = joins.walks;
      fits = omega arith;
      few = omega arith;
    })
