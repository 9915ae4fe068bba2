-- The outcome of the walk call, by the way that it ended.
use mathlib.Core.Path.{◌≡◌, refl, ap, ap₂, sym, subst, ◌∙◌}
use mathlib.Core.Bool.{Bool, true, false, cond}
use mathlib.Core.List.{List, ◌++◌}
use Prim.Native.Nat.{ℕ, ◌-◌, ◌<◌, ◌≤◌}
use native.Mathlib.Omega.{arith}
use lib.Dec.{ltb}
use lib.ListN.{length, drop, drop_of_length-le, get_or, replicate}
use borrow.Author.Tests.{lt-ltb, le-ltb}
use Rattle.std.specs.Prelude.{Result, Err}
use Rattle.model.specs.declared.Ending.{Ending}
use Rattle.model.specs.declared.Refusal.{Refusal}
use Rattle.model.specs.Calls.{Halt, WalkOutcome, changes_nothing, filled, fired_rules, halt_before, scratch_after, walk_call, walk_counts, walk_figures, walk_from, walk_given, refused_by, walk_scratch, zeros}
use Rattle.model.specs.Demands.{Demand2Walk, TookPart}
use Rattle.model.specs.Lists.{Each, value_or}
use Rattle.model.specs.Participation.{step_counts}
use Rattle.model.specs.Systems.{System, Configuration}
use Rattle.model.specs.Tables.{Reading, refused, read}
use Rattle.model.proofs.Closing.{refusal_changes_nothing}
use Rattle.model.proofs.Main.{demand_2_walk, took_part}
use Rattle.model.proofs.WalkDemand.{counted_more, demand_more, figures_behind}
use Rattle.states.specs.StateNumbers.{Over}
use Rattle.table.specs.declared.Table.{Table}
use Rattle.table.specs.Reading.{Holds, parsed, system_in}
use Rattle.table.proofs.Readings.{holds_read, refused_reading}
use Rattle.table.proofs.Layouts.{pile_count}
use Rattle.table.specs.Present.{present_in}
use Rattle.table.proofs.Configurations.{start_over, start_lettered}
use Rattle.model.specs.declared.Placed.{Placed}
use Rattle.firing.specs.Piles.{configuration}
use Rattle.walk.specs.declared.Stop.{Stop}
use Rattle.walk.specs.declared.Halted.{Halted}
use Rattle.steps.specs.Stepping.{InShape}
use Rattle.walk.specs.Walking.{answer_at, Stopped, halted_before, outcome_of, Halts}

-- ---- scratch
-- left as it was, or zero
scratch_kept : (number : ℕ) (s : List ℕ) → changes_nothing number ≡ true → s ≡ scratch_after number s
unfolding scratch_after
scratch_kept number s e = rw e refl

scratch_zero : (number : ℕ) (s : List ℕ) → changes_nothing number ≡ false → zeros s ≡ scratch_after number s
unfolding scratch_after
scratch_zero number s e = rw e refl

-- ---- a walk that began
pub start_shape : (table : List ℕ) (t : Table) → Holds table t → (pile : List ℕ) (c : Placed) → configuration pile c ≡ (system_in table).start → c.top ≤ length pile → InShape t pile c
start_shape table t h pile c e l = record {
  stands = record { inside = l; letters = subst (λ (w : List ℕ). Each (λ (a : ℕ). a < t.letters) w) (sym (ap (λ (d : Configuration). d.word) e)) (start_lettered table t h) };
  over = subst (Over (present_in t)) (sym (ap (λ (d : Configuration). d.states) e)) (start_over table t h);
}

-- the start's word was put into p₁, the steps left p₂, and the word was moved to the front
pub placed_halts : (table : List ℕ) (t : Table) (list pile scratch : List ℕ) (c : Placed) (p₁ p₂ p₃ s₁ : List ℕ) (stop : Stop) (answer : Result Ending Refusal)
    → configuration p₁ c ≡ (system_in table).start → length p₁ ≡ length pile → length p₂ ≡ length p₁
    → Stopped table t list (walk_from (system_in table) (length p₁) 0 list (configuration p₁ c)) p₂ stop
    → answer ≡ answer_at (system_in table) stop (configuration p₂ stop.placed) → s₁ ≡ zeros scratch → p₃ ≡ filled (drop stop.placed.top p₂) p₂
    → Halts (outcome_of (system_in table) list (walk_from (system_in table) (length pile) 0 list (system_in table).start) pile scratch) list (record { answer = answer; counts = stop.counts; from = stop.at }) p₃ s₁
unfolding outcome_of
placed_halts table t list pile scratch c p₁ p₂ p₃ s₁ stop answer e n₁ n₂ s a z f =
    let same : walk_from (system_in table) (length p₁) 0 list (configuration p₁ c) ≡ walk_from (system_in table) (length pile) 0 list (system_in table).start =
    ap₂ (λ (n : ℕ) (d : Configuration). walk_from (system_in table) n 0 list d) n₁ e in
    let given : answer_at (system_in table) stop (configuration p₂ stop.placed) ≡ (walk_from (system_in table) (length pile) 0 list (system_in table).start).answer = s.answer ∙ ap (λ (h : Halt). h.answer) same in
    record {
      answer = a ∙ given;
      counts = s.counts ∙ ap (λ (h : Halt). step_counts (system_in table) (fired_rules list h.answer)) same;
      inside = s.inside;
      rest = s.rest ∙ ap (λ (h : Halt). h.rest) same;
      pile = f ∙ ap (λ (n : ℕ). filled_to (drop stop.placed.top p₂) n) (n₂ ∙ n₁) ∙ sym (s.word pile) ∙ ap (λ (h : Halt). value_or pile (λ (w : List ℕ). filled w pile) h.pile) same;
      scratch = z ∙ scratch_zero (refused_by (walk_from (system_in table) (length p₁) 0 list (configuration p₁ c)).answer) scratch s.late ∙ ap (λ (h : Halt). scratch_after (refused_by h.answer) scratch) same;
    }
  where
    filled_to : List ℕ → ℕ → List ℕ
    filled_to w n = w ++ replicate (n - length w) 0

-- ---- the whole call
abbrev given_by : System → List ℕ → ℕ → ℕ → ℕ → Halt
given_by sys list count pileLength scratchLength =
    cond (ltb scratchLength walk_scratch) (halt_before 15 0) (cond (ltb pileLength count) (halt_before 14 0) (walk_from sys pileLength 0 list sys.start))

module _ (table : List ℕ) (t : Table) (h : Holds table t) (list pile scratch : List ℕ) where
  -- the outcome by what reading the table gives
  outcome_by : Reading → WalkOutcome
  outcome_by r =
      let halt = walk_given r list (length pile) (length scratch) in
      record {
        answer = halt.answer;
        counts = walk_counts r list halt.answer;
        rest = halt.rest;
        pile = value_or pile (λ (w : List ℕ). filled w pile) halt.pile;
        scratch = scratch_after (refused_by halt.answer) scratch;
      }

  -- the outcome of a halt
  abbrev comes_to : Halt → WalkOutcome
  comes_to h = outcome_of (system_in table) list h pile scratch

  call_is : walk_call table list pile scratch ≡ comes_to (given_by (system_in table) list t.pile (length pile) (length scratch))
  unfolding walk_call walk_given walk_counts outcome_of system_in outcome_by
  call_is =
      ap outcome_by (holds_read table t h)
      ∙ ap (λ (n : ℕ). outcome_of (system_in table) list (given_by (system_in table) list n (length pile) (length scratch)) pile scratch) (pile_count table t h)

  -- 15: the scratch is short
  pub short_halts : length scratch < walk_scratch → Halts (walk_call table list pile scratch) list (halted_before (record { number = 15; place = 0 }) (length list)) pile scratch
  unfolding outcome_of
  short_halts l = subst (λ (o : WalkOutcome). Halts o list (halted_before (record { number = 15; place = 0 }) (length list)) pile scratch)
      (sym (call_is ∙ ap (λ (b : Bool). comes_to (cond b (halt_before 15 0) (cond (ltb (length pile) t.pile) (halt_before 14 0) (walk_from (system_in table) (length pile) 0 list (system_in table).start)))) (lt-ltb (length scratch) walk_scratch l)))
      (record { answer = refl; counts = refl; inside = omega arith; rest = drop_of_length-le list {i = length list} (omega arith); pile = refl; scratch = scratch_kept 15 scratch refl })

  long : walk_scratch ≤ length scratch → walk_call table list pile scratch
      ≡ comes_to (cond (ltb (length pile) t.pile) (halt_before 14 0) (walk_from (system_in table) (length pile) 0 list (system_in table).start))
  long l = call_is ∙ ap (λ (b : Bool). comes_to (cond b (halt_before 15 0) (cond (ltb (length pile) t.pile) (halt_before 14 0) (walk_from (system_in table) (length pile) 0 list (system_in table).start)))) (le-ltb (length scratch) walk_scratch l)

  -- 14: the start pile does not fit
  pub unfit_halts : (scratch' : List ℕ) → walk_scratch ≤ length scratch → length pile < t.pile → scratch' ≡ zeros scratch
      → Halts (walk_call table list pile scratch) list (halted_before (record { number = 14; place = 0 }) (length list)) pile scratch'
  unfolding outcome_of
  unfit_halts scratch' l q e = subst (λ (o : WalkOutcome). Halts o list (halted_before (record { number = 14; place = 0 }) (length list)) pile scratch')
      (sym (long l ∙ ap (λ (b : Bool). comes_to (cond b (halt_before 14 0) (walk_from (system_in table) (length pile) 0 list (system_in table).start))) (lt-ltb (length pile) t.pile q)))
      (record { answer = refl; counts = refl; inside = omega arith; rest = drop_of_length-le list {i = length list} (omega arith); pile = refl; scratch = e ∙ scratch_zero 14 scratch refl })

  -- the walk began
  pub began_halts : (r : Halted) (pile' scratch' : List ℕ) → walk_scratch ≤ length scratch → t.pile ≤ length pile
      → Halts (outcome_of (system_in table) list (walk_from (system_in table) (length pile) 0 list (system_in table).start) pile scratch) list r pile' scratch'
      → Halts (walk_call table list pile scratch) list r pile' scratch'
  began_halts r pile' scratch' l q x = subst (λ (o : WalkOutcome). Halts o list r pile' scratch')
      (sym (long l ∙ ap (λ (b : Bool). comes_to (cond b (halt_before 14 0) (walk_from (system_in table) (length pile) 0 list (system_in table).start))) (le-ltb (length pile) t.pile q))) x

-- ---- a table that is refused
pub table_halts : (table list pile scratch : List ℕ) (r : Refusal) → parsed (read table) ≡ Err r → Halts (walk_call table list pile scratch) list (halted_before r (length list)) pile scratch
unfolding walk_call walk_given walk_counts
table_halts table list pile scratch r e =
    let is : read table ≡ refused r.number r.place = refused_reading (read table) r e in
    rw is (record {
      answer = refl;
      counts = refl;
      inside = omega arith;
      rest = drop_of_length-le list {i = length list} (omega arith);
      pile = refl;
      scratch = scratch_kept r.number scratch (refusal_changes_nothing table r.number r.place is);
    })

-- ---- demand 2 and request 2.5, by the figures of the call
pub walk_told : (table list pile scratch f p : List ℕ) → let o = walk_call table list pile scratch in f ≡ walk_figures o.answer ++ o.counts → p ≡ o.pile
    → Demand2Walk table list scratch f p × TookPart table list (get_or f 0 0) (get_or f 1 0) (drop 8 f)
walk_told table list pile scratch f p e q =
    let o = walk_call table list pile scratch in (
      rw (e, q) (demand_more o.counts o.answer (demand_2_walk table list pile scratch)),
      rw (e, figures_behind o.answer o.counts) (counted_more o.counts o.answer o.counts (took_part table list pile scratch)),
    )
