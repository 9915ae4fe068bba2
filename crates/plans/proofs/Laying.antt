-- The begins are written in run order.
use mathlib.Core.Path.{◌≡◌, ap, subst, sym, ◌∙◌}
use mathlib.Core.List.{List, ◌∷◌, ◌++◌, append-nil}
use Prim.Native.Nat.{ℕ, suc, ◌+◌, ◌*◌, ◌≤◌, ◌<◌}
use native.Mathlib.Numerals.{add-one}
use native.Mathlib.Omega.{arith}
use lib.IntN.{ℤ, pos, ◌+ℤ◌}
use lib.ListN.{length, get_or, take, drop, set, drop_of_length-le, length-set, take-append-drop}
use lib.Seq.{append_snoc, drop-cons, drop-drop, drop-set-lt, take-suc-set}
use Rattle.plan_model.specs.declared.Window.{Window}
use Rattle.model.specs.Groups.{Process}
use Rattle.plan_model.specs.Hours.{PlannedStep, at_start, begin_of, begins_from, ended_at, longest_step, step_of, steps_of}
use Rattle.model.specs.Systems.{System}
use Rattle.plans.specs.Planning.{Near, plan_reach, step_reach}
use Rattle.plans.proofs.Minutes.{near_within, step_near}

-- the first k steps are laid
pub record Laying (week : Process → List Window) (sys : System) (lengths run : List ℕ) (start : ℤ) (begins₀ begins ends : List ℤ) (k : ℕ) : Type 0 where
  pub within : k ≤ length run
  pub size : length begins ≡ length begins₀
  pub near : Near start ends (k * step_reach)
  pub rest_same : drop k begins ≡ drop k begins₀
  pub done : take k begins ++ begins_from week start ends (steps_of sys lengths (drop k run)) ≡ begins_from week start (at_start start) (steps_of sys lengths run)

module _ {week : Process → List Window} {sys : System} {lengths run : List ℕ} {start : ℤ} {begins₀ : List ℤ} where
  -- no process has ended too far from the start
  pub laying_near : {begins ends : List ℤ} {k : ℕ} → Laying week sys lengths run start begins₀ begins ends k → length run ≤ 1000000 → Near start ends plan_reach
  laying_near a l = near_within plan_reach (omega (arith, a.within)) a.near

  -- the step at place k of the run begins at `begin`
  pub laying_turn : {begins ends : List ℤ} {k : ℕ} → Laying week sys lengths run start begins₀ begins ends k → k < length run → k < length begins
      → (s : PlannedStep) → s ≡ step_of sys lengths (get_or run k 0) → s.minutes ≤ longest_step
      → (begin : ℤ) (ends' : List ℤ) → begin ≡ begin_of week start ends s → ends' ≡ ended_at s.processes (begin +ℤ pos s.minutes) ends
      → Laying week sys lengths run start begins₀ (set begins k begin) ends' (k + 1)
  unfolding begins_from
  laying_turn {begins} {ends} {k} a l m s is short begin ends' e f = rw (f, e) (record {
    within = omega arith;
    size = length-set begins k (begin_of week start ends s) ∙ a.size;
    near = subst (Near start after) room (step_near week start ends s a.near short);
    rest_same = drop-set-lt (k + 1) begins k (begin_of week start ends s) (omega arith) ∙ sym (drop-drop 1 k begins) ∙ ap (drop 1) a.rest_same ∙ drop-drop 1 k begins₀;
    done = rw (add-one k) (
        ap (λ (x : List ℤ). x ++ later) (take-suc-set begins k (begin_of week start ends s) m)
        ∙ append_snoc (take k begins) (begin_of week start ends s) later
        ∙ ap (λ (x : List ℤ). take k begins ++ x) step
        ∙ a.done);
  })
    where
      after : List ℤ
      after = ended_at s.processes (begin_of week start ends s +ℤ pos s.minutes) ends

      later : List ℤ
      later = begins_from week start after (steps_of sys lengths (drop (suc k) run))

      room : k * step_reach + step_reach ≡ (k + 1) * step_reach
      room = omega arith

      step : begin_of week start ends s ∷ later ≡ begins_from week start ends (steps_of sys lengths (drop k run))
      step = rw (drop-cons run k 0 l, is)

  pub laying_end : {begins ends : List ℤ} {k : ℕ} → Laying week sys lengths run start begins₀ begins ends k → length run ≤ k
      → begins ≡ begins_from week start (at_start start) (steps_of sys lengths run) ++ drop (length run) begins₀
  unfolding begins_from
  laying_end {begins} {ends} {k} a m =
      let q : k ≡ length run = omega (arith, a.within) in
      let d : take k begins ≡ begins_from week start (at_start start) (steps_of sys lengths run) = sym (append-nil (take k begins)) ∙ (rw (drop_of_length-le run {i = k} m) at a.done) in
      sym (take-append-drop k begins) ∙ rw (d, a.rest_same, q)
