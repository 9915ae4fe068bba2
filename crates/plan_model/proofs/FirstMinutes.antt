-- Request 2.7: each step of a plan begins at its first minute, if none of the steps is never open.
use mathlib.Core.Path.{◌≡◌, refl, sym, ap, ◌∙◌, subst}
use mathlib.Core.Bool.{Bool, true, false, cond, true≢false}
use mathlib.Core.List.{List, [], ◌∷◌, ◌++◌}
use mathlib.Core.Logic.{◌↔◌}
use mathlib.Core.Option.{some}
use Prim.Native.Nat.{ℕ, zero, suc, ◌<◌, zero-le}
use native.Mathlib.Nat.{not-suc-le-zero}
use native.Mathlib.Omega.{arith}
use lib.Dec.{ltb}
use lib.IntN.{ℤ, pos, ◌+ℤ◌}
use lib.ListN.{length}
use borrow.Author.Tests.{ltb-true, ltb-false}
use Rattle.plan_model.specs.declared.Window.{Window}
use Rattle.model.specs.Groups.{Process, Processes, has, p0, p1, p2, p3}
use Rattle.plan_model.specs.Hours.{BeginsFirst, MayBegin, NotBefore, PlannedStep, at_start, begin_at, begin_of, begins_from, bound_of, delay, end_of, ended_at, fits, later_of, never_fits, step_at, week_minutes}
use Rattle.plan_model.proofs.MinuteOrder.{later_least, not_before_same, not_before_sum, not_before_sums, not_before_trans}
use Rattle.model.proofs.Tests.{by_test, each_process}
use Rattle.plan_model.proofs.Weeks.{Found, delay_found, never_false}

-- ---- the bound
-- t is before the end of none of the processes of L
abbrev AfterEnds : List ℤ → Processes → ℤ → Type 0
AfterEnds ends L t = (i : Process) → has L i ≡ true → NotBefore (end_of ends i) t

-- one process: its end counts if it is asked for
bound_one : (b : Bool) (end other t : ℤ) → NotBefore (cond b (later_of end other) other) t ↔ ((b ≡ true → NotBefore end t) × NotBefore other t)
bound_one true end other t = let l = later_least end other t in ((λ n. ((λ y. (l.0 n).0), (l.0 n).1)), (λ n. l.1 (n.0 refl, n.1)))
bound_one false end other t = ((λ n. ((λ y. absurd (true≢false (sym y))), n)), (λ n. n.1))

-- what is not before the bound is what is before neither the start nor any of those ends
bound_least : (start : ℤ) (ends : List ℤ) (L : Processes) (t : ℤ) → NotBefore (bound_of start ends L) t ↔ (NotBefore start t × AfterEnds ends L t)
unfolding bound_of
bound_least start ends L t =
    let after3 = cond (has L p3) (later_of (end_of ends p3) start) start in
    let after2 = cond (has L p2) (later_of (end_of ends p2) after3) after3 in
    let after1 = cond (has L p1) (later_of (end_of ends p1) after2) after2 in
    let l0 = bound_one (has L p0) (end_of ends p0) after1 t in
    let l1 = bound_one (has L p1) (end_of ends p1) after2 t in
    let l2 = bound_one (has L p2) (end_of ends p2) after3 t in
    let l3 = bound_one (has L p3) (end_of ends p3) start t in (
      (λ n.
          let n0 = l0.0 n in
          let n1 = l1.0 n0.1 in
          let n2 = l2.0 n1.1 in
          let n3 = l3.0 n2.1 in
          (n3.1, each_process (λ i. has L i ≡ true → NotBefore (end_of ends i) t) n0.0 n1.0 n2.0 n3.0)),
      (λ n. l0.1 (n.1 p0, l1.1 (n.1 p1, l2.1 (n.1 p2, l3.1 (n.1 p3, n.0))))),
    )

-- ---- ends
end_started : (start : ℤ) (i : Process) → end_of (at_start start) i ≡ start
end_started start p0 = refl
end_started start p1 = refl
end_started start p2 = refl
end_started start p3 = refl

end_after : (L : Processes) (t : ℤ) (ends : List ℤ) (i : Process) → end_of (ended_at L t ends) i ≡ cond (has L i) t (end_of ends i)
unfolding ended_at
end_after L t ends p0 = refl
end_after L t ends p1 = refl
end_after L t ends p2 = refl
end_after L t ends p3 = refl

module _ (week : Process → List Window) where
  -- ---- one step
  -- b is the first of the minutes that are allowed from which the step fits
  record First (s : PlannedStep) (Allowed : ℤ → Type 0) (b : ℤ) : Type 0 where
    pub allowed : Allowed b
    pub fitting : fits week s b ≡ true
    pub first : (t : ℤ) → Allowed t → fits week s t ≡ true → NotBefore b t

  -- the same minutes allowed in other words
  first_same : (s : PlannedStep) (P Q : ℤ → Type 0) (b : ℤ) → ((t : ℤ) → P t ↔ Q t) → First s P b → First s Q b
  first_same s P Q b same f = record { allowed = (same b).0 f.allowed; fitting = f.fitting; first = λ t q. f.first t ((same t).1 q) }

  -- the delay leads to the first minute that is not before the bound
  first_delayed : (s : PlannedStep) (bound : ℤ) (d : ℕ) → delay week s bound ≡ some d → First s (NotBefore bound) (bound +ℤ pos d)
  first_delayed s bound d q = record {
    allowed = not_before_sum bound d;
    fitting = found.holds;
    first = λ t n y. by_test (ltb n.later d)
        (λ l. absurd (true≢false (sym y ∙ ap (fits week s) n.is ∙ found.misses n.later zero-le (ltb-true n.later d l))))
        (λ l. subst (NotBefore (bound +ℤ pos d)) (sym n.is) (not_before_sums bound d n.later (ltb-false n.later d l)));
  }
    where
      found : Found week_minutes 0 (λ e. fits week s (bound +ℤ pos e)) d
      found = delay_found week s bound d q

  first_begin : (start : ℤ) (ends : List ℤ) (s : PlannedStep) → never_fits week s ≡ false
      → First s (NotBefore (bound_of start ends s.processes)) (begin_of week start ends s)
  unfolding begin_of
  first_begin start ends s e =
      let bound = bound_of start ends s.processes in
      let f = never_false week s e bound in
      rw f.1 (first_delayed s bound f.0 f.1)

  -- ---- all steps
  -- none of them is never open
  abbrev pub NoneNever : List PlannedStep → Type 0
  NoneNever steps = (j : ℕ) → j < length steps → never_fits week (step_at steps j) ≡ false

  module _ (start : ℤ) where
    -- step k may begin at t, where the processes come to the first of these steps at these ends
    abbrev MayAfter : List ℤ → List PlannedStep → List ℤ → ℕ → ℤ → Type 0
    MayAfter ends steps begins k t = MayBegin start steps begins k t × AfterEnds ends (step_at steps k).processes t

    may_here : (ends : List ℤ) (s : PlannedStep) (steps : List PlannedStep) (begins : List ℤ) (t : ℤ)
        → NotBefore (bound_of start ends s.processes) t ↔ MayAfter ends (s ∷ steps) begins 0 t
    may_here ends s steps begins t =
        let l = bound_least start ends s.processes t in (
          (λ n. (record { from_start = (l.0 n).0; from_ends = λ j m. absurd (not-suc-le-zero m) }, (l.0 n).1)),
          (λ n. l.1 (n.0.from_start, n.1)),
        )

    -- the first step's own end counts for the later steps as an end that they come to
    module _ (ends : List ℤ) (s : PlannedStep) (steps : List PlannedStep) (b : ℤ) (begins : List ℤ) (k : ℕ) (t : ℤ) where
      abbrev end : ℤ
      end = b +ℤ pos s.minutes

      abbrev Whole : Type 0
      Whole = MayAfter ends (s ∷ steps) (b ∷ begins) (suc k) t

      abbrev Rest : Type 0
      Rest = MayAfter (ended_at s.processes end ends) steps begins k t

      end_of_lem : (i : Process) (e : Bool) → has s.processes i ≡ e → end_of (ended_at s.processes end ends) i ≡ cond e end (end_of ends i)
      end_of_lem i e y = end_after s.processes end ends i ∙ ap (λ (c : Bool). cond c end (end_of ends i)) y

      to_whole : AfterEnds ends s.processes b → Rest → Whole
      to_whole after (may, ended) = (record { from_start = may.from_start; from_ends = from_ends }, old)
        where
          from_ends : (j : ℕ) → j < suc k → (i : Process) → has (step_at (s ∷ steps) j).processes i ≡ true → has (step_at steps k).processes i ≡ true
              → NotBefore (begin_at (b ∷ begins) j +ℤ pos (step_at (s ∷ steps) j).minutes) t
          from_ends zero l i m n = not_before_same (end_of_lem i true m) (ended i n)
          from_ends (suc j) l i m n = may.from_ends j (omega arith) i m n

          old : AfterEnds ends (step_at steps k).processes t
          old i n = by_test (has s.processes i)
              (λ y. not_before_trans (not_before_trans (after i y) (not_before_sum b s.minutes)) (from_ends 0 (omega arith) i y n))
              (λ y. not_before_same (end_of_lem i false y) (ended i n))

      to_rest : Whole → Rest
      to_rest (may, old) = (
        record { from_start = may.from_start; from_ends = λ j l. may.from_ends (suc j) (omega arith) },
        λ i n. by_test (has s.processes i)
            (λ y. not_before_same (sym (end_of_lem i true y)) (may.from_ends 0 (omega arith) i y n))
            (λ y. not_before_same (sym (end_of_lem i false y)) (old i n)),
      )

    -- every step, where none is never open; `more` stands behind the begins
    begins_first : (more ends : List ℤ) (steps : List PlannedStep) → NoneNever steps → (k : ℕ) → k < length steps
        → First (step_at steps k) (MayAfter ends steps (begins_from week start ends steps ++ more) k) (begin_at (begins_from week start ends steps ++ more) k)
    unfolding begins_from
    begins_first more ends [] fit k l = absurd (not-suc-le-zero l)
    begins_first more ends (s ∷ steps) fit zero l =
        first_same s _ _ (begin_of week start ends s) (λ t. may_here ends s steps _ t) (first_begin start ends s (fit 0 l))
    begins_first more ends (s ∷ steps) fit (suc k) l =
        let b = begin_of week start ends s in
        let after = ((bound_least start ends s.processes b).0 (first_begin start ends s (fit 0 (omega arith))).allowed).1 in
        first_same (step_at steps k) _ _ _ (λ t. (to_whole ends s steps b _ k t after, to_rest ends s steps b _ k t))
        (begins_first more (ended_at s.processes (b +ℤ pos s.minutes) ends) steps (λ j m. fit (suc j) (omega arith)) k (omega arith))

    -- with no step before them the processes come to the start
    may_started : (steps : List PlannedStep) (begins : List ℤ) (k : ℕ) (t : ℤ) → MayAfter (at_start start) steps begins k t ↔ MayBegin start steps begins k t
    may_started steps begins k t = (
      (λ n. n.0),
      (λ n. (n, λ i y. not_before_same (sym (end_started start i)) n.from_start)),
    )

    pub plan_first : (more : List ℤ) (steps : List PlannedStep) → NoneNever steps → (k : ℕ) → k < length steps
        → BeginsFirst week start steps (begins_from week start (at_start start) steps ++ more) k
    plan_first more steps fit k l =
        let f = first_same (step_at steps k) _ _ _ (may_started steps _ k) (begins_first more (at_start start) steps fit k l) in
        record { may = f.allowed; fitting = f.fitting; first = f.first }
