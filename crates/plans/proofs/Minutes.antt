-- Bounds, ends and begins, and how near the plan's start they are.
use mathlib.Core.Path.{◌≡◌, refl, ap, ap₂, sym, ◌∙◌}
use mathlib.Core.Bool.{Bool, true, false, cond, ◌&&◌}
use mathlib.Core.List.{List}
use mathlib.Core.Option.{Option, none, some}
use Prim.Native.Nat.{ℕ, zero, suc, ◌+◌, ◌≤◌, ◌<◌}
use native.Mathlib.Omega.{arith}
use lib.Dec.{leb, ltb}
use lib.IntN.{ℤ, pos, negsuc, ◌+ℤ◌, +ℤ_assoc, +ℤ_idr}
use lib.ListN.{get_or}
use Rattle.table.specs.Reading.{process_at}
use lib.Signed.{lt_z, mag}
use borrow.Author.Tests.{leb-true}
use mir.Syntax.{w64}
use mir.Val.{SFits}
use Rattle.plan_model.specs.declared.Window.{Window}
use Rattle.model.specs.Groups.{Process, Processes, at_each, fold_each, has, number_of, p0, p1, p2, p3}
use Rattle.plan_model.specs.Hours.{PlannedStep, begin_of, bound_of, delay, end_of, ended_at, later_of, longest_step, start_fits, week_minutes}
use Rattle.model.specs.Lists.{value_or}
use Rattle.model.proofs.Tests.{and_left, by_test, each_process}
use Rattle.plan_model.proofs.Weeks.{delay_found}
use Rattle.minutes.proofs.Signed.{read_back, read_back_lem}
use Rattle.plans.specs.Planning.{Minute, Near, plan_reach, step_reach}

-- the later of two minutes, where the process has part
abbrev pub later_if : Bool → ℤ → ℤ → ℤ
later_if part s t = cond part (later_of s t) t

-- ---- bounds and ends from process to process
-- the bound by the ends of the processes from i on
abbrev pub bound_from : ℤ → List ℤ → Processes → ℕ → ℤ
bound_from start ends L i = fold_each (λ p t. later_if (leb i (number_of p) && has L p) (end_of ends p) t) start

bound_from_turn : (start : ℤ) (ends : List ℤ) (L : Processes) (k : ℕ) → k < 4
    → bound_from start ends L k ≡ later_if (has L (process_at k)) (get_or ends k (pos 0)) (bound_from start ends L (suc k))
bound_from_turn start ends L zero l = refl
bound_from_turn start ends L (suc zero) l = refl
bound_from_turn start ends L (suc (suc zero)) l = refl
bound_from_turn start ends L (suc (suc (suc zero))) l = refl
bound_from_turn start ends L (suc (suc (suc (suc k)))) l = absurd (omega arith)

module _ (start : ℤ) (ends : List ℤ) (L : Processes) where
  -- one more process with a part, and one without
  module _ (i j : ℕ) (next : i ≡ suc j) (l : i ≤ 4) (bound : ℤ) (so_far : bound ≡ bound_from start ends L i) where
    turn : (b : Bool) → has L (process_at j) ≡ b → bound_from start ends L j ≡ later_if b (get_or ends j (pos 0)) bound
    turn b y = bound_from_turn start ends L j (omega arith) ∙ ap₂ (λ (c : Bool) (t : ℤ). later_if c (get_or ends j (pos 0)) t) y (sym (so_far ∙ ap (bound_from start ends L) next))

    pub bound_later : (r : ℤ) → SFits w64 (get_or ends j (pos 0)) → SFits w64 r → has L (process_at j) ≡ true → r ≡ later_of (read_back (get_or ends j (pos 0))) bound
        → read_back r ≡ bound_from start ends L j
    bound_later r f g y q = read_back_lem g ∙ q ∙ ap (λ (e : ℤ). later_of e bound) (read_back_lem f) ∙ sym (turn true y)

    pub bound_same : has L (process_at j) ≡ false → bound ≡ bound_from start ends L j
    bound_same n = sym (turn false n)

-- the ends where the processes below i have ended at t
abbrev pub ended_below : Processes → ℤ → List ℤ → ℕ → List ℤ
ended_below L t ends i = at_each (λ p. cond (ltb (number_of p) i && has L p) t (end_of ends p))

-- ---- minutes near the start
start_small : (start : ℤ) → start_fits start ≡ true → mag start ≤ 1000000
unfolding start_fits
start_small (pos n) e = leb-true n 1000000 e
start_small (negsuc n) e = let h : n ≤ 999999 = leb-true n 999999 (and_left (leb n 999999) true e) in omega arith

sum_fits : (start : ℤ) (d : ℕ) → mag start ≤ 1000000 → d ≤ plan_reach + step_reach → SFits w64 (start +ℤ pos d)
sum_fits (pos n) d s l = record { sfits = omega arith }
sum_fits (negsuc n) d s l = by_test (ltb d (suc n)) (λ y. rw y (record { sfits = omega arith })) (λ y. rw y (record { sfits = omega arith }))

minute_fits : {start t : ℤ} {n : ℕ} → start_fits start ≡ true → Minute start t n → n ≤ plan_reach + step_reach → SFits w64 t
minute_fits {start} e m l = rw m.is (sum_fits start m.after (start_small start e) (omega (arith, m.near)))

pub minute_start : (start : ℤ) (n : ℕ) → Minute start start n
minute_start start n = record { after = 0; is = sym (+ℤ_idr start); near = omega arith }

minute_within : {start t : ℤ} {n : ℕ} (m : ℕ) → n ≤ m → Minute start t n → Minute start t m
minute_within m l a = record { after = a.after; is = a.is; near = omega (arith, a.near) }

-- d minutes on
minute_on : {start t : ℤ} {n : ℕ} (d m : ℕ) → n + d ≤ m → Minute start t n → Minute start (t +ℤ pos d) m
minute_on {start} d m l a = record { after = a.after + d; is = ap (λ (z : ℤ). z +ℤ pos d) a.is ∙ +ℤ_assoc start (pos a.after) (pos d); near = omega (arith, a.near) }

minute_pick : {start s t : ℤ} {n : ℕ} (part : Bool) → Minute start s n → Minute start t n → Minute start (cond part s t) n
minute_pick true a b = a
minute_pick false a b = b

minute_later : {start s t : ℤ} {n : ℕ} (part : Bool) → Minute start s n → Minute start t n → Minute start (later_if part s t) n
minute_later {s = s} {t = t} part a b = minute_pick part (minute_pick (lt_z s t) b a) b

pub near_within : {start : ℤ} {ends : List ℤ} {n : ℕ} (m : ℕ) → n ≤ m → Near start ends n → Near start ends m
near_within m l a = record { start_fits = a.start_fits; each = λ i. minute_within m l (a.each i) }

module _ {start : ℤ} {ends : List ℤ} {n : ℕ} (near : Near start ends n) where
  bound_near : (L : Processes) → Minute start (bound_of start ends L) n
  unfolding bound_of
  bound_near L =
      minute_later (has L p0) (near.each p0)
      (minute_later (has L p1) (near.each p1) (minute_later (has L p2) (near.each p2) (minute_later (has L p3) (near.each p3) (minute_start start n))))

  ended_near : (L : Processes) (t : ℤ) (m : ℕ) → n ≤ m → Minute start t m → Near start (ended_at L t ends) m
  unfolding ended_at
  ended_near L t m l a = record { start_fits = near.start_fits; each = each_process (λ i. Minute start (end_of (ended_at L t ends) i) m) (one p0) (one p1) (one p2) (one p3) }
    where
      one : (i : Process) → Minute start (cond (has L i) t (end_of ends i)) m
      one i = minute_pick (has L i) a (minute_within m l (near.each i))

-- ---- one step
module _ (week : Process → List Window) (start : ℤ) (ends : List ℤ) (s : PlannedStep) where
  -- from the bound and the delay as they are read back
  pub begin_read : (bound : ℤ) (d : ℕ) → SFits w64 start → SFits w64 bound → bound ≡ bound_of (read_back start) ends s.processes
      → d ≡ value_or 0 (λ (n : ℕ). n) (delay week s (read_back bound)) → read_back bound +ℤ pos d ≡ begin_of week start ends s
  unfolding begin_of
  begin_read bound d f g e q = rw (q, read_back_lem g, e, read_back_lem f)

  delay_short : (bound : ℤ) → value_or 0 (λ (d : ℕ). d) (delay week s bound) < week_minutes
  delay_short bound = short (delay week s bound) refl
    where
      short : (o : Option ℕ) → delay week s bound ≡ o → value_or 0 (λ (d : ℕ). d) o < week_minutes
      short none q = omega arith
      short (some d) q = let found = delay_found week s bound d q in omega (arith, found.within)

  module _ {n : ℕ} (near : Near start ends n) where
    begin_near : Minute start (begin_of week start ends s) (n + week_minutes)
    unfolding begin_of
    begin_near =
        let bound = bound_of start ends s.processes in
        minute_on (value_or 0 (λ (d : ℕ). d) (delay week s bound)) (n + week_minutes) (omega (arith, delay_short bound)) (bound_near near s.processes)

    pub begin_fits : n ≤ plan_reach → SFits w64 (begin_of week start ends s)
    begin_fits l = minute_fits near.start_fits begin_near (omega arith)

    module _ (short : s.minutes ≤ longest_step) where
      end_near : Minute start (begin_of week start ends s +ℤ pos s.minutes) (n + step_reach)
      end_near = minute_on s.minutes (n + step_reach) (omega arith) begin_near

      pub end_fits : n ≤ plan_reach → SFits w64 (begin_of week start ends s +ℤ pos s.minutes)
      end_fits l = minute_fits near.start_fits end_near (omega arith)

      pub step_near : Near start (ended_at s.processes (begin_of week start ends s +ℤ pos s.minutes) ends) (n + step_reach)
      step_near = ended_near near s.processes (begin_of week start ends s +ℤ pos s.minutes) (n + step_reach) (omega arith) end_near
