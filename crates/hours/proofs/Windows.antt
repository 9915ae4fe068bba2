-- Searches through the windows of one process: up to when it is open, how long it stays open from an opening on, and the first minute from which it stays
-- open for the whole length of a step.
use mathlib.Core.Path.{◌≡◌, refl, sym, ap, ◌∙◌}
use mathlib.Core.Bool.{Bool, true, false, ◌&&◌, true≢false}
use mathlib.Core.List.{List, [], ◌∷◌}
use Prim.Native.Nat.{ℕ, zero, suc, ◌+◌, ◌-◌, ◌%◌, ◌≤◌, ◌<◌}
use native.Mathlib.Nat.{not-suc-le-zero}
use native.Mathlib.Omega.{arith}
use lib.Dec.{ltb, leb}
use lib.IntN.{pos}
use lib.ListN.{get_or, length, take}
use borrow.Author.Tests.{le-ltb, leb-true, ltb-true, ltb-false}
use Rattle.plan_model.specs.declared.Window.{Window}
use Rattle.model.specs.Lists.{any_of}
use Rattle.plan_model.specs.Hours.{in_window, is_open, longest_step, week_minutes, window_at}
use Rattle.model.proofs.Tests.{and_left, and_right, by_test, or_left, or_right}
use Rattle.hours.specs.Searching.{OpenUntil, ProcessStays, ShutIn, Skips, Stays, farthest, until_fitting, until_opening}

-- ---- some window of the first k
-- behind the last window a list reads as one that holds no minute
abbrev none : Window
none = record { opens = 0; closes = 0 }

none_holds : (m : ℕ) → in_window m none ≡ false
none_holds m = rw (le-ltb m 0 (omega arith)) (shut (leb 0 m))
  where
    shut : (b : Bool) → (b && false) ≡ false
    shut true = refl
    shut false = refl

-- where none holds it, each does not
misses_each : (m : ℕ) (ws : List Window) → any_of (in_window m) ws ≡ false → (k : ℕ) → in_window m (window_at ws k) ≡ false
misses_each m [] e k = none_holds m
misses_each m (w ∷ ws) e zero = or_left (in_window m w) (any_of (in_window m) ws) e
misses_each m (w ∷ ws) e (suc k) = misses_each m ws (or_right (in_window m w) (any_of (in_window m) ws) e) k

record Held (ws : List Window) (m : ℕ) : Type 0 where
  pub place : ℕ
  pub below : place < length ws
  pub holds : in_window m (window_at ws place) ≡ true

held : (m : ℕ) (ws : List Window) → any_of (in_window m) ws ≡ true → Held ws m
held m [] e = absurd (true≢false (sym e))
held m (w ∷ ws) e =
    by_test (in_window m w)
    (λ y. record { place = 0; below = omega arith; holds = y })
    (λ z. let r = held m ws (rw z at e) in record { place = suc r.place; below = omega (arith, r.below); holds = r.holds })

-- ---- open until
-- after the first k windows: open from m to the latest closing
pub record Reaching (ws : List Window) (m k latest : ℕ) : Type 0 where
  pub after : m ≤ latest
  pub opened : (j : ℕ) → m ≤ j → j < latest → any_of (in_window j) (take k ws) ≡ true
  pub shut : latest ≡ m → any_of (in_window m) (take k ws) ≡ false

-- ---- the stay from an opening on
-- two minutes of the same minute of the week
pub open_same : (ws : List Window) (j k : ℕ) → j % week_minutes ≡ k % week_minutes → is_open ws (pos j) ≡ is_open ws (pos k)
open_same ws j k e = ap (λ (m : ℕ). any_of (in_window m) ws) e

-- from the opening of w on it stays open for `run` minutes, which are those of w or more
pub record Staying (ws : List Window) (w : Window) (run : ℕ) : Type 0 where
  pub within : w.opens < week_minutes
  pub short : run ≤ farthest + week_minutes
  pub covers : (m : ℕ) → m < week_minutes → in_window m w ≡ true → m < w.opens + run
  pub opened : (j : ℕ) → j < run → is_open ws (pos (w.opens + j)) ≡ true

in_parts : (m : ℕ) (w : Window) → in_window m w ≡ true → (w.opens ≤ m) × (m < w.closes)
in_parts m w e = (leb-true w.opens m (and_left (leb w.opens m) (ltb m w.closes) e), ltb-true m w.closes (and_right (leb w.opens m) (ltb m w.closes) e))

module _ (ws : List Window) (w : Window) (opens run : ℕ) (o : opens ≡ w.opens) (s : Staying ws w run) where
  pub staying_turn : (until : ℕ) → run < farthest → OpenUntil ws ((opens + run) % week_minutes) until → Staying ws w (run + (until - (opens + run) % week_minutes))
  staying_turn until h u =
      let at = (opens + run) % week_minutes in
      record {
        within = s.within;
        short = omega (arith, u.within);
        covers = λ m a e. omega (arith, s.covers m a e);
        opened = λ j a.
            by_test (ltb j run)
            (λ y. s.opened j (ltb-true j run y))
            (λ y. let b : run ≤ j = ltb-false j run y in
            open_same ws (w.opens + j) (at + (j - run)) (omega arith) ∙ u.opened (at + (j - run)) (omega arith) (omega (arith, u.after)));
      }

-- ---- the minutes to the first that fits by one window
until_some : (w : Window) (m : ℕ) → m < week_minutes → 0 < until_opening w m
until_some w m l = by_test (ltb m w.opens) (λ y. rw y (let c : m < w.opens = ltb-true m w.opens y in omega arith)) (λ y. rw y (omega arith))

-- a step from minute x on, in the window, lasts beyond its stay
abbrev Beyond : Window → ℕ → ℕ → ℕ → Type 0
Beyond w stay length x = in_window x w ≡ true → w.opens + stay < x + length

module _ (w : Window) (stay length m : ℕ) (l : m < week_minutes) where
  -- no minute is left: the process stays open for the whole length
  fitting_now : (ws : List Window) → Stays ws w stay → until_fitting w stay length m ≡ 0 → (k : ℕ) → k < length → is_open ws (pos (m + k)) ≡ true
  fitting_now ws s e k h =
      by_test (ltb stay length)
      (λ y. absurd (let z : ◌≡◌ {A = ℕ} week_minutes 0 = rw y at e in omega arith))
      (λ n. by_test (leb (week_minutes + length) (stay + until_opening w m))
      (λ y. long (ltb-false stay length n) (leb-true (week_minutes + length) (stay + until_opening w m) y))
      (λ z. absurd (let q : until_opening w m ≡ 0 = rw (n, z) at e in omega (arith, until_some w m l))))
    where
      long : length ≤ stay → week_minutes + length ≤ stay + until_opening w m → is_open ws (pos (m + k)) ≡ true
      long c d =
          let in-week = s.within (omega arith) in
          by_test (ltb m w.opens)
          (λ y. let g : week_minutes + length ≤ stay + (w.opens - m) = rw y at d in
          let b = ltb-true m w.opens y in
          let j = m + week_minutes + k - w.opens in
          open_same ws (m + k) (w.opens + j) (omega arith) ∙ s.opened j (omega arith))
          (λ y. let g : week_minutes + length ≤ stay + (w.opens + week_minutes - m) = rw y at d in
          let b = ltb-false m w.opens y in
          let j = m + k - w.opens in
          open_same ws (m + k) (w.opens + j) (omega arith) ∙ s.opened j (omega arith))

-- ---- the minutes to the first that fits by some window
-- after the first k windows: a step that begins within the minutes that are left lasts beyond the stay of each
pub record Fitting (ws : List Window) (stays : List ℕ) (size m k least : ℕ) : Type 0 where
  pub some_minute : 0 < least
  pub short : least ≤ week_minutes
  pub beyond : (e : ℕ) → e < least → (j : ℕ) → j < k → Beyond (window_at ws j) (get_or stays j 0) size ((m + e) % week_minutes)

module _ (ws : List Window) (stays : List ℕ) (size m : ℕ) (l : m < week_minutes) where
  module _ (s : ProcessStays ws stays) where
    pub fitting_stop : (k gap : ℕ) → k < length ws → gap ≡ until_fitting (window_at ws k) (get_or stays k 0) size m → gap ≡ 0 → Skips ws size m 0
    fitting_stop k gap h g z =
        record {
          short = omega arith;
          stays = λ e. fitting_now (window_at ws k) (get_or stays k 0) size m l ws (s k h) (sym g ∙ z);
          misses = λ e a. absurd (not-suc-le-zero a);
        }

    pub fitting_end : (k least : ℕ) → 0 < size → size ≤ longest_step → length ws ≤ k → Fitting ws stays size m k least → Skips ws size m least
    fitting_end k least some short h f =
        record {
          short = omega (arith, f.short);
          stays = λ z. absurd (omega (arith, f.some_minute));
          misses = λ e a.
              by_test (is_open ws (pos (m + e)))
              (λ y. shut_after e a (held ((m + e) % week_minutes) ws y))
              (λ n. record { minute = 0; within = some; shut = open_same ws (m + e + 0) (m + e) (omega arith) ∙ n });
        }
      where
        shut_after : (e : ℕ) → e < least → Held ws ((m + e) % week_minutes) → ShutIn ws size (m + e)
        shut_after e a r =
            let x = (m + e) % week_minutes in
            let w = window_at ws r.place in
            let stay = get_or stays r.place 0 in
            let t = s r.place r.below in
            let p = in_parts x w r.holds in
            let c = t.covers x (omega arith) r.holds in
            let b = f.beyond e a r.place (omega (arith, r.below)) r.holds in
            record {
              minute = w.opens + stay - x;
              within = omega (arith, b, c);
              shut = open_same ws (m + e + (w.opens + stay - x)) (w.opens + stay) (omega (arith, c)) ∙ t.shut (omega (arith, p.0, c)) (omega (arith, b, p.0));
            }

-- ---- a list that is filled in turn: what holds of the places below k
pub record Filled {A : Type 0} (P : ℕ → A → Type 0) (none : A) (size : ℕ) (filled : List A) (k : ℕ) : Type 0 where
  pub places : length filled ≡ size
  pub each : (j : ℕ) → j < k → P j (get_or filled j none)
