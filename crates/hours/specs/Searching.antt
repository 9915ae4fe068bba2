-- What the search for a step's first minute finds in the windows.
use Rattle.std.specs.Prelude.{true, false, cond, List, [], ◌≡◌, ℕ, ◌+◌, ◌-◌, ◌≤◌, ◌<◌, leb, ltb, pos, get_or, length}
use Rattle.std.specs.Prelude
use Rattle.std.proofs.Math.Option.{Option, none, some}
use Rattle.plan_model.specs.declared.Window.{Window}
use Rattle.model.specs.Groups.{Process, has, processes_of}
use Rattle.plan_model.specs.Hours.{PlannedStep, fits, in_window, is_open, longest_step, week_minutes, window_at, windows_of}

-- a step of the processes in bits
abbrev pub step_by : ℕ → ℕ → PlannedStep
step_by bits length = record { processes = processes_of bits; minutes = length }

-- open from minute m of the week up to minute r of the same week; shut at m where r is m
pub record OpenUntil (ws : List Window) (m r : ℕ) : Type 0 where
  pub after : m ≤ r
  pub within : r ≤ week_minutes
  pub opened : (j : ℕ) → m ≤ j → j < r → is_open ws (pos j) ≡ true
  pub shut : r ≡ m → is_open ws (pos m) ≡ false

-- the last minute, counted from an opening, at which a step ends that begins in the week after it
abbrev pub farthest : ℕ
farthest = week_minutes + longest_step

-- A process with the windows ws stays open for r minutes from the opening of w on; for none where w holds no minute. It
-- is shut then, as far as any step asks.
pub record Stays (ws : List Window) (w : Window) (r : ℕ) : Type 0 where
  pub short : r < 65536
  pub within : 0 < r → w.opens < week_minutes
  pub covers : (m : ℕ) → m < week_minutes → in_window m w ≡ true → m < w.opens + r
  pub opened : (j : ℕ) → j < r → is_open ws (pos (w.opens + j)) ≡ true
  pub shut : 0 < r → r < farthest → is_open ws (pos (w.opens + r)) ≡ false

-- so of each window of a process, and of each process
abbrev pub ProcessStays : List Window → List ℕ → Type 0
ProcessStays ws stays = (k : ℕ) → k < length ws → Stays ws (window_at ws k) (get_or stays k 0)

abbrev pub WeekStays : List (List Window) → List ℕ → List (List ℕ) → Type 0
WeekStays hours counts stays = (i : ℕ) → i < 4 → ProcessStays (windows_of hours counts i) (get_or stays i [])

-- the minutes from minute m of the week to the next opening of the window
abbrev pub until_opening : Window → ℕ → ℕ
until_opening w m = cond (ltb m w.opens) (w.opens - m) (w.opens + week_minutes - m)

-- The minutes from minute m of the week to the first from which the `stay` minutes after the window's opening hold a
-- step of this length; a week where they are too few.
abbrev pub until_fitting : Window → ℕ → ℕ → ℕ → ℕ
until_fitting w stay length m =
    cond (ltb stay length) week_minutes
    (cond (leb (week_minutes + length) (stay + until_opening w m)) 0 (until_opening w m))

-- shut in some minute of a step of this length from minute m on
pub record ShutIn (ws : List Window) (length m : ℕ) : Type 0 where
  pub minute : ℕ
  pub within : minute < length
  pub shut : is_open ws (pos (m + minute)) ≡ false

-- r minutes are passed over for one process
pub record Skips (ws : List Window) (length m r : ℕ) : Type 0 where
  pub short : r ≤ longest_step + week_minutes
  pub stays : r ≡ 0 → (k : ℕ) → k < length → is_open ws (pos (m + k)) ≡ true
  pub misses : (e : ℕ) → e < r → ShutIn ws length (m + e)

-- r minutes are passed over for process i, which may have no part in the step
pub record ProcessPasses (week : Process → List Window) (i : Process) (s : PlannedStep) (m r : ℕ) : Type 0 where
  pub short : r ≤ longest_step + week_minutes
  pub stays : r ≡ 0 → has s.processes i ≡ true → (k : ℕ) → k < s.minutes → is_open (week i) (pos (m + k)) ≡ true
  pub misses : (e : ℕ) → e < r → fits week s (pos (m + e)) ≡ false

-- r minutes are passed over for a step
pub record Passes (week : Process → List Window) (s : PlannedStep) (m r : ℕ) : Type 0 where
  pub short : r ≤ longest_step + week_minutes
  pub fitting : r ≡ 0 → fits week s (pos m) ≡ true
  pub misses : (e : ℕ) → e < r → fits week s (pos (m + e)) ≡ false

-- a number that may be missing, as the code answers it
abbrev pub answered : Option ℕ → Prelude.Option ℕ
answered none = Prelude.None
answered (some d) = Prelude.Some d
