-- The unfolding as a machine with a stack: what each step emits, and how high the stack grows.
use mathlib.Core.Path.{◌≡◌}
use mathlib.Core.List.{List, [], ◌++◌, ◌∷◌}
use Prim.Native.Nat.{◌*◌, ◌+◌, ◌-◌, ◌<◌, ◌≤◌, ℕ}
use native.Mathlib.Omega.{arith}
use lib.ListN.{length, length-append}
use Rattle.model.specs.Lists.{Each}
use Rattle.model.specs.Tables.{written_places}
use Rattle.model.specs.Log.{Record, record_at}
use Rattle.model.specs.Unfolding.{emitted, replaced, skipped}
use Rattle.model.proofs.Emission.{Earlier, emitted_unfolds, unfolds_unique}
use Rattle.model.proofs.Lists.{each_append, each_map}

abbrev pub InLog : List Record → List ℕ → Type 0
InLog log ns = Each (λ (n : ℕ). n < length log) ns

module _ (log : List Record) (earlier : Earlier log) where
  path_inside : (n : ℕ) → n < length log → 0 < (record_at log n).round → InLog log (record_at log n).path
  path_inside n h z = each_map (λ (m : ℕ). m < n) (λ (m : ℕ). m < length log) (λ m p. omega arith) (record_at log n).path (earlier n h z)

  -- a record of round 0 is passed over
  pub emitted_skip : (n : ℕ) (ns : List ℕ) → InLog log (n ∷ ns) → (record_at log n).round ≡ 0 → emitted log (n ∷ ns) ≡ emitted log ns
  emitted_skip n ns e z = unfolds_unique (skipped z (emitted_unfolds log earlier ns e.1)) (emitted log (n ∷ ns)) (emitted_unfolds log earlier (n ∷ ns) e)

  -- any other emits its rule and leaves its path in its place
  pub emitted_replace : (n : ℕ) (ns : List ℕ) → InLog log (n ∷ ns) → 0 < (record_at log n).round → emitted log (n ∷ ns) ≡ (record_at log n).rule ∷ emitted log ((record_at log n).path ++ ns)
  emitted_replace n ns e z =
      unfolds_unique (replaced z (emitted_unfolds log earlier ((record_at log n).path ++ ns) (each_append (λ (m : ℕ). m < length log) (record_at log n).path ns (path_inside n e.0 z) e.1)))
      (emitted log (n ∷ ns)) (emitted_unfolds log earlier (n ∷ ns) e)

-- a record that gives way to its path makes the stack higher by so much at most
abbrev pub growth : ℕ
growth = written_places - 1

-- what stands on record x is at most p + growth (N - 1 - x) high, itself counted; p is the height of the first path and N the number of records
abbrev pub Low : ℕ → ℕ → List ℕ → Type 0
Low p N [] = Unit {0}
Low p N (x ∷ xs) = (length (x ∷ xs) + (growth * x + growth) ≤ p + growth * N) × Low p N xs

pub low_start : (p N : ℕ) (ns : List ℕ) → length ns ≤ p → Each (λ (n : ℕ). n < N) ns → Low p N ns
low_start p N [] h e = tt
low_start p N (n ∷ ns) h e = (let l : n < N = e.0 in omega arith, low_start p N ns (omega arith) e.1)

low_push : (p N n : ℕ) (ps ns : List ℕ) → length ps + length ns + growth * n ≤ p + growth * N → Each (λ (m : ℕ). m < n) ps → Low p N ns → Low p N (ps ++ ns)
low_push p N n [] ns h e l = l
low_push p N n (x ∷ ps) ns h e l =
    (let b : x < n = e.0 in omega (arith, length-append ps ns), low_push p N n ps ns (omega arith) e.1 l)

-- a step of the unfolding keeps it so, where a path has at most four places
pub low_replace : (p N n : ℕ) (ps ns : List ℕ) → length ps ≤ written_places → Each (λ (m : ℕ). m < n) ps → Low p N (n ∷ ns) → Low p N (ps ++ ns)
low_replace p N n ps ns h e l = low_push p N n ps ns (omega (arith, l.0)) e l.1

-- so the stack is never higher than p + 3 N
pub low_height : (p N : ℕ) (ns : List ℕ) → Low p N ns → length ns ≤ p + growth * N
low_height p N [] l = omega arith
low_height p N (n ∷ ns) l = omega (arith, l.0)
