-- A loop over the four processes: the number of each below i is settled, and those of the others are as they were.
use Rattle.std.proofs.Common.{◌≡◌, ◌∙◌, ℕ, ◌<◌, ◌≤◌, length, get_or, ap, sym, arith}
use Rattle.model.specs.Groups.{Process, number_of}
use Rattle.table.specs.Reading.{process_at}
use Rattle.table.proofs.Layouts.{number_at}
use Rattle.lengths.specs.Projections.{Lengths, length_at}

-- f are the numbers settled, and l₀ those before
pub record Turned (f : Process → ℕ) (l₀ l : Lengths) (i : ℕ) : Type 0 where
  pub size : length l ≡ 4
  pub below : (p : Process) → number_of p < i → length_at l p ≡ f p
  pub above : (p : Process) → i ≤ number_of p → length_at l p ≡ length_at l₀ p

-- the number at hand is the one before
pub turn_at : {f : Process → ℕ} {l₀ l : Lengths} {i : ℕ} → Turned f l₀ l i → i < 4 → get_or l i 0 ≡ length_at l₀ (process_at i)
turn_at {l = l} {i = i} t h = ap (λ (k : ℕ). get_or l k 0) (sym (number_at i h)) ∙ t.above (process_at i) (omega (arith, number_at i h))
