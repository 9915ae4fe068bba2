-- The regions of one phase do not meet.
use mathlib.Core.List.{[], ◌∷◌}
use Prim.Native.Nat.{ℕ, ◌*◌}
use native.Mathlib.Omega.{arith}
use Rattle.model.specs.Calls.{scratch_for}
use Rattle.scratch.specs.Regions.{Disjoint, link_regions, region, round_regions, rule_regions, start_regions, transition_codes_at, walk_regions}

pub initial_fits : (n : ℕ) → Disjoint (region transition_codes_at (8 * n) ∷ []) (scratch_for n)
initial_fits n = omega arith

pub rules_apart : Disjoint rule_regions 9000
rules_apart = (omega arith, (omega arith, (omega arith, omega arith)))

pub rounds_apart : Disjoint round_regions 9000
rounds_apart = (omega arith, (omega arith, (omega arith, (omega arith, (omega arith, (omega arith, omega arith))))))

pub links_apart : (n : ℕ) → Disjoint (link_regions n) (scratch_for n)
links_apart n = (omega arith, omega arith)

pub start_apart : (n : ℕ) → Disjoint (start_regions n) (scratch_for n)
start_apart n = (omega arith, (omega arith, (omega arith, (omega arith, omega arith))))

pub walk_apart : Disjoint walk_regions 2048
walk_apart = (omega arith, omega arith)
