-- The bits of 0 to 4 processes, case by case.
use Rattle.std.proofs.Common.{◌≡◌, refl, ℕ, zero, suc, ◌≤◌, [], ◌∷◌, get_or, arith}
use Rattle.model.specs.Groups.{process_bits}
use Rattle.table.specs.Present.{processes_below}
use Rattle.table.proofs.groups.present.Goals as goal

bits_below : (n : ℕ) → n ≤ 4 → get_or (0 ∷ 1 ∷ 3 ∷ 7 ∷ 15 ∷ []) n 0 ≡ process_bits (processes_below n)
unfolding process_bits processes_below
bits_below zero h = refl
bits_below (suc zero) h = refl
bits_below (suc (suc zero)) h = refl
bits_below (suc (suc (suc zero))) h = refl
bits_below (suc (suc (suc (suc zero)))) h = refl
bits_below (suc (suc (suc (suc (suc n))))) h = absurd (omega arith)

pub returns : goal.returns
returns c = bits_below c.args.t.processes c.requires
