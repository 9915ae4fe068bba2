-- The processes of a table as bits, and what check 5 tells of a body.
use Prim.Native.Nat.{◌*◌, ◌-◌, ◌<◌, ◌^◌, ◌≤◌, ℕ}
use lib.Dec.{ltb}
use lib.ListN.{length}
use mathlib.Core.Bool.{Bool, true}
use mathlib.Core.List.{List}
use mathlib.Core.Path.{◌∙◌, ◌≡◌, ap, refl, sym}
use Rattle.model.specs.Groups.{Processes, processes_of, within_test}
use Rattle.model.specs.Tables.{body_length, byte_of, loc_of, present, value_fits}
use Rattle.table.proofs.Bodies.{bodies_length}
use Rattle.table.proofs.Values.{FitRule, fit_rule, transition_letter_lem, up_to_4}
use Rattle.table.specs.Places.{Whole, letters_in, processes_in}
use Rattle.table.specs.declared.Table.{Table}

first : ℕ → Processes
first n = record { b0 = ltb 0 n; b1 = ltb 1 n; b2 = ltb 2 n; b3 = ltb 3 n }

-- where all of n are in
pub present_bits : (ps : List (List ℕ)) (n : ℕ) → n ≤ 4 → length ps ≡ n → processes_of (2 ^ n - 1) ≡ present ps
unfolding first
present_bits ps n h e = up_to_4 (λ m. processes_of (2 ^ m - 1) ≡ first m) refl refl refl refl refl n h ∙ ap first (sym e)

-- each process of the letter is one of the set
abbrev pub within : List ℕ → Table → ℕ → ℕ → Bool
within bytes t outer a = within_test (loc_of (letters_in bytes t) a) (processes_of outer)

-- ---- a body that passed check 5, in a table
module _ {bytes : List ℕ} {t : Table} {k : ℕ} {body : List ℕ} (w : Whole bytes t k body) where
  pub whole_size : {j : ℕ} → k ≡ j → length body ≡ body_length j
  whole_size e = w.size ∙ ap body_length e

  pub whole_rule : k ≡ 3 → value_fits (processes_in bytes t) (letters_in bytes t) k body ≡ true → FitRule t.letters body
  whole_rule e v = rw (bodies_length bytes 1 (3 * t.processes) t.letters) at (fit_rule (processes_in bytes t) (letters_in bytes t) body (rw e at v))

  pub whole_transition : k ≡ 4 → value_fits (processes_in bytes t) (letters_in bytes t) k body ≡ true → byte_of body 0 < t.letters
  whole_transition e v = rw (bodies_length bytes 1 (3 * t.processes) t.letters) at (transition_letter_lem (processes_in bytes t) (letters_in bytes t) body (rw e at v))
