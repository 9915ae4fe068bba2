-- The letters of a word join the lengths one by one.
use mathlib.Core.Path.{◌≡◌, ◌∙◌, ap, subst}
use mathlib.Core.List.{List, [], ◌∷◌}
use Prim.Native.Nat.{ℕ, ◌+◌, ◌<◌, ◌≤◌}
use native.Mathlib.Numerals.{add-one}
use native.Mathlib.Omega.{arith}
use lib.ListN.{get_or, length, take}
use lib.Seq.{length-take-le, take_all, take-suc}
use Rattle.model.specs.Groups.{Process, Processes, bit, has, processes_of}
use Rattle.model.specs.Words.{project}
use Rattle.model.proofs.Groups.{bit_low}
use Rattle.model.proofs.Peak.{append_length, project_length}
use Rattle.model.proofs.Tests.{each_process}
use Rattle.table.specs.Reading.{BitsOf}
use Rattle.lengths.specs.Projections.{Lengths, Joined, LengthsOf, Rest, AtMost, length_at}

pub project_shorter : (loc : ℕ → Processes) (i : Process) (w : List ℕ) → length (project loc i w) ≤ length w
project_shorter loc i [] = omega arith
project_shorter loc i (a ∷ w) = omega (arith, project_length loc i a w, project_shorter loc i w, bit_low (has (loc a) i))

-- the first k letters of w have joined
pub record Counting (loc : ℕ → Processes) (w : List ℕ) (l₀ l : Lengths) (k : ℕ) : Type 0 where
  pub inside : k ≤ length w
  pub lengths : (i : Process) → length_at l i ≡ length_at l₀ i + length (project loc i (take k w))

module _ {loc : ℕ → Processes} {w : List ℕ} {l₀ l : Lengths} {k : ℕ} (c : Counting loc w l₀ l k) where
  pub counting_within : {m n : ℕ} → AtMost m l₀ → m + length w ≤ n → AtMost n l
  counting_within first few i = omega (arith, c.inside, c.lengths i, first i, project_shorter loc i (take k w), length-take-le k w c.inside)

  -- the letter a, whose processes are in bits, joins
  pub counting_turn : k < length w → {a bits : ℕ} → a ≡ get_or w k 0 → BitsOf (loc a) bits → {r : Lengths} → Joined l (processes_of bits) r → Counting loc w l₀ r (k + 1)
  counting_turn less {a} {bits} is of {r} joined-bits = record {
    inside = omega arith;
    lengths = λ i. omega (arith, joined i, c.lengths i, one i);
  }
    where
      joined : Joined l (loc (get_or w k 0)) r
      joined = subst (λ (L : Processes). Joined l L r) (of.same ∙ ap loc is) joined-bits

      one : (i : Process) → length (project loc i (take (k + 1) w)) ≡ length (project loc i (take k w)) + bit (has (loc (get_or w k 0)) i)
      one i =
          ap (λ (v : List ℕ). length (project loc i v)) (ap (λ (m : ℕ). take m w) (add-one k) ∙ take-suc w k 0 less)
          ∙ append_length loc i (take k w) (get_or w k 0 ∷ [])
          ∙ omega (arith, project_length loc i (get_or w k 0) [])

  pub counting_end : length w ≤ k → (i : Process) → length_at l i ≡ length_at l₀ i + length (project loc i w)
  counting_end all i = c.lengths i ∙ ap (λ (v : List ℕ). length_at l₀ i + length (project loc i v)) (take_all k w all)

-- ---- from no letter on
abbrev pub none : Lengths
none = 0 ∷ 0 ∷ 0 ∷ 0 ∷ []

pub none_within : AtMost 0 none
none_within = each_process _ (omega arith) (omega arith) (omega arith) (omega arith)

pub counted_word : {loc : ℕ → Processes} {w : List ℕ} {l : Lengths} {k : ℕ} → Counting loc w none l k → length w ≤ k → LengthsOf loc w l
counted_word c all i = omega (arith, counting_end c all i, none_within i)

-- ---- from the letter that a rule reads on
pub rest_within : (L : Processes) (l : Lengths) → Rest L l → AtMost 1 l
rest_within L l rest i = omega (arith, rest i)
