-- Laws of the record numbers on the stack: none, one more, one less; and what stays where only the stack changes.
use mathlib.Core.Path.{◌≡◌, ap, ap₂, ◌∙◌}
use mathlib.Core.Logic.{inl}
use mathlib.Core.List.{List, [], ◌∷◌, ◌++◌}
use Prim.Native.Nat.{ℕ, suc, ◌+◌, ◌-◌, ◌<◌, ◌≤◌}
use native.Mathlib.Omega.{arith}
use lib.ListN.{length}
use Rattle.model.specs.declared.Group.{Group}
use Rattle.model.specs.Records.{number_at}
use Rattle.numbers.specs.NumberBytes.{with_number}
use Rattle.rings.specs.Rings.{OutsideSame}
use Rattle.scratch.specs.Regions.{stack_at}
use Rattle.scratch.specs.StackNumbers.{stack_place, numbers_down}
use Rattle.scratch.proofs.StackNumbers.{down_last, down_more, length_down}
use Rattle.table.specs.declared.Table.{Table}
use Rattle.rests.specs.declared.Scope.{Scope}
use Rattle.rests.proofs.Sets.{linked_same, right_kept}
use Rattle.attempts.specs.declared.Span.{Span}
use Rattle.attempts.specs.Attempts.{Ready, trail}

module _ (t : Table) (low k : ℕ) (s : List ℕ) where
  pub length_trail : low ≤ k → k ≡ low + length (trail t low k s)
  length_trail h = let size : length (trail t low k s) ≡ k - low = length_down s (stack_place (t.pile - k)) (k - low) in omega arith

  pub trail_none : k ≡ low → trail t low k s ≡ []
  unfolding numbers_down
  trail_none e = let none : k - low ≡ 0 = omega arith in ap (numbers_down s (stack_place (t.pile - k))) none

  pub trail_more : (r : ℕ) → low ≤ k → k < t.pile → stack_place (t.pile - 1 - k) + 2 ≤ length s → r < 65536
      → trail t low (k + 1) (with_number 2 s (stack_place (t.pile - 1 - k)) r) ≡ trail t low k s ++ (r ∷ [])
  trail_more r h inside room small =
      let place = stack_place (t.pile - 1 - k) in
      let same : stack_place (t.pile - (k + 1)) ≡ place = ap stack_place (omega arith) in
      let above : place + 2 ≡ stack_place (t.pile - k) = omega arith in
      let more : k + 1 - low ≡ suc (k - low) = omega arith in
      ap₂ (λ (b n : ℕ). numbers_down (with_number 2 s place r) b n) same more
      ∙ down_more s place (k - low) r room small
      ∙ ap (λ (b : ℕ). numbers_down s b (k - low) ++ (r ∷ [])) above

  pub trail_less : low < k → k ≤ t.pile → trail t low k s ≡ trail t low (k - 1) s ++ (number_at 2 s (stack_place (t.pile - k)) ∷ [])
  trail_less h inside =
      let place = stack_place (t.pile - k) in
      let above : place + 2 ≡ stack_place (t.pile - (k - 1)) = omega arith in
      let less : k - low ≡ suc (k - 1 - low) = omega arith in
      ap (numbers_down s place) less
      ∙ down_last s place (k - 1 - low)
      ∙ ap (λ (b : ℕ). numbers_down s b (k - 1 - low) ++ (number_at 2 s place ∷ [])) above

-- ---- where only the stack changes
pub ready_kept : {table : List ℕ} {t : Table} {log : List ℕ} {c : Scope} {span : Span} {g : Group} {s s' : List ℕ}
    → OutsideSame 128 stack_at s s' → Ready table t log c span g s → Ready table t log c span g s'
ready_kept {span = span} {s = s} same w = record {
  scoped = record { some = w.scoped.some; linked = linked_same (omega arith) same w.scoped.linked; limited = w.scoped.limited };
  some = w.some;
  inside = w.inside;
  apart = w.apart;
  right = right_kept span.goal span.high (omega (arith, w.apart, w.scoped.linked.room.room)) (inl (omega (arith, w.apart))) same w.right;
  over = w.over;
}
