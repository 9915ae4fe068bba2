-- The system of an accepted table whose automaton is saturated, with the copy where it has one: it meets what the theorems ask, and its states are below 8.
use mathlib.Core.Path.{◌∙◌, ◌≡◌, subst, sym}
use mathlib.Core.Bool.{false, true, true≢false}
use mathlib.Core.List.{List}
use Prim.Native.Nat.{◌<◌, ◌≤◌, ℕ}
use native.Mathlib.Omega.{arith}
use lib.ListN.{length}
use Rattle.model.specs.declared.Group.{Group}
use Rattle.model.specs.Automata.{Transition}
use Rattle.model.specs.Copies.{leaves_control, reenters}
use Rattle.model.specs.Groups.{Process, at, has}
use Rattle.model.specs.Systems.{InAutomaton, Rule}
use Rattle.model.specs.Tables.{Item, bodies, controls_of, is_narrow, loc_of, present, saturated_of, system_of, transition_of}
use Rattle.model.proofs.AcceptedTables.{accepted_cooperating, accepted_copyable, rule_has, transition_has}
use Rattle.model.proofs.CheckedItems.{Complete, count_ceiling_lem}
use Rattle.model.proofs.Copies.{Copyable, copied_only, well_formed_copy, with_copy_copyable}
use Rattle.model.proofs.FittingItems.{Fitting, fits_byte}
use Rattle.model.proofs.Limit.{ByteGroup, ByteSystem, ByteTransition}
use Rattle.model.proofs.Lists.{each_all, mem_each}
use Rattle.model.proofs.Reachability.{WellFormed}
use Rattle.model.proofs.TableProcesses.{controls_small, letter_present, narrow_four, ranged_at}
use Rattle.model.proofs.Tests.{by_test}

module _ (items : List Item) (c : Complete items) where
  pub accepted_well_formed : WellFormed (saturated_of items)
  accepted_well_formed = well_formed_copy (system_of items) (accepted_copyable items c) (accepted_cooperating items c)

  pub saturated_copyable : Copyable (saturated_of items)
  saturated_copyable = with_copy_copyable (system_of items) (accepted_copyable items c)

  -- the copy is made only where every process has at most 4 states
  narrow : is_narrow (bodies 1 items) ≡ false → reenters (system_of items) ≡ true → ⊥
  unfolding system_of reenters
  narrow wide y =
      let loc = (system_of items).loc in
      let controls = (system_of items).controls in
      true≢false (sym y ∙ rw (each_all (leaves_control loc controls) (system_of items).transitions
      (mem_each (system_of items).transitions (λ (t : Transition). leaves_control loc controls t ≡ true)
      (transition_has items c (λ (t : Transition). leaves_control loc controls t ≡ true) (λ body f. f.leaving wide)))))

  pub saturated_eight : (i : Process) → has (present (bodies 1 items)) i ≡ true → (saturated_of items).states i ≤ 8
  unfolding system_of
  saturated_eight i m = by_test (reenters (system_of items))
      (λ y. rw y (by_test (is_narrow (bodies 1 items)) (λ n. omega (arith, narrow_four (bodies 1 items) n i m)) (λ w. absurd (narrow w y))))
      (λ n. rw n (ranged_at c.checked i m).small)

  -- the letters are the table's
  pub saturated_letter : (t : Transition) → InAutomaton (saturated_of items) t → t.letter < length (bodies 2 items)
  saturated_letter t m = by_test (reenters (system_of items))
      (λ y. let k = copied_only (system_of items) t (rw y at m) in subst (λ (u : Transition). u.letter < length (bodies 2 items)) k.makes (own k.plain k.is))
      (λ n. own t (rw n at m))
    where
      own : (t : Transition) → InAutomaton (system_of items) t → t.letter < length (bodies 2 items)
      own = transition_has items c (λ (t : Transition). t.letter < length (bodies 2 items)) (λ body f. f.fits.letter)

  letter_byte : (a : ℕ) → a < length (bodies 2 items) → a < 256
  letter_byte a l = omega (arith, count_ceiling_lem 2 c.checked)

  -- at the letter's processes a state below 8, elsewhere 255
  state_byte : (a : ℕ) → a < length (bodies 2 items) → (g : Group) → ((i : Process) → has ((system_of items).loc a) i ≡ true → at g i < (saturated_of items).states i)
      → ((i : Process) → has ((system_of items).loc a) i ≡ false → at g i ≡ 255) → ByteGroup g
  unfolding system_of
  state_byte a l g low outside i = by_test (has ((system_of items).loc a) i)
      (λ y. omega (arith, low i y, saturated_eight i (letter_present c.checked a l i y)))
      (λ n. omega (arith, outside i n))

  pub accepted_bytes : ByteSystem (saturated_of items)
  accepted_bytes = record {
    rules = rule_has items c (λ (r : Rule). ByteTransition (record { letter = r.letter; before = r.before; after = r.after })) (λ body f. rule_bytes (transition_of body) f.fits);
    automaton = λ t m. let f = saturated_copyable.automaton t m in let l = saturated_letter t m in record {
      letter = letter_byte t.letter l;
      before = state_byte t.letter l t.before f.before f.before_outside;
      after = state_byte t.letter l t.after f.after f.after_outside;
    };
  }
    where
      rule_bytes : (t : Transition) → Fitting (bodies 2 items) (controls_of (bodies 1 items)) t → ByteTransition t
      rule_bytes t f = record {
        letter = letter_byte t.letter f.letter;
        before = fits_byte (loc_of (bodies 2 items) t.letter) (controls_of (bodies 1 items)) t.before (controls_small c.checked) f.before;
        after = fits_byte (loc_of (bodies 2 items) t.letter) (controls_of (bodies 1 items)) t.after (controls_small c.checked) f.after;
      }
