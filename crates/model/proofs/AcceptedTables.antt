-- The system of an accepted table is cooperating, starts in control states, and meets what the copy asks of it.
use mathlib.Core.Path.{◌≡◌, refl}
use mathlib.Core.Bool.{◌&&◌, ◌||◌, true}
use mathlib.Core.Logic.{◌≢◌}
use mathlib.Core.Option.{some}
use mathlib.Core.List.{List, [], ◌∷◌}
use Prim.Native.Nat.{◌<◌, ◌^◌, ◌≤◌, ℕ}
use native.Mathlib.Omega.{arith}
use native.Mathlib.Nat.{not-suc-le-zero}
use lib.Dec.{eqb, ltb}
use lib.ListN.{get_or, get_elem?, length}
use borrow.Author.Tests.{eqb-false}
use Rattle.model.specs.declared.Group.{Group}
use Rattle.model.specs.Automata.{Transition}
use Rattle.model.specs.Groups.{Process, Processes, Within, has, within_test, number_of}
use Rattle.model.specs.Lists.{Each}
use Rattle.model.specs.Systems.{Accepting, InAutomaton, Rule}
use Rattle.model.specs.Tables.{Item, absent, bodies, byte_of, controls_of, cooperates, count, group_fits, group_of, is_out_of_turn, last_kind, loc_of, present, rule_of, states_of, system_of, transition_of}
use Rattle.model.proofs.Words.{Located}
use Rattle.model.proofs.CheckedItems.{Complete, count_ceiling_lem}
use Rattle.model.proofs.Copies.{Copyable, StatesFit}
use Rattle.model.proofs.FittingItems.{RuleFits, TransitionFits, accepting_fit, fits_at, fits_outside, letter_fits, located_by, power_small, rules_fit, start_fits, transitions_fit}
use Rattle.model.proofs.Lists.{all_each, each_elem, each_get, each_map, each_of_map}
use Rattle.model.proofs.Mixtures.{test_within}
use Rattle.model.proofs.Paths.{Inside}
use Rattle.model.proofs.Soundness.{Control, ControlOn, Cooperating}
use Rattle.model.proofs.TableProcesses.{controls_states, lacking, letter_present}
use Rattle.model.proofs.Tests.{by_test, or_right}

-- the written letters of a rule, once opened
cooperates_inside : (loc : ℕ → Processes) (r : Rule) → cooperates loc r ≡ true → Inside loc (loc r.letter) r.written
unfolding cooperates
cooperates_inside loc r e = each_map (λ (a : ℕ). within_test (loc a) (loc r.letter) ≡ true) (λ (a : ℕ). Within (loc a) (loc r.letter)) (λ a t. test_within (loc a) (loc r.letter) t)
    r.written (all_each (λ a. within_test (loc a) (loc r.letter)) r.written e)

-- a process that the table lacks has its one state, 255, below 256
fits_everywhere : (field : ℕ) → byte_of absent field ≡ 256 → (ps : List (List ℕ)) (g : Group) → group_fits (present ps) (λ i. byte_of (get_or ps (number_of i) absent) field) g ≡ true
    → Control (λ i. byte_of (get_or ps (number_of i) absent) field) g
fits_everywhere field is ps g e i =
    let bound : Process → ℕ = λ i. byte_of (get_or ps (number_of i) absent) field in
    by_test (has (present ps) i) (fits_at (present ps) bound g e i) (λ n. omega (arith, fits_outside (present ps) bound g e i n, lacking field is ps i n))

module _ (items : List Item) (c : Complete items) where
  checked_rules : Each (λ (body : List ℕ). RuleFits (bodies 1 items) (bodies 2 items) body) (bodies 3 items)
  checked_rules = rules_fit c.checked

  letters_located : Located (loc_of (bodies 2 items))
  letters_located = located_by (bodies 2 items)
      (each_map (λ (body : List ℕ). 1 ≤ byte_of body 0 × byte_of body 0 < 2 ^ length (bodies 1 items)) (λ (body : List ℕ). 1 ≤ byte_of body 0 × byte_of body 0 < 16)
      (λ body b. (b.0, let low : byte_of body 0 < 2 ^ length (bodies 1 items) = b.1 in let top : 2 ^ length (bodies 1 items) ≤ 16 = power_small (length (bodies 1 items)) (count_ceiling_lem 1 c.checked) in omega arith))
      (bodies 2 items) (letter_fits c.checked))

  -- what holds of each body of a kind, said of a rule or transition of the system
  pub rule_has : (P : Rule → Type 0) → ((body : List ℕ) → RuleFits (bodies 1 items) (bodies 2 items) body → P (rule_of body)) → (n : ℕ) (r : Rule) → get_elem? (system_of items).rules n ≡ some r → P r
  unfolding system_of
  rule_has P f n r is = each_elem P (system_of items).rules
      (each_of_map P rule_of (bodies 3 items) (each_map (RuleFits (bodies 1 items) (bodies 2 items)) (λ (body : List ℕ). P (rule_of body)) f (bodies 3 items) checked_rules)) n r is

  pub transition_has : (P : Transition → Type 0) → ((body : List ℕ) → TransitionFits (bodies 1 items) (bodies 2 items) body → P (transition_of body)) → (t : Transition) → InAutomaton (system_of items) t → P t
  unfolding system_of
  transition_has P f t m = each_get P t (system_of items).transitions
      (each_of_map P transition_of (bodies 4 items) (each_map (TransitionFits (bodies 1 items) (bodies 2 items)) (λ (body : List ℕ). P (transition_of body)) f (bodies 4 items) (transitions_fit c.checked))) m

  pub accepted_cooperating : Cooperating (system_of items)
  unfolding system_of
  accepted_cooperating = record {
    located = letters_located;
    cooperates = rule_has (λ (r : Rule). Inside (system_of items).loc ((system_of items).loc r.letter) r.written) (λ body f. cooperates_inside (system_of items).loc (rule_of body) f.cooperative);
    rules_control = rule_has (λ (r : Rule). ControlOn (system_of items).controls ((system_of items).loc r.letter) r.before × ControlOn (system_of items).controls ((system_of items).loc r.letter) r.after)
        (λ body f. (
          fits_at (loc_of (bodies 2 items) (byte_of body 0)) (controls_of (bodies 1 items)) (group_of body 1) f.fits.before,
          fits_at (loc_of (bodies 2 items) (byte_of body 0)) (controls_of (bodies 1 items)) (group_of body 5) f.fits.after,
        ));
  }

  accepting_fits : (g : Group) → Accepting (system_of items) g → group_fits (present (bodies 1 items)) (states_of (bodies 1 items)) g ≡ true
  unfolding system_of
  accepting_fits g m = each_get (λ (g : Group). group_fits (present (bodies 1 items)) (states_of (bodies 1 items)) g ≡ true) g (system_of items).accepting
      (each_of_map (λ (g : Group). group_fits (present (bodies 1 items)) (states_of (bodies 1 items)) g ≡ true) (λ body. group_of body 0) (bodies 5 items) (accepting_fit c.checked)) m

  -- its states are as the copy asks
  pub accepted_copyable : Copyable (system_of items)
  unfolding system_of
  accepted_copyable = record {
    controls = controls_states c.checked;
    automaton = transition_has (StatesFit (system_of items)) (λ body f. record {
      letter = letter_present c.checked (byte_of body 0) f.fits.letter;
      before = fits_at (loc_of (bodies 2 items) (byte_of body 0)) (states_of (bodies 1 items)) (group_of body 1) f.fits.before;
      before_outside = fits_outside (loc_of (bodies 2 items) (byte_of body 0)) (states_of (bodies 1 items)) (group_of body 1) f.fits.before;
      after = fits_at (loc_of (bodies 2 items) (byte_of body 0)) (states_of (bodies 1 items)) (group_of body 5) f.fits.after;
      after_outside = fits_outside (loc_of (bodies 2 items) (byte_of body 0)) (states_of (bodies 1 items)) (group_of body 5) f.fits.after;
    });
    accepting = λ g m. record {
      states = fits_everywhere 1 refl (bodies 1 items) g (accepting_fits g m);
      outside = fits_outside (present (bodies 1 items)) (states_of (bodies 1 items)) g (accepting_fits g m);
    };
  }

  pub accepted_control : Control (system_of items).controls (system_of items).start.states
  unfolding system_of is_out_of_turn
  accepted_control = fits_everywhere 0 refl (bodies 1 items) (group_of (get_or (bodies 6 items) 0 []) 0) (first (bodies 6 items) (start_fits c.checked) started)
    where
      started : 0 < count 6 items
      started =
          let ne : count 6 items ≢ 0 =
          eqb-false (count 6 items) 0 (or_right (ltb 8 (last_kind items) || (eqb 8 6 && ltb 0 (count 6 items)) || (eqb (count 1 items) 0 && ltb 1 8)) (eqb (count 6 items) 0) c.ended.turn) in
          omega arith

      first : (xs : List (List ℕ)) → Each (λ (body : List ℕ). group_fits (present (bodies 1 items)) (controls_of (bodies 1 items)) (group_of body 0) ≡ true) xs → 0 < length xs
          → group_fits (present (bodies 1 items)) (controls_of (bodies 1 items)) (group_of (get_or xs 0 []) 0) ≡ true
      first [] e h = absurd (not-suc-le-zero h)
      first (body ∷ xs) e h = e.0
