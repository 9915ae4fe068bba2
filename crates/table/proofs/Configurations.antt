-- What an accepted table gives to those who step through its configurations: each letter has a process of the table, states are below 8 at the
-- table's processes and 255 elsewhere, words have letters of the table; and every step keeps it so.
use mathlib.Core.Path.{◌≡◌, ap, sym, subst, ◌∙◌}
use mathlib.Core.Bool.{true, true≢false}
use mathlib.Core.List.{List, [], ◌∷◌, ◌++◌}
use Prim.Native.Nat.{ℕ, ◌<◌, ◌≤◌}
use native.Mathlib.Omega.{arith}
use lib.Dec.{eqb}
use lib.ListN.{get_or, get_or-map}
use Rattle.model.specs.declared.Group.{Group}
use Rattle.model.specs.Groups.{Process, Processes, Within, at, has, merge}
use Rattle.model.specs.Automata.{Transition, move}
use Rattle.model.specs.Lists.{Each}
use Rattle.model.specs.Systems.{Rule}
use Rattle.model.specs.Tables.{bodies, controls_of, group_fits, group_of, present, rule_of, states_of, system_of, transition_of}
use Rattle.model.proofs.Words.{Located}
use Rattle.model.specs.Words.{remove_first}
use Rattle.model.proofs.Groups.{at_merge}
use Rattle.model.proofs.Lists.{each_append, each_place, each_by_place}
use Rattle.model.proofs.CheckedItems.{Complete}
use Rattle.model.proofs.FittingItems.{Fitting, RuleFits, TransitionFits, fits_at, fits_outside, rules_fit, transitions_fit, start_fits}
use Rattle.model.proofs.AcceptedTables.{accepted_cooperating}
use Rattle.model.proofs.TableProcesses.{letter_present, ranged_at}
use Rattle.model.proofs.Tests.{by_test}
use Rattle.states.specs.StateNumbers.{Over}
use Rattle.table.specs.declared.Table.{Table}
use Rattle.table.specs.Reading.{Holds, items_in, system_in, rule_in, transition_in}
use Rattle.table.proofs.Readings.{holds_complete}
use Rattle.table.proofs.Layouts.{count_in, pile_count, pile_letter_in, written_letter_in}
use Rattle.table.specs.Present.{processes_below, present_in}

-- ---- groups
-- a group that fits, with bounds of at most 8 at the processes of L
pub over_fits : (L : Processes) (bound : Process → ℕ) (g : Group) → ((i : Process) → has L i ≡ true → bound i ≤ 8) → group_fits L bound g ≡ true → Over L g
over_fits L bound g small e = record {
  inside = λ i m. let low : at g i < bound i = fits_at L bound g e i m in let top : bound i ≤ 8 = small i m in omega arith;
  outside = fits_outside L bound g e;
}

-- states that change within L
over_merge_fits : (L M : Processes) (bound : Process → ℕ) (x g : Group) → ((i : Process) → has L i ≡ true → bound i ≤ 8) → Within M L → group_fits M bound x ≡ true → Over L g → Over L (merge M x g)
over_merge_fits L M bound x g small w e o = record {
  inside = λ i m. rw (at_merge M x g i) (by_test (has M i)
      (λ y. rw y (let low : at x i < bound i = fits_at M bound x e i y in let top : bound i ≤ 8 = small i m in omega arith))
      (λ f. rw f (o.inside i m)));
  outside = λ i m. rw (at_merge M x g i) (by_test (has M i)
      (λ y. absurd (true≢false (sym (w i y) ∙ m)))
      (λ f. rw f (o.outside i m)));
}

module _ (bytes : List ℕ) (t : Table) (h : Holds bytes t) where
  complete : Complete (items_in bytes)
  complete = holds_complete bytes t h

  -- each letter has a process
  pub located : Located (system_in bytes).loc
  unfolding system_in
  located = (accepted_cooperating (items_in bytes) complete).located

  present_is : present (bodies 1 (items_in bytes)) ≡ present_in t
  unfolding processes_below
  present_is = ap processes_below (count_in bytes t h 1 (omega arith))

  -- which is a process of the table
  pub loc_within : (a : ℕ) → a < t.letters → Within ((system_in bytes).loc a) (present_in t)
  unfolding system_in system_of
  loc_within a l = subst (Within ((system_in bytes).loc a)) present_is (letter_present complete.checked a (omega (arith, count_in bytes t h 2 (omega arith))))

  -- which has at most 8 states
  pub bound_at : (i : Process) → has (present_in t) i ≡ true → (controls_of (bodies 1 (items_in bytes)) i ≤ 8) × (states_of (bodies 1 (items_in bytes)) i ≤ 8)
  bound_at i m = let r = ranged_at complete.checked i (subst (λ (L : Processes). has L i ≡ true) (sym present_is) m) in (omega (arith, r.controls, r.small), r.small)

  -- ---- states
  pub start_over : Over (present_in t) (system_in bytes).start.states
  unfolding system_in system_of
  start_over =
      over_fits (present_in t) (controls_of (bodies 1 (items_in bytes))) (group_of (get_or (bodies 6 (items_in bytes)) 0 []) 0) (λ i m. (bound_at i m).0)
      (subst (λ (L : Processes). group_fits L (controls_of (bodies 1 (items_in bytes))) (group_of (get_or (bodies 6 (items_in bytes)) 0 []) 0) ≡ true) present_is
      (each_place (λ (body : List ℕ). group_fits (present (bodies 1 (items_in bytes))) (controls_of (bodies 1 (items_in bytes))) (group_of body 0) ≡ true) (bodies 6 (items_in bytes)) [] 0
      (start_fits complete.checked) (omega (arith, count_in bytes t h 6 (omega arith)))))

  -- a letter of a rule or a transition, and the states after it
  stays : (bound : Process → ℕ) (x : Transition) (g : Group) → ((i : Process) → has (present_in t) i ≡ true → bound i ≤ 8) → Fitting (bodies 2 (items_in bytes)) bound x → Over (present_in t) g
      → Over (present_in t) (merge ((system_in bytes).loc x.letter) x.after g)
  unfolding system_in system_of
  stays bound x g small f o =
      let l : x.letter < t.letters = omega (arith, f.letter, count_in bytes t h 2 (omega arith)) in
      over_merge_fits (present_in t) ((system_in bytes).loc x.letter) bound x.after g small (loc_within x.letter l) f.after o

  pub move_over : (k : ℕ) (g : Group) → k < t.transitions → Over (present_in t) g → Over (present_in t) (move (system_in bytes).loc (transition_in bytes k) g)
  unfolding system_in system_of
  move_over k g l o =
      let e : transition_in bytes k ≡ transition_of (get_or (bodies 4 (items_in bytes)) k []) = get_or-map transition_of (bodies 4 (items_in bytes)) k [] in
      let f = each_place (TransitionFits (bodies 1 (items_in bytes)) (bodies 2 (items_in bytes))) (bodies 4 (items_in bytes)) [] k (transitions_fit complete.checked) (omega (arith, count_in bytes t h 4 (omega arith))) in
      subst (λ (x : Transition). Over (present_in t) (move (system_in bytes).loc x g)) (sym e)
      (stays (states_of (bodies 1 (items_in bytes))) (transition_of (get_or (bodies 4 (items_in bytes)) k [])) g (λ i m. (bound_at i m).1) f.fits o)

  pub fired_over : (k : ℕ) (g : Group) → k < t.rules → Over (present_in t) g → Over (present_in t) (merge ((system_in bytes).loc (rule_in bytes k).letter) (rule_in bytes k).after g)
  unfolding system_in system_of
  fired_over k g l o =
      let e : rule_in bytes k ≡ rule_of (get_or (bodies 3 (items_in bytes)) k []) = get_or-map rule_of (bodies 3 (items_in bytes)) k [] in
      let f = each_place (RuleFits (bodies 1 (items_in bytes)) (bodies 2 (items_in bytes))) (bodies 3 (items_in bytes)) [] k (rules_fit complete.checked) (omega (arith, count_in bytes t h 3 (omega arith))) in
      subst (λ (x : Rule). Over (present_in t) (merge ((system_in bytes).loc x.letter) x.after g)) (sym e)
      (stays (controls_of (bodies 1 (items_in bytes))) (transition_of (get_or (bodies 3 (items_in bytes)) k [])) g (λ i m. (bound_at i m).0) f.fits o)

  -- ---- words
  abbrev Lettered : List ℕ → Type 0
  Lettered w = Each (λ (a : ℕ). a < t.letters) w

  pub start_lettered : Each (λ (a : ℕ). a < t.letters) (system_in bytes).start.word
  start_lettered = each_by_place (λ (a : ℕ). a < t.letters) (system_in bytes).start.word (λ j l. pile_letter_in bytes t h j (omega (arith, pile_count bytes t h)))

  removed_lettered : (a : ℕ) (w : List ℕ) → Lettered w → Lettered (remove_first a w)
  removed_lettered a [] e = tt
  removed_lettered a (b ∷ w) e = by_test (eqb b a) (λ y. rw y e.1) (λ n. rw n (e.0, removed_lettered a w e.1))

  pub fired_lettered : (k : ℕ) (w : List ℕ) → k < t.rules → Each (λ (a : ℕ). a < t.letters) w → Each (λ (a : ℕ). a < t.letters) ((rule_in bytes k).written ++ remove_first (rule_in bytes k).letter w)
  fired_lettered k w l e =
      each_append (λ (a : ℕ). a < t.letters) (rule_in bytes k).written (remove_first (rule_in bytes k).letter w)
      (each_by_place (λ (a : ℕ). a < t.letters) (rule_in bytes k).written (λ j m. written_letter_in bytes t h k j l m)) (removed_lettered (rule_in bytes k).letter w e)
