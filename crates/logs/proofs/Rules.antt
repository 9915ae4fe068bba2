-- The rules and transitions of an accepted table: where they stand in its system, and that their states are of their letter's processes.
use mathlib.Core.Path.{◌≡◌, refl, ap, sym, subst, ◌∙◌}
use mathlib.Core.Bool.{true, true≢false}
use mathlib.Core.Logic.{⊎_elim}
use mathlib.Core.Option.{some}
use mathlib.Core.List.Memᴰ
use mathlib.Core.List.{List, [], ◌∷◌, map, append-nil, Memᴰ}
use Prim.Native.Nat.{ℕ, zero, suc, ◌+◌, ◌<◌, ◌≤◌}
use native.Mathlib.Omega.{arith}
use lib.Dec.{eqb}
use lib.ListN.{length, get_or, get_elem?, drop, drop_of_length-le, get_or-map}
use lib.Seq.{drop-cons}
use borrow.Author.Tests.{eq-eqb, eqb-true}
use Rattle.model.specs.declared.Group.{Group}
use Rattle.model.specs.Groups.{Process, Processes, Within, has, restrict}
use Rattle.model.specs.Automata.{Transition}
use Rattle.model.specs.Lists.{Each}
use Rattle.model.specs.Log.{key_digits}
use Rattle.model.specs.Systems.{InAutomaton, Rule}
use Rattle.model.specs.Tables.{Item, bodies, controls_of, is_twin, rule_of, same_bytes, states_of, system_of, transition_of}
use Rattle.model.proofs.Groups.{at_restrict, ext}
use Rattle.model.proofs.Lists.{Distinct, any_of_lem, distinct_append, each_both, each_get, each_place, each_by_place, elem_some, elem_place}
use Rattle.model.proofs.CheckedItems.{Checked, none_yet, one_more, Complete, Passes, bodies_more}
use Rattle.model.proofs.FittingItems.{Fitting, RuleFits, rules_fit}
use Rattle.model.proofs.AcceptedTables.{accepted_cooperating, accepted_copyable}
use Rattle.model.proofs.CopiedTables.{saturated_copyable, saturated_eight, saturated_letter}
use Rattle.model.proofs.Copies.{with_copy_distinct}
use Rattle.model.proofs.Tests.{by_test, and_both}
use Rattle.states.specs.StateNumbers.{Over}
use Rattle.table.specs.declared.Table.{Table}
use Rattle.table.specs.Reading.{Holds, items_in, saturated_in, system_in, rule_in}
use Rattle.table.proofs.Readings.{holds_complete}
use Rattle.table.proofs.Layouts.{body_in, body_size, count_in, rule_letter_in, rules_count, written_letter_in}
use Rattle.table.proofs.Configurations.{loc_within, over_fits, bound_at}

-- ---- lists by their places
pub each_by_elem : {A : Type 0} (P : A → Type 0) (l : List A) → ((k : ℕ) (x : A) → get_elem? l k ≡ some x → P x) → Each P l
each_by_elem P [] f = tt
each_by_elem P (x ∷ l) f = (f 0 x refl, each_by_elem P l (λ k y e. f (suc k) y e))

-- ---- groups
pub over_restrict : (L : Processes) (g : Group) → Over L g → restrict L g ≡ g
over_restrict L g o = ext (λ i. rw at_restrict (by_test (has L i) (λ m. rw m) (λ n. rw n (sym (o.outside i n)))))

-- ---- no two transitions have the same body
same_bytes_lem : (xs : List ℕ) → same_bytes xs xs ≡ true
same_bytes_lem [] = refl
same_bytes_lem (x ∷ xs) = and_both (eqb x x) (same_bytes xs xs) (eq-eqb x x refl) (same_bytes_lem xs)

single_body : (items : List Item) (body : List ℕ) → Passes items 4 body → Memᴰ body (bodies 4 items) → ⊥
unfolding is_twin
single_body items body p m = true≢false (sym (any_of_lem (same_bytes body) (bodies 4 items) body m (same_bytes_lem body)) ∙ p.single)

bodies_distinct : {items : List Item} → Checked items → Distinct (bodies 4 items)
bodies_distinct none_yet = tt
bodies_distinct (one_more {items = items} x c p) = by_test (eqb x.kind 4)
    (λ y. rw (bodies_more 4 items x, y) (distinct_append (bodies 4 items) (x.body ∷ []) (bodies_distinct c) ((λ m. Memᴰ.not-nil m), tt) (λ z m n. ⊎_elim
    (λ (e : z ≡ x.body). single_body items x.body (subst (λ (k : ℕ). Passes items k x.body) (eqb-true x.kind 4 y) p) (subst (λ (b : List ℕ). Memᴰ b (bodies 4 items)) e m))
    (λ (n' : Memᴰ z []). Memᴰ.not-nil n') (Memᴰ.cases_cons n))))
    (λ n. rw (bodies_more 4 items x, n, append-nil) (bodies_distinct c))

-- a body of nine bytes is the digits of its transition
abbrev digits_from : ℕ → ℕ → List ℕ → List ℕ
digits_from zero i l = []
digits_from (suc n) i l = get_or l i 0 ∷ digits_from n (suc i) l

digits_from_lem : (n i : ℕ) (l : List ℕ) → length l ≡ i + n → drop i l ≡ digits_from n i l
digits_from_lem zero i l e = drop_of_length-le l {i = i} (omega arith)
digits_from_lem (suc n) i l e = drop-cons l i 0 (omega arith) ∙ ap (λ (r : List ℕ). get_or l i 0 ∷ r) (digits_from_lem n (suc i) l (omega arith))

transition_body : (body : List ℕ) → length body ≡ 9 → body ≡ key_digits (transition_of body)
transition_body body e = digits_from_lem 9 0 body e

distinct_transitions : (ls : List (List ℕ)) → Each (λ (body : List ℕ). length body ≡ 9) ls → Distinct ls → Distinct (map transition_of ls)
distinct_transitions [] e d = tt
distinct_transitions (body ∷ ls) e d = (absent_later, distinct_transitions ls e.1 d.1)
  where
    absent_later : Memᴰ (transition_of body) (map transition_of ls) → ⊥
    absent_later m =
        let c = Memᴰ.of_map transition_of ls m in
        let size : length c.0 ≡ 9 = each_get (λ (b : List ℕ). length b ≡ 9) c.0 ls e.1 c.1 in
        let same : body ≡ c.0 = transition_body body e.0 ∙ ap key_digits (sym c.2) ∙ sym (transition_body c.0 size) in
        d.0 (subst (λ (b : List ℕ). Memᴰ b ls) (sym same) c.1)

module _ (bytes : List ℕ) (t : Table) (h : Holds bytes t) where
  complete : Complete (items_in bytes)
  complete = holds_complete bytes t h

  -- ---- groups that fit a letter of the table
  letter_bound : (a : ℕ) → a < t.letters → (i : Process) → has ((system_in bytes).loc a) i ≡ true → (controls_of (bodies 1 (items_in bytes)) i ≤ 8) × (states_of (bodies 1 (items_in bytes)) i ≤ 8)
  letter_bound a l i m = bound_at bytes t h i (loc_within bytes t h a l i m)

  -- ---- rules
  pub rule_elem : (k : ℕ) → k < t.rules → get_elem? (system_in bytes).rules k ≡ some (rule_in bytes k)
  rule_elem k l = elem_some (system_in bytes).rules k (rule_of []) (omega (arith, rules_count bytes t h))

  -- a rule of the system by its number
  pub rule_number : (k : ℕ) (r : Rule) → get_elem? (system_in bytes).rules k ≡ some r → (k < t.rules) × (rule_in bytes k ≡ r)
  rule_number k r e = let p = elem_place (system_in bytes).rules k (rule_of []) r e in (omega (arith, p.0, rules_count bytes t h), p.1)

  rule_fits : (k : ℕ) → k < t.rules → (P : Rule → Type 0) → ((body : List ℕ) → RuleFits (bodies 1 (items_in bytes)) (bodies 2 (items_in bytes)) body → P (rule_of body)) → P (rule_in bytes k)
  unfolding system_in system_of
  rule_fits k l P f =
      let e : rule_in bytes k ≡ rule_of (get_or (bodies 3 (items_in bytes)) k []) = get_or-map rule_of (bodies 3 (items_in bytes)) k [] in
      subst P (sym e) (f (get_or (bodies 3 (items_in bytes)) k [])
      (each_place (RuleFits (bodies 1 (items_in bytes)) (bodies 2 (items_in bytes))) (bodies 3 (items_in bytes)) [] k (rules_fit complete.checked) (omega (arith, count_in bytes t h 3 (omega arith)))))

  over_letter : (bound : Process → ℕ) (x : Transition) → ((i : Process) → has ((system_in bytes).loc x.letter) i ≡ true → bound i ≤ 8) → Fitting (bodies 2 (items_in bytes)) bound x
      → Over ((system_in bytes).loc x.letter) x.before × Over ((system_in bytes).loc x.letter) x.after
  unfolding system_in system_of
  over_letter bound x small f = (over_fits ((system_in bytes).loc x.letter) bound x.before small f.before, over_fits ((system_in bytes).loc x.letter) bound x.after small f.after)

  pub rule_over : (k : ℕ) → k < t.rules → Over ((system_in bytes).loc (rule_in bytes k).letter) (rule_in bytes k).before × Over ((system_in bytes).loc (rule_in bytes k).letter) (rule_in bytes k).after
  rule_over k l = rule_fits k l (λ (r : Rule). r.letter < t.letters → Over ((system_in bytes).loc r.letter) r.before × Over ((system_in bytes).loc r.letter) r.after)
      (λ body f m. over_letter (controls_of (bodies 1 (items_in bytes))) (transition_of body) (λ i n. (letter_bound (transition_of body).letter m i n).0) f.fits) (rule_letter_in bytes t h k l)

  pub rule_before_lem : (k : ℕ) → k < t.rules → restrict ((system_in bytes).loc (rule_in bytes k).letter) (rule_in bytes k).before ≡ (rule_in bytes k).before
  rule_before_lem k l = over_restrict ((system_in bytes).loc (rule_in bytes k).letter) (rule_in bytes k).before (rule_over k l).0

  -- written letters are letters of the table, and their processes are the rule's
  pub rule_written : (k : ℕ) → k < t.rules
      → Each (λ (a : ℕ). (a < t.letters) × Within ((system_in bytes).loc a) ((system_in bytes).loc (rule_in bytes k).letter)) (rule_in bytes k).written
  unfolding system_in
  rule_written k l = each_both (λ (a : ℕ). a < t.letters) (λ (a : ℕ). Within ((system_in bytes).loc a) ((system_in bytes).loc (rule_in bytes k).letter))
      (λ (a : ℕ). (a < t.letters) × Within ((system_in bytes).loc a) ((system_in bytes).loc (rule_in bytes k).letter)) (λ a p q. (p, q)) (rule_in bytes k).written
      (each_by_place (λ (a : ℕ). a < t.letters) (rule_in bytes k).written (λ j m. written_letter_in bytes t h k j l m))
      ((accepted_cooperating (items_in bytes) complete).cooperates k (rule_in bytes k) (rule_elem k l))

  -- ---- the transitions of the automaton that is saturated
  pub saturated_over : (x : Transition) → InAutomaton (saturated_in bytes) x → (x.letter < t.letters) × Over ((system_in bytes).loc x.letter) x.before × Over ((system_in bytes).loc x.letter) x.after
  unfolding system_in system_of
  saturated_over x m =
      let f = (saturated_copyable (items_in bytes) complete).automaton x m in
      let eight : ((i : Process) → has ((system_in bytes).loc x.letter) i ≡ true → (saturated_in bytes).states i ≤ 8) = λ i y. saturated_eight (items_in bytes) complete i (f.letter i y) in (
        omega (arith, saturated_letter (items_in bytes) complete x m, count_in bytes t h 2 (omega arith)),
        record { inside = λ i y. omega (arith, f.before i y, eight i y); outside = f.before_outside },
        record { inside = λ i y. omega (arith, f.after i y, eight i y); outside = f.after_outside },
      )

  transitions_distinct : Distinct (system_in bytes).transitions
  unfolding system_in system_of
  transitions_distinct = distinct_transitions (bodies 4 (items_in bytes))
      (each_by_elem (λ (body : List ℕ). length body ≡ 9) (bodies 4 (items_in bytes)) (λ k body e.
      let p = elem_place (bodies 4 (items_in bytes)) k [] body e in
      let l : k < t.transitions = omega (arith, p.0, count_in bytes t h 4 (omega arith)) in
      subst (λ (b : List ℕ). length b ≡ 9) (sym (body_in bytes t h 4 k [] (omega arith) l) ∙ p.1) (body_size bytes t h 4 k (omega arith) l)))
      (bodies_distinct complete.checked)

  pub saturated_distinct : Distinct (saturated_in bytes).transitions
  unfolding system_in
  saturated_distinct = with_copy_distinct (system_in bytes) (accepted_copyable (items_in bytes) complete) transitions_distinct
