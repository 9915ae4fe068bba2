-- Laws of an accepted table, for those who read it: where its parts stand and what holds of them.
use mathlib.Core.Bool.{true, ◌&&◌}
use mathlib.Core.List.{List, [], ◌∷◌}
use mathlib.Core.Logic.{⊎_elim}
use mathlib.Core.Path.{◌≡◌, refl, sym, ap, ◌∙◌, subst}
use Prim.Native.Nat.{ℕ, zero, suc, ◌+◌, ◌*◌, ◌^◌, ◌<◌, ◌≤◌}
use native.Mathlib.Nat.{not-suc-le-zero, le_of_suc-le-suc, eq-or-lt_of_le, mul-le-mul_right, suc-mul}
use native.Mathlib.Omega.{arith}
use lib.Dec.{ltb, leb}
use lib.ListN.{length, get_or, take, drop, length-map, length-take, length-drop, get_or-map}
use borrow.Author.Tests.{ltb-true, leb-true}
use Rattle.model.proofs.Lists.{elem_some}
use Rattle.model.proofs.Tests.{and_left, and_right}
use Rattle.model.specs.Automata.{Transition}
use Rattle.model.specs.Groups.{processes_of, number_of}
use Rattle.model.specs.Lists.{value_or}
use Rattle.model.specs.Participation.{rule_processes}
use Rattle.model.specs.Systems.{Rule}
use Rattle.model.specs.Tables.{loc_of, controls_of, states_of, written_places, body_length, bodies, byte_of, group_of, absent, rule_of, transition_of, value_fits, system_of, longest}
use Rattle.table.specs.Places.{bound_in, body_at, bodies_at, offset, place_of, body_of, counts, processes_in, letters_in, Modest, Heads}
use Rattle.table.specs.Reading.{Holds, items_in, system_in, rule_in, transition_in, accepting_in, pile_in, process_at}
use Rattle.table.specs.declared.Table.{Table}
use Rattle.table.proofs.Accepting.{Fit, layout}
use Rattle.table.proofs.Bodies.{body_length_lem, bodies_length, bodies_at_lem}
use Rattle.table.proofs.Places.{bodies_below, first_item, second_item}
use Rattle.table.proofs.Scans.{all_at}
use Rattle.table.proofs.Values.{up_to_4, power_bound, fit_rule, transition_letter_lem}

-- ---- places
-- the items of kind k end before those of a later kind
offset_below : (n : ℕ → ℕ) (k m : ℕ) → k < m → offset n k + n k * (1 + body_length k) ≤ offset n m
unfolding offset
offset_below n k zero h = absurd (not-suc-le-zero h)
offset_below n k (suc m) h = ⊎_elim
    (λ e. subst (λ (i : ℕ). offset n k + n k * (1 + body_length k) ≤ offset n i + n i * (1 + body_length i)) e (omega arith))
    (λ l. let b : offset n k + n k * (1 + body_length k) ≤ offset n m = offset_below n k m l in omega arith)
    (eq-or-lt_of_le (le_of_suc-le-suc h))

-- item j ends with those of its kind
item_ends : (n : ℕ → ℕ) (k j : ℕ) → j < n k → place_of n k j + 1 + body_length k ≤ offset n k + n k * (1 + body_length k)
item_ends n k j h =
    let e : j * (1 + body_length k) + (1 + body_length k) ≤ n k * (1 + body_length k) = subst (λ (x : ℕ). x ≤ n k * (1 + body_length k)) (suc-mul j (1 + body_length k)) (mul-le-mul_right {m = suc j} {n = n k} (1 + body_length k) h) in
    omega arith

-- the first rule, transition, accepting group, the start and the pile
pub places : (t : Table) → (3 * t.processes + 2 * t.letters ≡ offset (counts t 1) 3)
    × (3 * t.processes + 2 * t.letters + (1 + body_length 3) * t.rules ≡ offset (counts t 1) 4)
    × (3 * t.processes + 2 * t.letters + (1 + body_length 3) * t.rules + 10 * t.transitions ≡ offset (counts t 1) 5)
    × (3 * t.processes + 2 * t.letters + (1 + body_length 3) * t.rules + 10 * t.transitions + 5 * t.accepting ≡ offset (counts t 1) 6)
    × (3 * t.processes + 2 * t.letters + (1 + body_length 3) * t.rules + 10 * t.transitions + 5 * t.accepting + 5 ≡ offset (counts t 1) 7)
unfolding offset
places t = omega arith

pub number_at : (i : ℕ) → i < 4 → number_of (process_at i) ≡ i
number_at i h = up_to_4 (λ n. n < 4 → number_of (process_at n) ≡ n) (λ _. refl) (λ _. refl) (λ _. refl) (λ _. refl) (λ l. absurd (omega arith)) i (omega arith) h

module _ (bytes : List ℕ) (t : Table) (h : Holds bytes t) where
  -- the counts are at most the ceilings
  pub table_modest : Modest t
  table_modest = (layout bytes t h).modest

  -- no table is longer than one with every kind at its ceiling
  pub table_length : length bytes ≤ longest
  unfolding offset
  table_length =
      let m = table_modest in
      omega (arith, (layout bytes t h).size, m.processes, m.letters, m.rules, m.transitions, m.accepting, m.pile)

  pub table_heads : Heads bytes t
  unfolding offset
  table_heads = record { processes = table_modest.processes; letters = table_modest.letters; inside = omega (arith, (layout bytes t h).size) }

  -- ---- item j of kind k
  -- it stands in the bytes
  pub body_inside : (k j : ℕ) → k < 8 → j < counts t 1 k → place_of (counts t 1) k j + 1 + body_length k ≤ length bytes
  body_inside k j m l = omega (arith, item_ends (counts t 1) k j l, offset_below (counts t 1) k 8 m, (layout bytes t h).size)

  -- it is read from where the first of its kind stands
  pub item_inside : (k j first : ℕ) → k < 8 → j < counts t 1 k → first ≡ offset (counts t 1) k → first + j * (1 + body_length k) + 1 + body_length k ≤ length bytes
  item_inside k j first m l e = rw e (body_inside k j m l)

  pub item_read : (k j first : ℕ) (body : List ℕ) → first ≡ offset (counts t 1) k → body ≡ body_at bytes (body_length k) (first + j * (1 + body_length k)) → body ≡ body_of bytes (counts t 1) k j
  item_read k j first body e f = f ∙ rw e

  -- it has its kind's length
  pub body_size : (k j : ℕ) → k < 8 → j < counts t 1 k → length (body_of bytes (counts t 1) k j) ≡ body_length k
  body_size k j m l = body_length_lem bytes (body_length k) (place_of (counts t 1) k j) (body_inside k j m l)

  -- it passed the checks 5, 6 and 7
  pub body_fits : (k j : ℕ) → k < 8 → j < counts t 1 k → Fit (processes_in bytes t) (letters_in bytes t) k (body_of bytes (counts t 1) k j)
  body_fits = (layout bytes t h).fits

  pub bodies_in : (k : ℕ) → k < 8 → bodies k (items_in bytes) ≡ bodies_at bytes (body_length k) (offset (counts t 1) k) (counts t 1 k)
  bodies_in k m = ap (bodies k) (layout bytes t h).items ∙ bodies_below bytes (counts t 1) k 8 m

  pub count_in : (k : ℕ) → k < 8 → length (bodies k (items_in bytes)) ≡ counts t 1 k
  count_in k m = ap length (bodies_in k m) ∙ bodies_length bytes (body_length k) (offset (counts t 1) k) (counts t 1 k)

  pub body_in : (k j : ℕ) (d : List ℕ) → k < 8 → j < counts t 1 k → get_or (bodies k (items_in bytes)) j d ≡ body_of bytes (counts t 1) k j
  body_in k j d m l = ap (λ (bs : List (List ℕ)). get_or bs j d) (bodies_in k m) ∙ bodies_at_lem bytes (body_length k) (offset (counts t 1) k) (counts t 1 k) j d l

  -- ---- processes and letters
  processes_are : bodies 1 (items_in bytes) ≡ processes_in bytes t
  processes_are = bodies_in 1 (omega arith) ∙ ap (λ (p : ℕ). bodies_at bytes 2 p t.processes) (first_item t 1)

  pub controls_are : (system_in bytes).controls ≡ bound_in bytes t 0
  unfolding system_in system_of
  controls_are = ap controls_of processes_are

  pub states_at : (i : ℕ) → i < 4 → (system_in bytes).states (process_at i) ≡ byte_of (get_or (processes_in bytes t) i absent) 1
  unfolding system_in system_of
  states_at i l = ap (λ (ps : List (List ℕ)). states_of ps (process_at i)) processes_are ∙ ap (λ (j : ℕ). byte_of (get_or (processes_in bytes t) j absent) 1) (number_at i l)

  pub letters_are : bodies 2 (items_in bytes) ≡ letters_in bytes t
  letters_are = bodies_in 2 (omega arith) ∙ ap (λ (p : ℕ). bodies_at bytes 1 p t.letters) (second_item t 1)

  pub loc_is : (system_in bytes).loc ≡ loc_of (letters_in bytes t)
  unfolding system_in system_of
  loc_is = ap (λ (ls : List (List ℕ)). loc_of ls) letters_are

  pub letter_body : (a : ℕ) → a < t.letters → get_or (letters_in bytes t) a (15 ∷ []) ≡ body_of bytes (counts t 1) 2 a
  letter_body a l = ap (λ (ls : List (List ℕ)). get_or ls a (15 ∷ [])) (sym letters_are) ∙ body_in 2 a (15 ∷ []) (omega arith) l

  pub letters_count : length (letters_in bytes t) ≡ t.letters
  letters_count = bodies_length bytes 1 (3 * t.processes) t.letters

  pub processes_count : length (processes_in bytes t) ≡ t.processes
  processes_count = bodies_length bytes 2 0 t.processes

  -- ---- rules
  pub rules_count : length (system_in bytes).rules ≡ t.rules
  unfolding system_in system_of
  rules_count = length-map (bodies 3 (items_in bytes)) rule_of ∙ count_in 3 (omega arith)

  pub rule_in_lem : (k : ℕ) → k < t.rules → rule_in bytes k ≡ rule_of (body_of bytes (counts t 1) 3 k)
  unfolding system_in system_of
  rule_in_lem k l = get_or-map rule_of (bodies 3 (items_in bytes)) k [] ∙ ap rule_of (body_in 3 k [] (omega arith) l)

  -- the processes of a rule's letter
  pub rule_processes_lem : (k : ℕ) → k < t.rules → rule_processes (system_in bytes) k ≡ (system_in bytes).loc (rule_in bytes k).letter
  rule_processes_lem k l =
      ap (value_or (processes_of 0) (λ (r : Rule). (system_in bytes).loc r.letter)) (elem_some (system_in bytes).rules k (rule_of []) (omega (arith, rules_count)))

  -- ---- transitions, accepting groups, start
  pub transitions_count : length (system_in bytes).transitions ≡ t.transitions
  unfolding system_in system_of
  transitions_count = length-map (bodies 4 (items_in bytes)) transition_of ∙ count_in 4 (omega arith)

  pub transition_in_lem : (k : ℕ) → k < t.transitions → transition_in bytes k ≡ transition_of (body_of bytes (counts t 1) 4 k)
  unfolding system_in system_of
  transition_in_lem k l = get_or-map transition_of (bodies 4 (items_in bytes)) k [] ∙ ap transition_of (body_in 4 k [] (omega arith) l)

  pub accepting_count : length (system_in bytes).accepting ≡ t.accepting
  unfolding system_in system_of
  accepting_count = length-map (bodies 5 (items_in bytes)) (λ body. group_of body 0) ∙ count_in 5 (omega arith)

  pub accepting_in_lem : (k : ℕ) → k < t.accepting → accepting_in bytes k ≡ group_of (body_of bytes (counts t 1) 5 k) 0
  unfolding system_in system_of
  accepting_in_lem k l = get_or-map (λ body. group_of body 0) (bodies 5 (items_in bytes)) k [] ∙ ap (λ (b : List ℕ). group_of b 0) (body_in 5 k [] (omega arith) l)

  pub start_in_lem : (system_in bytes).start.states ≡ group_of (body_of bytes (counts t 1) 6 0) 0
  unfolding system_in system_of
  start_in_lem = ap (λ (b : List ℕ). group_of b 0) (body_in 6 0 [] (omega arith) (omega arith))

  pub pile_count : length (system_in bytes).start.word ≡ t.pile
  unfolding system_in system_of
  pile_count = length-map (bodies 7 (items_in bytes)) (λ body. byte_of body 0) ∙ count_in 7 (omega arith)

  pub pile_in_lem : (k : ℕ) → k < t.pile → pile_in bytes k ≡ byte_of (body_of bytes (counts t 1) 7 k) 0
  unfolding system_in system_of
  pile_in_lem k l = get_or-map (λ body. byte_of body 0) (bodies 7 (items_in bytes)) k [] ∙ ap (λ (b : List ℕ). byte_of b 0) (body_in 7 k [] (omega arith) l)

  -- ---- letters that an accepted table names
  -- the bits of a letter name processes of the table, at least one
  pub bits_in : (a : ℕ) → a < t.letters → (1 ≤ byte_of (body_of bytes (counts t 1) 2 a) 0) × (byte_of (body_of bytes (counts t 1) 2 a) 0 < 2 ^ t.processes)
  unfolding value_fits
  bits_in a l =
      let b = byte_of (body_of bytes (counts t 1) 2 a) 0 in
      let v : (leb 1 b && ltb b (2 ^ length (processes_in bytes t))) ≡ true = (body_fits 2 a (omega arith) l).values in
      (leb-true 1 b (and_left (leb 1 b) (ltb b (2 ^ length (processes_in bytes t))) v), rw processes_count at (ltb-true b (2 ^ length (processes_in bytes t)) (and_right (leb 1 b) (ltb b (2 ^ length (processes_in bytes t))) v)))

  pub bits_small : (a : ℕ) → a < t.letters → byte_of (body_of bytes (counts t 1) 2 a) 0 ≤ 15
  bits_small a l = omega (arith, (bits_in a l).1, (power_bound t.processes table_modest.processes).1)

  pub rule_letter_in : (k : ℕ) → k < t.rules → (rule_in bytes k).letter < t.letters
  rule_letter_in k l =
      let e : (rule_in bytes k).letter ≡ byte_of (body_of bytes (counts t 1) 3 k) 0 = ap (λ (r : Rule). r.letter) (rule_in_lem k l) in
      omega (arith, (fit_rule (processes_in bytes t) (letters_in bytes t) (body_of bytes (counts t 1) 3 k) (body_fits 3 k (omega arith) l).values).letter, letters_count)

  pub transition_letter_in : (k : ℕ) → k < t.transitions → (transition_in bytes k).letter < t.letters
  transition_letter_in k l =
      let e : (transition_in bytes k).letter ≡ byte_of (body_of bytes (counts t 1) 4 k) 0 = ap (λ (r : Transition). r.letter) (transition_in_lem k l) in
      omega (arith, transition_letter_lem (processes_in bytes t) (letters_in bytes t) (body_of bytes (counts t 1) 4 k) (body_fits 4 k (omega arith) l).values, letters_count)

  pub pile_letter_in : (k : ℕ) → k < t.pile → pile_in bytes k < t.letters
  unfolding value_fits
  pile_letter_in k l = omega (arith, pile_in_lem k l, letters_count, ltb-true (byte_of (body_of bytes (counts t 1) 7 k) 0) (length (letters_in bytes t)) (body_fits 7 k (omega arith) l).values)

  -- ---- the letters that rule k writes
  pub written_most : (k : ℕ) → k < t.rules → byte_of (body_of bytes (counts t 1) 3 k) 9 ≤ written_places
  written_most k l = (fit_rule (processes_in bytes t) (letters_in bytes t) (body_of bytes (counts t 1) 3 k) (body_fits 3 k (omega arith) l).values).count

  pub written_size : (k : ℕ) → k < t.rules → length (take (byte_of (body_of bytes (counts t 1) 3 k) 9) (drop 10 (body_of bytes (counts t 1) 3 k))) ≡ byte_of (body_of bytes (counts t 1) 3 k) 9
  written_size k l = simp (length-take, length-drop) (omega (arith, written_most k l, body_inside 3 k (omega arith) l))

  -- at most 4, the number of places
  pub written_few : (k : ℕ) → k < t.rules → length (rule_in bytes k).written ≤ written_places
  written_few k l = rw (rule_in_lem k l, written_size k l) (written_most k l)

  -- letters of the table
  pub written_letter_in : (k j : ℕ) → k < t.rules → j < length (rule_in bytes k).written → get_or (rule_in bytes k).written j 0 < t.letters
  written_letter_in k j l m =
      let b = body_of bytes (counts t 1) 3 k in
      let w = take (byte_of (body_of bytes (counts t 1) 3 k) 9) (drop 10 (body_of bytes (counts t 1) 3 k)) in
      let e : (rule_in bytes k).written ≡ take (byte_of (body_of bytes (counts t 1) 3 k) 9) (drop 10 (body_of bytes (counts t 1) 3 k)) = ap (λ (r : Rule). r.written) (rule_in_lem k l) in
      let a = (fit_rule (processes_in bytes t) (letters_in bytes t) (body_of bytes (counts t 1) 3 k) (body_fits 3 k (omega arith) l).values).written in
      let x : get_or w j 0 < length (letters_in bytes t) = ltb-true (get_or w j 0) (length (letters_in bytes t)) (all_at (λ x. ltb x (length (letters_in bytes t))) w j (subst (λ (u : List ℕ). j < length u) e m) a) in
      subst (λ (u : List ℕ). get_or u j 0 < t.letters) (sym e) (omega (arith, letters_count))
