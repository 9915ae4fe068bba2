-- What check 5 shows of the items of each kind: their letters and groups fit the processes and letters of the table.
use mathlib.Core.Path.{◌∙◌, ◌≡◌, refl, sym}
use mathlib.Core.Bool.{Bool, ◌&&◌, cond, false, not, true}
use mathlib.Core.Logic.{◌≢◌}
use mathlib.Core.List.{List, [], ◌∷◌}
use Prim.Native.Nat.{◌%◌, ◌/◌, ◌<◌, ◌^◌, ◌≤◌, suc, zero, ℕ}
use native.Mathlib.Omega.{arith}
use lib.Dec.{eqb, leb, ltb}
use lib.ListN.{drop, length}
use borrow.Author.Tests.{eq-eqb, eqb-false, eqb-true, leb-true, ltb-true, not-false}
use Rattle.model.specs.declared.Group.{Group}
use Rattle.model.specs.Automata.{Transition}
use Rattle.model.specs.Copies.{leaves_control}
use Rattle.model.specs.Groups.{Process, Processes, at, has, p0, p1, p2, p3, processes_of}
use Rattle.model.specs.Lists.{Each}
use Rattle.model.specs.Tables.{Item, bodies, byte_of, controls_of, cooperates, group_fits, group_of, is_narrow, is_reentry, loc_of, present, rule_of, states_of, transition_fits, transition_of, value_fits, written_fit}
use Rattle.model.proofs.Words.{Located}
use Rattle.model.proofs.Limit.{ByteGroup}
use Rattle.model.proofs.Tests.{and_left, and_right, by_test, every_at}
use Rattle.model.proofs.CheckedItems.{Checked, Passes, bodies_later, each_of_kind, shown_of_kind}

pub letter_fits : {items : List Item} → Checked items → Each (λ (body : List ℕ). 1 ≤ byte_of body 0 × byte_of body 0 < 2 ^ length (bodies 1 items)) (bodies 2 items)
unfolding value_fits
letter_fits c = each_of_kind 2 (λ items body. 1 ≤ byte_of body 0 × byte_of body 0 < 2 ^ length (bodies 1 items))
    (λ items x body l q. rw (bodies_later 1 items x (omega arith)) q) bound c
  where
    bound : (items : List Item) (body : List ℕ) → Passes items 2 body → 1 ≤ byte_of body 0 × byte_of body 0 < 2 ^ length (bodies 1 items)
    bound items body p = (
      leb-true 1 (byte_of body 0) (and_left (leb 1 (byte_of body 0)) (ltb (byte_of body 0) (2 ^ length (bodies 1 items))) p.fits),
      ltb-true (byte_of body 0) (2 ^ length (bodies 1 items)) (and_right (leb 1 (byte_of body 0)) (ltb (byte_of body 0) (2 ^ length (bodies 1 items))) p.fits),
    )

-- a group that fits: a state below the bound at each process of the set, 255 elsewhere
pub fits_at : (L : Processes) (bound : Process → ℕ) (g : Group) → group_fits L bound g ≡ true → (i : Process) → has L i ≡ true → at g i < bound i
unfolding group_fits
fits_at L bound g e i m = ltb-true (at g i) (bound i) (rw m at (every_at (λ j. cond (has L j) (ltb (at g j) (bound j)) (eqb (at g j) 255)) e i))

pub fits_outside : (L : Processes) (bound : Process → ℕ) (g : Group) → group_fits L bound g ≡ true → (i : Process) → has L i ≡ false → at g i ≡ 255
unfolding group_fits
fits_outside L bound g e i m = eqb-true (at g i) 255 (rw m at (every_at (λ j. cond (has L j) (ltb (at g j) (bound j)) (eqb (at g j) 255)) e i))

pub fits_byte : (L : Processes) (bound : Process → ℕ) (g : Group) → ((i : Process) → bound i ≤ 256) → group_fits L bound g ≡ true → ByteGroup g
fits_byte L bound g small e i = by_test (has L i)
    (λ m. let low : at g i < bound i = fits_at L bound g e i m in let top : bound i ≤ 256 = small i in omega arith)
    (λ n. let is : at g i ≡ 255 = fits_outside L bound g e i n in omega arith)

-- what check 5 shows of the letter and the groups of a rule or transition
pub record Fitting (ls : List (List ℕ)) (bound : Process → ℕ) (t : Transition) : Type 0 where
  pub letter : t.letter < length ls
  pub before : group_fits (loc_of ls t.letter) bound t.before ≡ true
  pub after : group_fits (loc_of ls t.letter) bound t.after ≡ true

fitting : (ls : List (List ℕ)) (bound : Process → ℕ) (t : Transition) → transition_fits ls bound t ≡ true → Fitting ls bound t
unfolding transition_fits
fitting ls bound t e =
    let front = and_left (ltb t.letter (length ls) && group_fits (loc_of ls t.letter) bound t.before) (group_fits (loc_of ls t.letter) bound t.after) e in
    record {
      letter = ltb-true t.letter (length ls) (and_left (ltb t.letter (length ls)) (group_fits (loc_of ls t.letter) bound t.before) front);
      before = and_right (ltb t.letter (length ls)) (group_fits (loc_of ls t.letter) bound t.before) front;
      after = and_right (ltb t.letter (length ls) && group_fits (loc_of ls t.letter) bound t.before) (group_fits (loc_of ls t.letter) bound t.after) e;
    }

-- ---- the table as a whole
-- a number below 16 other than 0 has a bit
some_process : (bits : ℕ) → 1 ≤ bits → bits < 16 → (i : Process) × (has (processes_of bits) i ≡ true)
some_process bits low high =
    by_test (eqb (bits / 8 % 2) 1) (λ y. (p3, y)) (λ n3. let below8 : bits < 8 = let z : bits / 8 ≡ 0 = even (bits / 8) (eqb-false (bits / 8 % 2) 1 n3) (omega arith) in omega arith in
    by_test (eqb (bits / 4 % 2) 1) (λ y. (p2, y)) (λ n2. let below4 : bits < 4 = let z : bits / 4 ≡ 0 = even (bits / 4) (eqb-false (bits / 4 % 2) 1 n2) (omega arith) in omega arith in
    by_test (eqb (bits / 2 % 2) 1) (λ y. (p1, y)) (λ n1. let below2 : bits < 2 = let z : bits / 2 ≡ 0 = even (bits / 2) (eqb-false (bits / 2 % 2) 1 n1) (omega arith) in omega arith in
    (p0, eq-eqb (bits % 2) 1 (omega arith)))))
  where
    even : (n : ℕ) → n % 2 ≢ 1 → n < 2 → n ≡ 0
    even n h l = omega arith

pub power_small : (n : ℕ) → n ≤ 4 → 2 ^ n ≤ 16
power_small zero h = omega arith
power_small (suc zero) h = omega arith
power_small (suc (suc zero)) h = omega arith
power_small (suc (suc (suc zero))) h = omega arith
power_small (suc (suc (suc (suc zero)))) h = omega arith
power_small (suc (suc (suc (suc (suc n))))) h = absurd (omega arith)

pub located_by : (ls : List (List ℕ)) → Each (λ (body : List ℕ). 1 ≤ byte_of body 0 × byte_of body 0 < 16) ls → Located (loc_of ls)
located_by [] e a = some_process 15 (omega arith) (omega arith)
located_by (body ∷ ls) e zero = some_process (byte_of body 0) e.0.0 e.0.1
located_by (body ∷ ls) e (suc a) = located_by ls e.1 a

-- rules: letters, groups, written letters, cooperation
pub record RuleFits (ps ls : List (List ℕ)) (body : List ℕ) : Type 0 where
  pub fits : Fitting ls (controls_of ps) (transition_of body)
  pub written : written_fit ls (byte_of body 9) (drop 10 body) ≡ true
  pub cooperative : cooperates (loc_of ls) (rule_of body) ≡ true

pub rules_fit : {items : List Item} → Checked items → Each (RuleFits (bodies 1 items) (bodies 2 items)) (bodies 3 items)
unfolding value_fits
rules_fit c = shown_of_kind 3 (omega arith) RuleFits (λ items body p. record {
  fits = fitting (bodies 2 items) (controls_of (bodies 1 items)) (transition_of body) (and_left (transition_fits (bodies 2 items) (controls_of (bodies 1 items)) (transition_of body)) (written_fit (bodies 2 items) (byte_of body 9) (drop 10 body)) p.fits);
  written = and_right (transition_fits (bodies 2 items) (controls_of (bodies 1 items)) (transition_of body)) (written_fit (bodies 2 items) (byte_of body 9) (drop 10 body)) p.fits;
  cooperative = not-false (cooperates (loc_of (bodies 2 items)) (rule_of body)) p.cooperative;
}) c

-- transitions: letters, groups, no control state entered where a process has more than 4 states
pub record TransitionFits (ps ls : List (List ℕ)) (body : List ℕ) : Type 0 where
  pub fits : Fitting ls (states_of ps) (transition_of body)
  pub leaving : is_narrow ps ≡ false → leaves_control (loc_of ls) (controls_of ps) (transition_of body) ≡ true

pub transitions_fit : {items : List Item} → Checked items → Each (TransitionFits (bodies 1 items) (bodies 2 items)) (bodies 4 items)
unfolding value_fits is_reentry
transitions_fit c = shown_of_kind 4 (omega arith) TransitionFits (λ items body p. record {
  fits = fitting (bodies 2 items) (states_of (bodies 1 items)) (transition_of body) p.fits;
  leaving = λ wide. not-false (leaves_control (loc_of (bodies 2 items)) (controls_of (bodies 1 items)) (transition_of body)) (or_narrow (not (leaves_control (loc_of (bodies 2 items)) (controls_of (bodies 1 items)) (transition_of body))) (is_narrow (bodies 1 items)) p.leaving wide);
}) c
  where
    or_narrow : (a b : Bool) → (a && not b) ≡ false → b ≡ false → a ≡ false
    or_narrow true b e w = sym (rw w) ∙ e
    or_narrow false b e w = refl

pub accepting_fit : {items : List Item} → Checked items → Each (λ (body : List ℕ). group_fits (present (bodies 1 items)) (states_of (bodies 1 items)) (group_of body 0) ≡ true) (bodies 5 items)
unfolding value_fits
accepting_fit c = shown_of_kind 5 (omega arith) (λ ps ls body. group_fits (present ps) (states_of ps) (group_of body 0) ≡ true) (λ items body p. p.fits) c

pub start_fits : {items : List Item} → Checked items → Each (λ (body : List ℕ). group_fits (present (bodies 1 items)) (controls_of (bodies 1 items)) (group_of body 0) ≡ true) (bodies 6 items)
unfolding value_fits
start_fits c = shown_of_kind 6 (omega arith) (λ ps ls body. group_fits (present ps) (controls_of ps) (group_of body 0) ≡ true) (λ items body p. p.fits) c

pub pile_fits : {items : List Item} → Checked items → Each (λ (body : List ℕ). byte_of body 0 < length (bodies 2 items)) (bodies 7 items)
unfolding value_fits
pile_fits c = shown_of_kind 7 (omega arith) (λ ps ls body. byte_of body 0 < length ls) (λ items body p. ltb-true (byte_of body 0) (length (bodies 2 items)) p.fits) c
