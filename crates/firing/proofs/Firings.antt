-- What firing a rule comes to, by the place of its letter and the number of the letters that it writes.
use mathlib.Core.Path.{◌≡◌, refl, ap, ap₂, sym, ◌∙◌}
use mathlib.Core.Bool.{true, false}
use mathlib.Core.Option.{Option, none, some}
use mathlib.Core.List.{List, ◌++◌}
use Prim.Native.Nat.{ℕ, ◌+◌, ◌-◌, ◌<◌, ◌≤◌}
use native.Mathlib.Omega.{arith}
use lib.Dec.{ltb}
use lib.ListN.{length, take, drop, length-append, length-take, length-drop}
use lib.Seq.{drop_at, length-take-le}
use borrow.Author.Tests.{lt-ltb, le-ltb, ltb-true, ltb-false}
use Rattle.model.specs.declared.Group.{Group}
use Rattle.model.specs.Groups.{Processes, merge, process_bits, processes_of, restrict, same_group}
use Rattle.model.specs.Systems.{Rule, Configuration, fire, fired}
use Rattle.model.proofs.Words.{Located}
use Rattle.model.proofs.Groups.{bits_same}
use Rattle.model.proofs.Tests.{by_test}
use Rattle.model.specs.declared.Placed.{Placed}
use Rattle.firing.specs.declared.Fired.{Fired}
use Rattle.std.specs.Prelude as Prelude
use Rattle.std.specs.Prelude.{Result, Ok, Err}
use Rattle.firing.specs.declared.Stuck.{Stuck}
use Rattle.firing.specs.declared.Stuck.TheVariants.{Idle, Full}
use Rattle.firing.specs.Piles.{configuration, firing, fired_pile, Fires}
use Rattle.firing.specs.Places.{PlaceFound, place, firing_place, rewritten}
use Rattle.firing.proofs.Scans.{place_enabled, place_rest}

-- ---- the place, by the tests of the code
pub place_found : (loc : ℕ → Processes) (r : Rule) (pile : List ℕ) (c : Placed) (n : ℕ) (found : Prelude.Option ℕ) → same_group (restrict (loc r.letter) c.states) r.before ≡ true
    → PlaceFound n (c.top + place loc r.letter (drop c.top pile)) found → PlaceFound n (firing_place loc r pile c) found
unfolding firing_place
place_found loc r pile c n found e f = rw e f

pub place_none : (loc : ℕ → Processes) (r : Rule) (pile : List ℕ) (c : Placed) → same_group (restrict (loc r.letter) c.states) r.before ≡ false → length pile ≡ firing_place loc r pile c
unfolding firing_place
place_none loc r pile c e = rw e refl

-- ---- what firing comes to
-- the word after the step is longer than the buffer, or not
pub record Overfull (pile : List ℕ) (d : Configuration) : Type 0 where
  pub answer : (L : Processes) → firing (length pile) L (some d) ≡ Err Full
  pub leaves : fired_pile pile (some d) ≡ pile

pub overfull : (pile : List ℕ) (d : Configuration) → length pile < length d.word → Overfull pile d
unfolding firing fired_pile
overfull pile d h = let e : ltb (length pile) (length d.word) ≡ true = lt-ltb (length pile) (length d.word) h in record { answer = λ L. rw e refl; leaves = rw e refl }

pub record Fitted (pile : List ℕ) (d : Configuration) : Type 0 where
  pub answer : (L : Processes) → firing (length pile) L (some d) ≡ Ok (record { placed = record { states = d.states; top = length pile - length d.word }; processes = process_bits L })
  pub leaves : fired_pile pile (some d) ≡ take (length pile - length d.word) pile ++ d.word

pub fitted : (pile : List ℕ) (d : Configuration) → length d.word ≤ length pile → Fitted pile d
unfolding firing fired_pile
fitted pile d h = let e : ltb (length pile) (length d.word) ≡ false = le-ltb (length pile) (length d.word) h in record { answer = λ L. rw e refl; leaves = rw e refl }

module _ (loc : ℕ → Processes) (ne : Located loc) (r : Rule) (pile : List ℕ) (c : Placed) (inside : c.top ≤ length pile) where
  pub fires_idle : length pile ≤ firing_place loc r pile c → Fires (loc r.letter) (fire loc r (configuration pile c)) pile pile (Err Idle)
  unfolding fire firing fired_pile
  fires_idle h = rw (place_enabled loc ne r pile c inside, le-ltb (firing_place loc r pile c) (length pile) h) (record { answer = refl; leaves = refl })

  module _ (h : firing_place loc r pile c < length pile) where
    abbrev p : ℕ
    p = firing_place loc r pile c

    fires : fire loc r (configuration pile c) ≡ some (fired loc r (configuration pile c))
    unfolding fire
    fires = rw (place_enabled loc ne r pile c inside, lt-ltb p (length pile) h) refl

    -- the word after the step
    word_is : (fired loc r (configuration pile c)).word ≡ r.written ++ (take (p - c.top) (drop c.top pile) ++ drop (p + 1) pile)
    word_is = ap (λ (w : List ℕ). r.written ++ w) (place_rest loc ne r pile c inside h).1

    word_length : length (fired loc r (configuration pile c)).word + c.top + 1 ≡ length r.written + length pile
    word_length =
        let low : c.top ≤ p = (place_rest loc ne r pile c inside h).0 in
        let e : length (fired loc r (configuration pile c)).word ≡ length r.written + (length (take (p - c.top) (drop c.top pile)) + length (drop (p + 1) pile)) =
        ap length word_is ∙ simp length-append refl in
        omega (arith, length-take (p - c.top) (drop c.top pile), length-drop c.top pile, length-drop (p + 1) pile)

    pub fires_full : c.top + 1 < length r.written → Fires (loc r.letter) (fire loc r (configuration pile c)) pile pile (Err Full)
    fires_full l =
        let o = overfull pile (fired loc r (configuration pile c)) (omega (arith, word_length)) in
        record { answer = sym (ap (firing (length pile) (loc r.letter)) fires ∙ o.answer (loc r.letter)); leaves = sym (ap (fired_pile pile) fires ∙ o.leaves) }

    pub fires_done : (states : Group) (n bits : ℕ) (pile' : List ℕ) → length r.written ≤ c.top + 1 → processes_of bits ≡ loc r.letter → bits ≤ 15
        → states ≡ merge (processes_of bits) r.after c.states → n ≡ c.top + 1 - length r.written → pile' ≡ rewritten pile c.top p r.written
        → Fires (loc r.letter) (fire loc r (configuration pile c)) pile pile' (Ok (record { placed = record { states = states; top = n }; processes = bits }))
    unfolding rewritten
    fires_done states n bits pile' l b small s q e =
        let d = fired loc r (configuration pile c) in
        let o = fitted pile d (omega (arith, word_length)) in
        let k : c.top + 1 - length r.written ≡ length pile - length (fired loc r (configuration pile c)).word = omega (arith, word_length) in
        record {
          answer = ap₂ (λ (g : Group) (m : ℕ). Ok (record { placed = record { states = g; top = m }; processes = bits })) (s ∙ ap (λ (L : Processes). merge L r.after c.states) b) (q ∙ k)
              ∙ ap (λ (m : ℕ). Ok (record { placed = record { states = d.states; top = length pile - length d.word }; processes = m })) (sym (bits_same bits small) ∙ ap process_bits b)
              ∙ sym (ap (firing (length pile) (loc r.letter)) fires ∙ o.answer (loc r.letter));
          leaves = e ∙ ap₂ (λ (m : ℕ) (w : List ℕ). take m pile ++ w) k (sym word_is) ∙ sym (ap (fired_pile pile) fires ∙ o.leaves);
        }

-- ---- what the answer shows
module _ (n : ℕ) (L : Processes) where
  -- a rule that fired leads to d
  abbrev done_to : Configuration → Fired
  done_to d = record { placed = record { states = d.states; top = n - length d.word }; processes = process_bits L }

  pub idle_of : (o : Option Configuration) → Err Idle ≡ firing n L o → o ≡ none
  unfolding firing
  idle_of none e = refl
  idle_of (some d) e = by_test (ltb n (length d.word))
      (λ y. let f : ◌≡◌ {A = Result Fired Stuck} (Err Idle) (Err Full) = rw y at e in cc)
      (λ y. let f : Err Idle ≡ Ok (done_to d) = rw y at e in cc)

  pub full_of : (o : Option Configuration) → Err Full ≡ firing n L o → (d : Configuration) × (o ≡ some d) × (n < length d.word)
  unfolding firing
  full_of none e = cc
  full_of (some d) e = by_test (ltb n (length d.word))
      (λ y. (d, refl, ltb-true n (length d.word) y))
      (λ y. let f : Err Full ≡ Ok (done_to d) = rw y at e in cc)

  pub done_of : (x : Fired) (o : Option Configuration) → Ok x ≡ firing n L o → (d : Configuration) × (o ≡ some d) × (length d.word ≤ n) × (x ≡ done_to d)
  unfolding firing
  done_of x none e = cc
  done_of x (some d) e = by_test (ltb n (length d.word))
      (λ y. let f : Ok x ≡ Err Full = rw y at e in cc)
      (λ y. (d, refl, ltb-false n (length d.word) y, let f : ◌≡◌ {A = Result Fired Stuck} (Ok x) (Ok (done_to d)) = rw y at e in cc))

-- a rule that fired: the new configuration stands in the buffer, and the processes of the letter are told
pub record Fits (L : Processes) (o : Option Configuration) (pile pile' : List ℕ) (x : Fired) : Type 0 where
  pub gives : o ≡ some (configuration pile' x.placed)
  pub inside : x.placed.top ≤ length pile'
  pub size : length pile' ≡ length pile
  pub fits : length (configuration pile' x.placed).word ≤ length pile
  pub tells : x.processes ≡ process_bits L

pub fires_fit : (L : Processes) (o : Option Configuration) (pile pile' : List ℕ) (x : Fired) → Fires L o pile pile' (Ok x) → Fits L o pile pile' x
fires_fit L o pile pile' x f = go (done_of (length pile) L x o f.answer)
  where
    go : ((d : Configuration) × (o ≡ some d) × (length d.word ≤ length pile) × (x ≡ done_to (length pile) L d)) → Fits L o pile pile' x
    go (d, e, l, q) =
        let n : length (take (length pile - length d.word) pile) ≡ length pile - length d.word = length-take-le (length pile - length d.word) pile (omega arith) in
        let is : pile' ≡ take (length pile - length d.word) pile ++ d.word = f.leaves ∙ ap (fired_pile pile) e ∙ (fitted pile d l).leaves in
        let top : x.placed.top ≡ length pile - length d.word = ap (λ (y : Fired). y.placed.top) q in
        let word : drop x.placed.top pile' ≡ d.word = ap₂ (λ (m : ℕ) (y : List ℕ). drop m y) top is ∙ drop_at (take (length pile - length d.word) pile) d.word (length pile - length d.word) n in
        let size : length pile' ≡ length pile = ap length is ∙ length-append (take (length pile - length d.word) pile) d.word ∙ omega arith in
        record {
          gives = e ∙ ap (λ (c : Configuration). some c) (ap₂ (λ (g : Group) (w : List ℕ). record { states = g; word = w }) (sym (ap (λ (y : Fired). y.placed.states) q)) (sym word));
          inside = omega arith;
          size = size;
          fits = omega (arith, ap length word);
          tells = ap (λ (y : Fired). y.processes) q;
        }
