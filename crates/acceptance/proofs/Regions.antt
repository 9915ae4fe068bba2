-- The two sets in the scratch: a part that is lent and comes back changes itself alone.
use mathlib.Core.Path.{◌≡◌, ap, ap₂, sym, ◌∙◌}
use mathlib.Core.Bool.{Bool, ◌||◌}
use mathlib.Core.List.{List, [], ◌∷◌, ◌++◌}
use Prim.Native.Nat.{ℕ, ◌+◌, ◌<◌, ◌≤◌}
use native.Mathlib.Numerals.{add-one}
use native.Mathlib.Omega.{arith}
use lib.ListN.{length, get_or, take, drop, drop_of_length-le, length-append, length-take, length-drop, length-replicate}
use lib.Seq.{take_at, drop_at, drop-cons, length-take-le}
use Rattle.model.specs.Calls.{zeros}
use Rattle.model.specs.Groups.{Processes}
use Rattle.model.specs.Systems.{System}
use Rattle.model.specs.declared.Group.{Group}
use Rattle.states.specs.StateNumbers.{state_number, Over}
use Rattle.states.specs.StateSets.{set_length, inserted}
use Rattle.states.proofs.StateSets.{length_inserted}
use Rattle.buffers.specs.Buffers.{fronted}
use Rattle.acceptance.specs.Sets.{accepts_from, some_accepts, Extends, here, there}
use Rattle.acceptance.proofs.Sets.{zeros_accept, start_accepts}

-- the scratch with ys in the place of its second set
abbrev pub with_there : List ℕ → List ℕ → List ℕ
with_there s ys = take set_length s ++ (ys ++ drop set_length (drop set_length s))

pub there_here : (s ys : List ℕ) → set_length ≤ length s → here (with_there s ys) ≡ here s
there_here s ys h = take_at (take set_length s) (ys ++ drop set_length (drop set_length s)) set_length (length-take-le set_length s h)

pub there_there : (s ys : List ℕ) → set_length ≤ length s → length ys ≡ set_length → there (with_there s ys) ≡ ys
there_there s ys h e =
    ap (take set_length) (drop_at (take set_length s) (ys ++ drop set_length (drop set_length s)) set_length (length-take-le set_length s h)) ∙ take_at ys (drop set_length (drop set_length s)) set_length e

pub length_there : (s : List ℕ) → 1024 ≤ length s → length (there s) ≡ set_length
length_there s h = simp (length-take, length-drop) (omega arith)

-- the second set is copied over the first
pub front_here : (s : List ℕ) → 1024 ≤ length s → here (fronted s set_length set_length) ≡ there s
unfolding fronted
front_here s h = take_at (there s) (drop set_length s) set_length (length_there s h)

there_length : (s ys : List ℕ) → 1024 ≤ length s → length ys ≡ set_length → length (with_there s ys) ≡ length s
there_length s ys h e = simp (length-append, length-take, length-drop) (omega arith)

-- the scratch with ys in the place of its first set
pub here_length : (s ys : List ℕ) → set_length ≤ length s → length ys ≡ length (here s) → length (ys ++ drop set_length s) ≡ length s
here_length s ys h e = simp (length-append, length-drop) (omega (arith, length-take-le set_length s h))

module _ (sys : System) (L : Processes) where
  -- one letter: the second set is cleared, the states after the letter are put in, and it is copied over the first
  pub letter_read : (a : ℕ) (s z s₂ s₃ : List ℕ) → 1024 ≤ length s → z ≡ zeros (there s) → length s₂ ≡ length (with_there s z)
      → Extends sys L (there (with_there s z)) (there s₂) (λ (w : List ℕ). some_accepts sys L (here (with_there s z)) (a ∷ w)) → s₃ ≡ fronted s₂ set_length set_length
      → (w : List ℕ) → some_accepts sys L (here s₃) w ≡ some_accepts sys L (here s) (a ∷ w)
  letter_read a s z s₂ s₃ h e size x f w =
      let n : length z ≡ set_length = ap length e ∙ length-replicate (length (there s)) 0 ∙ length_there s h in
      let none : some_accepts sys L (there (with_there s z)) w ≡ some_accepts sys L (zeros (there s)) w = ap (λ (l : List ℕ). some_accepts sys L l w) (there_there s z (omega arith) n ∙ e) in
      ap (λ (l : List ℕ). some_accepts sys L l w) (ap here f ∙ front_here s₂ (omega (arith, there_length s z h n)))
      ∙ x.words w
      ∙ ap₂ (λ (b : Bool) (l : List ℕ). b || some_accepts sys L l (a ∷ w)) (none ∙ zeros_accept sys L (length (there s)) w) (there_here s z (omega arith))

  -- the first i letters of the word were read
  pub record Ahead (word s s' : List ℕ) (i : ℕ) : Type 0 where
    pub size : length s' ≡ length s
    pub same : some_accepts sys L (here s') (drop i word) ≡ some_accepts sys L (here s) word

  pub ahead_turn : (word s s' s'' : List ℕ) (i : ℕ) → i < length word → length s'' ≡ length s' → Ahead word s s' i
      → ((w : List ℕ) → some_accepts sys L (here s'') w ≡ some_accepts sys L (here s') (get_or word i 0 ∷ w)) → Ahead word s s'' (i + 1)
  ahead_turn word s s' s'' i h size f x = record {
    size = size ∙ f.size;
    same = x (drop (i + 1) word) ∙ ap (λ (k : ℕ). some_accepts sys L (here s') (get_or word i 0 ∷ drop k word)) (add-one i)
        ∙ ap (some_accepts sys L (here s')) (sym (drop-cons word i 0 h)) ∙ f.same;
  }

  pub ahead_end : (word s s' : List ℕ) (i : ℕ) → length word ≤ i → Ahead word s s' i → some_accepts sys L (here s') [] ≡ some_accepts sys L (here s) word
  ahead_end word s s' i h f = ap (some_accepts sys L (here s')) (sym (drop_of_length-le word {i = i} h)) ∙ f.same

  -- the whole word, from the set that has g alone
  pub word_read : (word s ys s₂ : List ℕ) (g : Group) (r : Bool) → 1024 ≤ length s → Over L g → ys ≡ inserted (zeros (here s)) (state_number g)
      → some_accepts sys L (here s₂) [] ≡ some_accepts sys L (here (ys ++ drop set_length s)) word → r ≡ some_accepts sys L (here s₂) [] → r ≡ accepts_from sys word g
  word_read word s ys s₂ g r h o e f q =
      let n : length (here s) ≡ set_length = length-take-le set_length s (omega arith) in
      let size : length ys ≡ set_length = ap length e ∙ length_inserted (zeros (here s)) (state_number g) ∙ length-replicate (length (here s)) 0 ∙ n in
      q ∙ f ∙ ap (λ (l : List ℕ). some_accepts sys L l word) (take_at ys (drop set_length s) set_length size ∙ e) ∙ start_accepts sys L (length (here s)) word g n o
