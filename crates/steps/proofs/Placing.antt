-- The start's word put at the buffer's end, and a word moved to the front.
use mathlib.Core.Path.{◌≡◌, ap, ap₂, ◌∙◌}
use mathlib.Core.List.{List, [], ◌++◌, append-nil, append_assoc}
use Prim.Native.Nat.{ℕ, ◌+◌, ◌-◌, ◌≤◌}
use native.Mathlib.Omega.{arith}
use lib.ListN.{length, take, drop, drop_of_length-le, replicate, length-append, length-take, length-drop}
use lib.Seq.{take_at, drop_at, take_all, length-take-le, paste, length-paste}
use Rattle.model.specs.declared.Group.{Group}
use Rattle.model.specs.Calls.{filled, zeros}
use Rattle.buffers.specs.Buffers.{fronted}
use Rattle.buffers.proofs.Parts.{part_rest}
use Rattle.table.specs.declared.Table.{Table}
use Rattle.table.specs.Reading.{system_in}
use Rattle.steps.specs.Stepping.{StartPlaced}

-- ---- the start
-- a word written at the end of a buffer stands there
pub placed_word : (pile w : List ℕ) (n : ℕ) → length w ≡ n → n ≤ length pile → drop (length pile - n) (paste pile (length pile - n) w n) ≡ w
placed_word pile w n e h =
    let top = length pile - n in
    let past : drop (length pile - n + n) pile ≡ [] = drop_of_length-le pile {i = length pile - n + n} (omega arith) in
    ap (drop top) (append_assoc (take top pile) (take n w) (drop (top + n) pile))
    ∙ drop_at (take top pile) (take n w ++ drop (top + n) pile) top (length-take-le top pile (omega arith))
    ∙ ap₂ (λ (x y : List ℕ). x ++ y) (take_all n w (omega arith)) past
    ∙ append-nil w

-- what it leaves: the bytes before the word, and the word
placed_whole : (pile w : List ℕ) (n : ℕ) → length w ≡ n → n ≤ length pile → paste pile (length pile - n) w n ≡ take (length pile - n) pile ++ w
placed_whole pile w n e h =
    let past : drop (length pile - n + n) pile ≡ [] = drop_of_length-le pile {i = length pile - n + n} (omega arith) in
    append_assoc (take (length pile - n) pile) (take n w) (drop (length pile - n + n) pile)
    ∙ ap (λ (x : List ℕ). take (length pile - n) pile ++ x) (ap₂ (λ (x y : List ℕ). x ++ y) (take_all n w (omega arith)) past ∙ append-nil w)

pub placed_start : (table : List ℕ) (t : Table) (pile : List ℕ) (g : Group) (pile' : List ℕ) → length (system_in table).start.word ≡ t.pile → t.pile ≤ length pile → g ≡ (system_in table).start.states
    → pile' ≡ paste pile (length pile - t.pile) (system_in table).start.word t.pile → StartPlaced table t pile pile' (record { states = g; top = length pile - t.pile })
placed_start table t pile g pile' e h q f =
    let w = (system_in table).start.word in
    let top = length pile - t.pile in
    record {
      start = ap₂ (λ (s : Group) (v : List ℕ). record { states = s; word = v }) q (ap (drop top) f ∙ placed_word pile w t.pile e h);
      inside = omega (arith, ap length f ∙ length-paste pile top w t.pile (omega arith) (omega arith));
      leaves = f ∙ placed_whole pile w t.pile e h;
    }

-- ---- the word moved to the front
pub brought_front : (l : List ℕ) (top : ℕ) (s z : List ℕ) → top ≤ length l → s ≡ fronted l top (length l - top) → z ≡ zeros (take (length s - (length l - top)) (drop (length l - top) s))
    → take (length l - top) s ++ (z ++ drop (length s - (length l - top)) (drop (length l - top) s)) ≡ filled (drop top l) l
unfolding fronted
brought_front l top s z h e f =
    let w : length (drop top l) ≡ length l - top = length-drop top l in
    let word : take (length l - top) (drop top l) ≡ drop top l = take_all (length l - top) (drop top l) (omega arith) in
    let size : length s ≡ length l = ap length e ∙ simp (length-append, length-take, length-drop) (omega arith) in
    let front : take (length l - top) s ≡ drop top l = ap (take (length l - top)) e ∙ take_at (take (length l - top) (drop top l)) (drop (length l - top) l) (length l - top) (ap length word ∙ w) ∙ word in
    let back : drop (length s - (length l - top)) (drop (length l - top) s) ≡ [] = drop_of_length-le (drop (length l - top) s) {i = length s - (length l - top)} (omega (arith, length-drop (length l - top) s)) in
    let count : length (take (length s - (length l - top)) (drop (length l - top) s)) ≡ length l - length (drop top l) =
    ap length (part_rest s (length l - top)) ∙ length-drop (length l - top) s ∙ omega arith in
    ap₂ (λ (x y : List ℕ). x ++ y) front (ap₂ (λ (x y : List ℕ). x ++ y) (f ∙ ap (λ (n : ℕ). replicate n 0) count) back ∙ append-nil (replicate (length l - length (drop top l)) 0))
