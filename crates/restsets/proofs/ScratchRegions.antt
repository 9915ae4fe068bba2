-- Laws of the sets in the scratch that are lent and come back.
use mathlib.Core.Path.{◌≡◌, ap, sym, ◌∙◌}
use mathlib.Core.List.{List, ◌++◌, append_assoc}
use Prim.Native.Nat.{ℕ, ◌+◌, ◌-◌, ◌<◌, ◌≤◌}
use native.Mathlib.Omega.{arith}
use lib.ListN.{length, get_or, take, drop, length-append, length-drop, replicate, length-replicate, get_or-append}
use lib.Seq.{length-take-le, take_at, drop_at, get_or-take, get_or-drop, get_or-append-add, drop-drop}
use Rattle.model.specs.Calls.{zeros}
use Rattle.states.specs.StateSets.{set_length, member, inserted}
use Rattle.states.proofs.StateSets.{length_inserted, member_zeros}
use Rattle.rests.specs.Rests.{set_at}
use Rattle.rests.proofs.Sets.{length_set_at, set_part}
use Rattle.restsets.specs.Sets.{with_set, with_state, EmptySet, OnlySet}

-- a set that was lent and comes back
pub set_back : (s : List ℕ) (at : ℕ) (members : List ℕ) → take at s ++ (members ++ drop (at + set_length - at) (drop at s)) ≡ with_set s at members
set_back s at members =
    let e : at + set_length - at ≡ set_length = omega arith in
    ap (λ (n : ℕ). take at s ++ (members ++ drop n (drop at s))) e

module _ (s : List ℕ) (at : ℕ) (members : List ℕ) (room : at + set_length ≤ length s) (size : length members ≡ set_length) where
  front : length (take at s) ≡ at
  front = length-take-le at s (omega arith)

  pub set_with : set_at (with_set s at members) at ≡ members
  unfolding set_at
  set_with =
      let rest = drop set_length (drop at s) in
      ap (λ (l : List ℕ). take set_length l) (drop_at (take at s) (members ++ rest) at front) ∙ take_at members rest set_length size

  byte_before : (i : ℕ) → i < at → get_or (with_set s at members) i 0 ≡ get_or s i 0
  byte_before i h =
      get_or-append (take at s) (members ++ drop set_length (drop at s)) 0 i (omega (arith, front)) ∙ get_or-take at s i 0 h

  byte_behind : (i : ℕ) → at + set_length ≤ i → get_or (with_set s at members) i 0 ≡ get_or s i 0
  byte_behind i h =
      let rest = drop set_length (drop at s) in
      let head = take at s ++ members in
      let long : length head ≡ at + set_length = length-append (take at s) members ∙ omega (arith, front) in
      let e : i ≡ length head + (i - (at + set_length)) = omega arith in
      let back : at + set_length + (i - (at + set_length)) ≡ i = omega arith in
      ap (λ (l : List ℕ). get_or l i 0) (sym (append_assoc (take at s) members rest))
      ∙ ap (λ (j : ℕ). get_or (head ++ rest) j 0) e
      ∙ get_or-append-add head rest (i - (at + set_length)) 0
      ∙ ap (λ (l : List ℕ). get_or l (i - (at + set_length)) 0) (drop-drop set_length at s)
      ∙ get_or-drop (at + set_length) s (i - (at + set_length)) 0
      ∙ ap (λ (j : ℕ). get_or s j 0) back

  pub only_set : OnlySet at s (with_set s at members)
  only_set = record {
    size = length-append (take at s) (members ++ drop set_length (drop at s))
        ∙ omega (arith, front, length-append members (drop set_length (drop at s)), length-drop set_length (drop at s), length-drop at s);
    before = byte_before;
    behind = byte_behind;
  }

-- a set that was lent and comes back as zeros
pub set_cleared : (s : List ℕ) (at : ℕ) (members : List ℕ) → at + set_length ≤ length s → members ≡ zeros (take (at + set_length - at) (drop at s))
    → OnlySet at s (take at s ++ (members ++ drop (at + set_length - at) (drop at s)))
    × EmptySet (take at s ++ (members ++ drop (at + set_length - at) (drop at s))) at
set_cleared s at members room e =
    let size : length (take (at + set_length - at) (drop at s)) ≡ set_length = ap length (set_part s at) ∙ length_set_at s at room in
    let none : List ℕ = replicate set_length 0 in
    let long : length none ≡ set_length = length-replicate {A = ℕ} set_length 0 in
    let is : members ≡ none = e ∙ ap (λ (n : ℕ). replicate {A = ℕ} n 0) size in
    rw (set_back s at members, is) (only_set s at none room long, λ x. ap (λ (l : List ℕ). member l x) (set_with s at none room long) ∙ member_zeros set_length x)

-- ---- a set with one state more
module _ (s : List ℕ) (at x : ℕ) (room : at + set_length ≤ length s) where
  long : length (inserted (set_at s at) x) ≡ set_length
  long = length_inserted (set_at s at) x ∙ length_set_at s at room

  pub set_state : set_at (with_state s at x) at ≡ inserted (set_at s at) x
  unfolding with_state
  set_state = set_with s at (inserted (set_at s at) x) room long

  pub only_state : OnlySet at s (with_state s at x)
  unfolding with_state
  only_state = only_set s at (inserted (set_at s at) x) room long
