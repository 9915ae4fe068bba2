-- The numbers of the table's refusals are 1 to 9.
use mathlib.Core.Bool.{Bool, ◌&&◌, cond, false, not, true}
use mathlib.Core.List.{List, [], ◌++◌, ◌∷◌}
use Prim.Native.Nat.{◌+◌, ◌≤◌, suc, zero, ℕ}
use native.Mathlib.Omega.{arith}
use lib.Dec.{eqb, leb, ltb}
use lib.ListN.{drop, length, take}
use Rattle.model.specs.Tables.{Item, Reading, accepted, bodies, body_length, ceiling, cooperates, count, ending, is_out_of_turn, is_reentry, is_stranger, is_twin, loc_of, read, read_from, refusal, refused, rule_of, unless_refused, value_fits}
use Rattle.model.proofs.Tests.{by_test}

refusal_small : (a b c d e f g h : Bool) → cond a 2 (cond b 3 (cond c 4 (cond d 1 (cond e 5 (cond f 6 (cond g 7 (cond h 8 0))))))) ≤ 9
refusal_small true b c d e f g h = omega arith
refusal_small false true c d e f g h = omega arith
refusal_small false false true d e f g h = omega arith
refusal_small false false false true e f g h = omega arith
refusal_small false false false false true f g h = omega arith
refusal_small false false false false false true g h = omega arith
refusal_small false false false false false false true h = omega arith
refusal_small false false false false false false false true = omega arith
refusal_small false false false false false false false false = omega arith

refusal_number : (items : List Item) (k : ℕ) (body : List ℕ) → refusal items k body ≤ 9
unfolding refusal
refusal_number items k body =
    refusal_small (is_stranger k) (is_out_of_turn items k) (leb (ceiling k) (count k items)) (ltb (length body) (body_length k)) (not (value_fits (bodies 1 items) (bodies 2 items) k body))
    (eqb k 3 && not (cooperates (loc_of (bodies 2 items)) (rule_of body))) (is_reentry (bodies 1 items) (bodies 2 items) k body) (is_twin items k body)

-- a reading is accepted, or refused with a number from 1 to 9
abbrev pub Numbered9 : Reading → Type 0
Numbered9 (accepted items) = Unit {0}
Numbered9 (refused n place) = (1 ≤ n) × (n ≤ 9)

unless_numbered : (n place : ℕ) (reading : Reading) → n ≤ 9 → Numbered9 reading → Numbered9 (unless_refused n place reading)
unless_numbered zero place reading h r = r
unless_numbered (suc n) place reading h r = (omega arith, h)

ending_numbered : (items : List Item) (rest : List ℕ) (place : ℕ) → Numbered9 (ending items rest place)
ending_numbered items [] place = tt
ending_numbered items (x ∷ rest) place = (omega arith, omega arith)

read_from_numbered : (fuel : ℕ) (items : List Item) (rest : List ℕ) (place : ℕ) → Numbered9 (read_from fuel items rest place)
unfolding read_from
read_from_numbered zero items rest place = (omega arith, omega arith)
read_from_numbered (suc fuel) items [] place = (omega arith, omega arith)
read_from_numbered (suc fuel) items (k ∷ rest) place =
    unless_numbered (refusal items k (take (body_length k) rest)) place next (refusal_number items k (take (body_length k) rest))
    (by_test (eqb k 8) (λ y. rw y (ending_numbered items rest (place + 1)))
    (λ n. rw n (read_from_numbered fuel (items ++ (record { kind = k; body = take (body_length k) rest } ∷ [])) (drop (body_length k) rest) (place + 1 + body_length k))))
  where
    next : Reading
    next = cond (eqb k 8) (ending items rest (place + 1)) (read_from fuel (items ++ (record { kind = k; body = take (body_length k) rest } ∷ [])) (drop (body_length k) rest) (place + 1 + body_length k))

pub read_numbered : (bytes : List ℕ) → Numbered9 (read bytes)
unfolding read
read_numbered bytes = read_from_numbered (length bytes + 1) [] bytes 0
