-- Laws of the bodies at computed places.
use mathlib.Core.List.{List, [], ◌∷◌, ◌++◌}
use mathlib.Core.Path.{◌≡◌, refl, sym, ap, ◌∙◌}
use Prim.Native.Nat.{ℕ, zero, suc, ◌+◌, ◌*◌, ◌<◌, ◌≤◌}
use native.Mathlib.Nat.{not-suc-le-zero, le_of_suc-le-suc, suc-mul, zero-mul}
use native.Mathlib.Numerals.{add-one}
use native.Mathlib.Omega.{arith}
use lib.ListN.{length, get_or, drop, length-take, length-drop, get_or-eq_default}
use lib.Seq.{get_or-take, get_or-drop}
use Rattle.model.specs.Tables.{byte_of, absent}
use Rattle.table.specs.Places.{body_at, bodies_at}

pub body_length_lem : (bytes : List ℕ) (size place : ℕ) → place + 1 + size ≤ length bytes → length (body_at bytes size place) ≡ size
body_length_lem bytes size place h = simp (length-take, length-drop) (omega arith)

pub bodies_length : (bytes : List ℕ) (size place n : ℕ) → length (bodies_at bytes size place n) ≡ n
unfolding bodies_at
bodies_length bytes size place zero = refl
bodies_length bytes size place (suc n) = ap suc (bodies_length bytes size (place + 1 + size) n)

first_place : (place size : ℕ) → place ≡ place + 0 * (1 + size)
first_place place size = rw (zero-mul (1 + size)) (omega arith)

next_place : (place size j : ℕ) → place + 1 + size + j * (1 + size) ≡ place + suc j * (1 + size)
next_place place size j = rw (suc-mul j (1 + size)) (omega arith)

-- body j
pub bodies_at_lem : (bytes : List ℕ) (size place n j : ℕ) (d : List ℕ) → j < n → get_or (bodies_at bytes size place n) j d ≡ body_at bytes size (place + j * (1 + size))
unfolding bodies_at
bodies_at_lem bytes size place zero j d h = absurd (not-suc-le-zero h)
bodies_at_lem bytes size place (suc n) zero d h = ap (body_at bytes size) (first_place place size)
bodies_at_lem bytes size place (suc n) (suc j) d h = bodies_at_lem bytes size (place + 1 + size) n j d (le_of_suc-le-suc h) ∙ ap (body_at bytes size) (next_place place size j)

-- byte i of body j
pub bodies_byte : (bytes : List ℕ) (size place n j i at : ℕ) (d : List ℕ) → j < n → i < size → at ≡ place + j * (1 + size) + 1 + i → get_or bytes at 0 ≡ byte_of (get_or (bodies_at bytes size place n) j d) i
bodies_byte bytes size place n j i at d h k e = rw (e, bodies_at_lem bytes size place n j d h, get_or-take size (drop (place + j * (1 + size) + 1) bytes) i 0 k, get_or-drop (place + j * (1 + size) + 1) bytes i 0)

-- no body j
pub bodies_past : (bytes : List ℕ) (size place n j : ℕ) (d : List ℕ) → n ≤ j → get_or (bodies_at bytes size place n) j d ≡ d
bodies_past bytes size place n j d h = get_or-eq_default (bodies_at bytes size place n) d {n = j} (rw (bodies_length bytes size place n) h)

-- one more item
pub bodies_snoc : (bytes : List ℕ) (size place n : ℕ) → bodies_at bytes size place (n + 1) ≡ bodies_at bytes size place n ++ (body_at bytes size (place + n * (1 + size)) ∷ [])
unfolding bodies_at
bodies_snoc bytes size place zero = ap (λ (p : ℕ). body_at bytes size p ∷ []) (first_place place size)
bodies_snoc bytes size place (suc n) =
    ap (bodies_at bytes size place) (add-one (suc n)) ∙
    ap (λ (l : List (List ℕ)). body_at bytes size place ∷ l)
    (ap (bodies_at bytes size (place + 1 + size)) (sym (add-one n)) ∙ bodies_snoc bytes size (place + 1 + size) n ∙ ap (λ (p : ℕ). bodies_at bytes size (place + 1 + size) n ++ (body_at bytes size p ∷ [])) (next_place place size n))

-- a process that the table lacks
pub absent_bound : (field : ℕ) → field < 2 → byte_of absent field ≡ 256
absent_bound zero h = refl
absent_bound (suc zero) h = refl
absent_bound (suc (suc field)) h = absurd (omega arith)
