-- The digits that `io::decimal` makes are the decimal digits of the number.
use mathlib.Core.Path.{◌≡◌, ap, ap₂, ◌∙◌, subst}
use mathlib.Core.List.{List, [], ◌∷◌, ◌++◌}
use Prim.Native.Nat.{ℕ, zero, suc, ◌+◌, ◌-◌, ◌/◌, ◌%◌, ◌^◌, ◌≤◌, ◌<◌}
use native.Mathlib.Omega.{arith}
use native.Mathlib.Nat.{pow-suc}
use lib.Dec.{ltb}
use lib.ListN.{length, take, length-append}
use borrow.Author.Tests.{lt-ltb, le-ltb, ltb-false}
use Rattle.io.specs.Digits.{hex_digit_ascii, last_digits, IsDigitCount}
use Rattle.model.proofs.Tests.{by_test}
use Rattle.listing.specs.Listing.{digits_of, decimal}

glyph_small : (d : ℕ) → d < 10 → hex_digit_ascii d ≡ 48 + d
glyph_small d h = rw (lt-ltb d 10 h)

last_digit : (n : ℕ) → hex_digit_ascii (n % 10) ≡ 48 + n % 10
last_digit n = glyph_small (n % 10) (omega arith)

-- a number of one digit
one_digit : (fuel n : ℕ) → n < 10 → (hex_digit_ascii (n % 10) ∷ []) ≡ digits_of fuel n
one_digit zero n h = ap (λ (d : ℕ). d ∷ []) (last_digit n)
one_digit (suc fuel) n h = rw (lt-ltb n 10 h) (ap (λ (d : ℕ). d ∷ []) (last_digit n ∙ omega arith))

-- a number of more digits: those of its tenth, and the last
more_digits : (fuel n : ℕ) (front : List ℕ) → 10 ≤ n → front ≡ digits_of fuel (n / 10) → front ++ (hex_digit_ascii (n % 10) ∷ []) ≡ digits_of (suc fuel) n
more_digits fuel n front h e = rw (le-ltb n 10 h) (ap₂ (λ (x : List ℕ) (d : ℕ). x ++ (d ∷ [])) e (last_digit n))

pow_most : (k : ℕ) → 1 ≤ 10 ^ k
pow_most zero = omega arith
pow_most (suc k) = omega (arith, pow_most k, pow-suc 10 k)

-- a number that takes k + 2 digits is too large for k + 1
least_of : (k n : ℕ) → IsDigitCount 10 1 n (suc (suc k)) → 10 ^ suc k ≤ n
least_of k n f =
    let e : suc (suc k) - 1 ≡ suc k = omega arith in
    subst (λ (j : ℕ). 10 ^ j ≤ n) e (f.2 (omega arith))

many_digits : (k n : ℕ) → IsDigitCount 10 1 n (suc (suc k)) → 10 ≤ n
many_digits k n f = omega (arith, least_of k n f, pow_most k, pow-suc 10 k)

-- without its last digit a number has a digit less
fewer_digits : (k n : ℕ) → IsDigitCount 10 1 n (suc (suc k)) → IsDigitCount 10 1 (n / 10) (suc k)
fewer_digits zero n f = (omega arith, omega (arith, f.1), λ h. absurd (omega arith))
fewer_digits (suc k) n f =
    let e : suc k ≡ suc (suc k) - 1 = omega arith in
    let least : 10 ^ suc k ≤ n / 10 = omega (arith, least_of (suc k) n f, pow-suc 10 (suc k)) in
    (omega arith, omega (arith, f.1, pow-suc 10 (suc (suc k))), λ h. subst (λ (j : ℕ). 10 ^ j ≤ n / 10) e least)

fewest_digits : (k fuel n : ℕ) → n ≤ fuel → IsDigitCount 10 1 n k → last_digits 10 k n ≡ digits_of fuel n
fewest_digits zero fuel n h f = absurd (omega (arith, f.0))
fewest_digits (suc zero) fuel n h f = one_digit fuel n (omega (arith, f.1))
fewest_digits (suc (suc k)) zero n h f = absurd (omega (arith, many_digits k n f))
fewest_digits (suc (suc k)) (suc fuel) n h f =
    let ten : 10 ≤ n = many_digits k n f in
    more_digits fuel n (last_digits 10 (suc k) (n / 10)) ten (fewest_digits (suc k) fuel (n / 10) (omega arith) (fewer_digits k n f))

decimal_digits : (k n : ℕ) → IsDigitCount 10 1 n k → last_digits 10 k n ≡ decimal n
unfolding decimal
decimal_digits k n f = fewest_digits k n n (omega arith) f

-- the front of a buffer that holds them
pub decimal_front : (k n : ℕ) (buffer : List ℕ) → IsDigitCount 10 1 n k → take k buffer ≡ last_digits 10 k n → take (k - 0) buffer ≡ decimal n
decimal_front k n buffer f e =
    let whole : k - 0 ≡ k = omega arith in
    ap (λ (j : ℕ). take j buffer) whole ∙ e ∙ decimal_digits k n f

-- ---- how long they are
digits_most : (k fuel n : ℕ) → n < 10 ^ suc k → n ≤ fuel → length (digits_of fuel n) ≤ suc k
digits_most k zero n h g = omega arith
digits_most zero (suc fuel) n h g = rw (lt-ltb n 10 (omega (arith, pow-suc 10 0))) (omega arith)
digits_most (suc k) (suc fuel) n h g = by_test (ltb n 10) (λ y. rw y (omega arith)) (λ m. rw m
    (let ten : 10 ≤ n = ltb-false n 10 m in
    let less : n / 10 < 10 ^ suc k = omega (arith, pow-suc 10 (suc k)) in
    omega (arith, digits_most k fuel (n / 10) less (omega arith), length-append (digits_of fuel (n / 10)) ((48 + n % 10) ∷ []))))

pub decimal_most : (k n : ℕ) → n < 10 ^ suc k → length (decimal n) ≤ suc k
unfolding decimal
decimal_most k n h = digits_most k n n h (omega arith)
