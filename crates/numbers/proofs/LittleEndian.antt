-- std's little-endian bytes are the model's: what from_le_bytes reads is number_at, and what to_le_bytes writes is with_number.
use Rattle.std.proofs.Common.{◌≡◌, ℕ, zero, suc, ◌+◌, ◌*◌, ◌/◌, ◌%◌, ◌^◌, ◌≤◌, List, [], ◌∷◌, ◌++◌, length, get_or, take, drop, refl, sym, ap, ap₂, ◌∙◌, append_assoc, add-one, arith}
use Rattle.std.specs.Int.{w16, w32, w64, from_le_bytes, bytes_low_first, byte_at}
use Rattle.std.proofs.Math.ListN.{set}
use Rattle.std.proofs.Math.Seq.{sets-eq, drop-drop}
use Rattle.std.proofs.Math.Nat.{div-div-eq-div-mul, div-one, pow-suc}
use borrow.Rule.Slice.PartMut.{put_mid}
use Rattle.model.specs.Records.{little_endian, number_at}
use Rattle.numbers.specs.NumberBytes.{with_number}
use Rattle.numbers.proofs.NumberBytes.{length_little}

-- ---- offsets as successors
pub plus_two : (i : ℕ) → i + 2 ≡ suc (suc i)
plus_two i = omega arith

pub plus_three : (i : ℕ) → i + 3 ≡ suc (suc (suc i))
plus_three i = omega arith

pub plus_four : (i : ℕ) → i + 4 ≡ suc (suc (suc (suc i)))
plus_four i = omega arith

pub plus_five : (i : ℕ) → i + 5 ≡ suc (suc (suc (suc (suc i))))
plus_five i = omega arith

pub plus_six : (i : ℕ) → i + 6 ≡ suc (suc (suc (suc (suc (suc i)))))
plus_six i = omega arith

pub plus_seven : (i : ℕ) → i + 7 ≡ suc (suc (suc (suc (suc (suc (suc i))))))
plus_seven i = omega arith

-- ---- reading
pub two_read : (s : List ℕ) (i : ℕ) → number_at 2 s i ≡ from_le_bytes w16 (get_or s i 0 ∷ get_or s (i + 1) 0 ∷ [])
unfolding number_at
two_read s i = rw (add-one i) (omega arith)

pub three_read : (s : List ℕ) (i : ℕ) → number_at 3 s i ≡ get_or s i 0 + 256 * (get_or s (i + 1) 0 + 256 * get_or s (i + 2) 0)
unfolding number_at
three_read s i = rw (add-one i, plus_two i) (omega arith)

pub four_read : (s : List ℕ) (i : ℕ) → number_at 4 s i ≡ from_le_bytes w32 (get_or s i 0 ∷ get_or s (i + 1) 0 ∷ get_or s (i + 2) 0 ∷ get_or s (i + 3) 0 ∷ [])
unfolding number_at
four_read s i = rw (add-one i, plus_two i, plus_three i) (omega arith)

pub eight_read : (s : List ℕ) (i : ℕ) → number_at 8 s i ≡ from_le_bytes w64 (get_or s i 0 ∷ get_or s (i + 1) 0 ∷ get_or s (i + 2) 0 ∷ get_or s (i + 3) 0 ∷ get_or s (i + 4) 0 ∷ get_or s (i + 5) 0 ∷ get_or s (i + 6) 0 ∷ get_or s (i + 7) 0 ∷ [])
unfolding number_at
eight_read s i = rw (add-one i, plus_two i, plus_three i, plus_four i, plus_five i, plus_six i, plus_seven i) (omega arith)

-- ---- writing
byte_of : (i n : ℕ) → byte_at i n ≡ n / 256 ^ i % 256
byte_of zero n = ap (λ (x : ℕ). x % 256) (sym (div-one n))
byte_of (suc i) n = refl

bytes_from : (k i n : ℕ) → bytes_low_first i k n ≡ little_endian k (n / 256 ^ i)
bytes_from zero i n = refl
bytes_from (suc k) i n =
    let next : n / 256 ^ suc i ≡ n / 256 ^ i / 256 = ap (λ (d : ℕ). n / d) (omega (arith, pow-suc 256 i)) ∙ sym (div-div-eq-div-mul n (256 ^ i) 256) in
    ap₂ (λ (b : ℕ) (bs : List ℕ). b ∷ bs) (byte_of i n) (bytes_from k (suc i) n ∙ ap (little_endian k) next)

-- a part of k bytes that holds the bytes of x
pub written : (s ys : List ℕ) (i n k x : ℕ) → n ≡ k → i + k ≤ length s → ys ≡ bytes_low_first 0 k x → put_mid i n s ys ≡ with_number k s i x
unfolding with_number
written s ys i n k x e r w =
    let bytes : ys ≡ little_endian k x = w ∙ bytes_from k 0 x ∙ ap (little_endian k) (div-one x) in
    let size : length (little_endian k x) ≡ k = length_little k x in
    let behind : drop n (drop i s) ≡ drop (i + length (little_endian k x)) s = drop-drop n i s ∙ ap (λ (m : ℕ). drop m s) (omega arith) in
    ap₂ (λ (a b : List ℕ). take i s ++ (a ++ b)) bytes behind ∙ sym (append_assoc (take i s) _ _) ∙ sym (sets-eq (little_endian k x) s i (omega arith))

-- three bytes, of which std has no number
pub three_written : (s : List ℕ) (i x : ℕ) → set (set (set s i (x % 256)) (i + 1) (x / 256 % 256)) (i + 2) (x / 256 / 256 % 256) ≡ with_number 3 s i x
unfolding with_number
three_written s i x = rw (add-one i, plus_two i)
