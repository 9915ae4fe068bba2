-- Laws of the group that a number stands for: the operations on numbers are those on groups.
use mathlib.Core.Path.{◌≡◌, refl, ap, ap₂, sym, ◌∙◌}
use mathlib.Core.Bool.{Bool, true, false}
use Prim.Native.Nat.{ℕ, ◌+◌, ◌*◌, ◌/◌, ◌%◌, ◌<◌}
use native.Mathlib.Nat.{div-div-eq-div-mul}
use native.Mathlib.Omega.{arith}
use lib.Dec.{eqb}
use borrow.Author.Tests.{eq-eqb, eqb-true}
use Rattle.model.specs.declared.Group.{Group}
use Rattle.model.specs.Groups.{Processes, at, has, merge, p0, p1, p2, p3, restrict, same_group}
use Rattle.model.proofs.Groups.{at_merge, at_restrict}
use Rattle.model.proofs.Tests.{cond_less, same_test}
use Rattle.states.specs.StateNumbers.{state_number}
use Rattle.packs.specs.Packs.{Bytes, mask_byte, mask_of, packed_merge, packed_number, packed, processes_in, packed_restrict, unpacked}
use Rattle.packs.proofs.Packs.{bytes_of, mask_small, merge_bits, pack_number, packed_same, restrict_bits, same_bits}

pub bytes_unpacked : (x : ℕ) → Bytes (unpacked x)
unfolding unpacked
bytes_unpacked x p0 = omega arith
bytes_unpacked x p1 = omega arith
bytes_unpacked x p2 = omega arith
bytes_unpacked x p3 = omega arith

pub packed_below : (g : Group) → Bytes g → packed g < 4294967296
unfolding packed
packed_below g b = omega (arith, b p0, b p1, b p2, b p3)

-- the bytes of a number, one after the other
quotient_2 : (x : ℕ) → x / 65536 ≡ x / 256 / 256
quotient_2 x = sym (div-div-eq-div-mul x 256 256)

quotient_3 : (x : ℕ) → x / 16777216 ≡ x / 256 / 256 / 256
quotient_3 x = sym (div-div-eq-div-mul x 65536 256) ∙ ap (λ (y : ℕ). y / 256) (quotient_2 x)

four_bytes : (x a b c : ℕ) → x < 4294967296 → a ≡ x / 256 → b ≡ a / 256 → c ≡ b / 256 → x % 256 + 256 * (a % 256 + 256 * (b % 256 + 256 * (c % 256))) ≡ x
four_bytes x a b c h p q r =
    let x_is : x ≡ x % 256 + 256 * a = omega arith in
    let a-is : a ≡ a % 256 + 256 * b = omega arith in
    let b-is : b ≡ b % 256 + 256 * c = omega arith in
    let c-is : c % 256 ≡ c = omega arith in
    omega arith

pub packed_unpacked : (x : ℕ) → x < 4294967296 → packed (unpacked x) ≡ x
unfolding packed unpacked
packed_unpacked x h = rw (quotient_3 x, quotient_2 x) (four_bytes x (x / 256) (x / 256 / 256) (x / 256 / 256 / 256) h refl refl refl)

pub unpacked_packed : (g : Group) → Bytes g → unpacked (packed g) ≡ g
unpacked_packed g b = packed_same (unpacked (packed g)) g (bytes_unpacked (packed g)) b (packed_unpacked (packed g) (packed_below g b))

-- comparing numbers is comparing groups
pub same_unpacked : (x y : ℕ) → x < 4294967296 → y < 4294967296 → eqb y x ≡ same_group (unpacked x) (unpacked y)
same_unpacked x y h k =
    same_test (eqb y x) (eqb x y) (λ t. eq-eqb x y (sym (eqb-true y x t))) (λ t. eq-eqb y x (sym (eqb-true x y t)))
    ∙ ap₂ eqb (sym (packed_unpacked x h)) (sym (packed_unpacked y k))
    ∙ same_bits (unpacked x) (unpacked y) (bytes_unpacked x) (bytes_unpacked y)

pub restrict_bytes : (L : Processes) (g : Group) → Bytes g → Bytes (restrict L g)
restrict_bytes L g b i = rw at_restrict (cond_less (has L i) (at g i) 255 256 (λ m. b i) (omega arith))

pub merge_bytes : (L : Processes) (x g : Group) → Bytes x → Bytes g → Bytes (merge L x g)
merge_bytes L x g p q i = rw at_merge (cond_less (has L i) (at x i) (at g i) 256 (λ m. p i) (q i))

-- ---- the two operations
pub restrict_number : (L : Processes) (x : ℕ) → x < 4294967296 → packed_restrict (mask_of L) x ≡ packed (restrict L (unpacked x))
restrict_number L x h = ap (packed_restrict (mask_of L)) (sym (packed_unpacked x h)) ∙ restrict_bits L (unpacked x) (bytes_unpacked x)

pub merge_number : (L : Processes) (x g : ℕ) → x < 4294967296 → g < 4294967296 → packed_merge (mask_of L) x g ≡ packed (merge L (unpacked x) (unpacked g))
merge_number L x g h k = ap₂ (packed_merge (mask_of L)) (sym (packed_unpacked x h)) (sym (packed_unpacked g k)) ∙ merge_bits L (unpacked x) (unpacked g) (bytes_unpacked x) (bytes_unpacked g)

pub restrict_unpacked : (L : Processes) (x : ℕ) → x < 4294967296 → unpacked (packed_restrict (mask_of L) x) ≡ restrict L (unpacked x)
restrict_unpacked L x h = ap unpacked (restrict_number L x h) ∙ unpacked_packed (restrict L (unpacked x)) (restrict_bytes L (unpacked x) (bytes_unpacked x))

pub restrict_below : (L : Processes) (x : ℕ) → x < 4294967296 → packed_restrict (mask_of L) x < 4294967296
restrict_below L x h = rw (restrict_number L x h) (packed_below (restrict L (unpacked x)) (restrict_bytes L (unpacked x) (bytes_unpacked x)))

pub merge_unpacked : (L : Processes) (x g : ℕ) → x < 4294967296 → g < 4294967296 → unpacked (packed_merge (mask_of L) x g) ≡ merge L (unpacked x) (unpacked g)
merge_unpacked L x g h k = ap unpacked (merge_number L x g h k) ∙ unpacked_packed (merge L (unpacked x) (unpacked g)) (merge_bytes L (unpacked x) (unpacked g) (bytes_unpacked x) (bytes_unpacked g))

pub merge_below : (L : Processes) (x g : ℕ) → x < 4294967296 → g < 4294967296 → packed_merge (mask_of L) x g < 4294967296
merge_below L x g h k = rw (merge_number L x g h k) (packed_below (merge L (unpacked x) (unpacked g)) (merge_bytes L (unpacked x) (unpacked g) (bytes_unpacked x) (bytes_unpacked g)))

pub number_unpacked : (x : ℕ) → x < 4294967296 → packed_number x ≡ state_number (unpacked x)
number_unpacked x h = ap packed_number (sym (packed_unpacked x h)) ∙ pack_number (unpacked x) (bytes_unpacked x)

-- ---- masks
mask_byte_lem : (b : Bool) → eqb (mask_byte b) 255 ≡ b
mask_byte_lem true = refl
mask_byte_lem false = refl

pub processes_mask : (L : Processes) → processes_in (mask_of L) ≡ L
unfolding processes_in mask_of packed unpacked
processes_mask L =
    let m : Group = record { s0 = mask_byte L.b0; s1 = mask_byte L.b1; s2 = mask_byte L.b2; s3 = mask_byte L.b3 } in
    let e = unpacked_packed m (bytes_of m (mask_small L.b0) (mask_small L.b1) (mask_small L.b2) (mask_small L.b3)) in
    λ i. record {
      b0 = (ap (λ (g : Group). eqb g.s0 255) e ∙ mask_byte_lem L.b0) i;
      b1 = (ap (λ (g : Group). eqb g.s1 255) e ∙ mask_byte_lem L.b1) i;
      b2 = (ap (λ (g : Group). eqb g.s2 255) e ∙ mask_byte_lem L.b2) i;
      b3 = (ap (λ (g : Group). eqb g.s3 255) e ∙ mask_byte_lem L.b3) i;
    }
