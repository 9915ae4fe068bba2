-- Bodies compared byte by byte and number by number, and an item with the earlier ones of its kind: what check 8 needs.
use Prim.Native.Nat.{◌*◌, ◌+◌, ◌-◌, ◌≤◌, suc, zero, ℕ}
use lib.Dec.{eqb, leb}
use lib.ListN.{drop, length, take}
use mathlib.Core.Bool.{◌&&◌, false, true, false≢true}
use mathlib.Core.List.{List, [], ◌∷◌, ◌++◌}
use mathlib.Core.Path.{◌∙◌, ◌≡◌, ap, ap₂, refl, sym}
use native.Mathlib.Omega.{arith}
use borrow.Author.Tests.{eqb-true, leb-true}
use Rattle.model.proofs.RecordBytes.{number_drop}
use Rattle.model.proofs.Tests.{and_left, and_right, by_test}
use Rattle.model.specs.Lists.{any_of}
use Rattle.model.specs.Records.{number_at}
use Rattle.model.specs.Tables.{body_length, is_twin, same_bytes}
use Rattle.table.proofs.Cursors.{kind_place}
use Rattle.table.proofs.Places.{bodies_below}
use Rattle.table.specs.Places.{bodies_at, body_at, counts_at, items_before, offset}
use Rattle.table.specs.declared.Cursor.{Cursor}
use Rattle.std.proofs.Common.{nat_eq}
use Rattle.std.specs.Cmp.Lexicographic.{pointwise}
use Rattle.std.specs.Slice.Iter.{chunks_exact_size, chunks_exact_rest, chunks_exact_steps}
use Rattle.std.specs.Iterator.{AlwaysYields}
use Rattle.std.proofs.Math.Seq.{take-append_seam, drop-append_seam, take-add, drop-drop}
use Rattle.std.proofs.lemmas.List.{length-append, length-take, length-drop, drop-take}
use Rattle.reading.specs.Marks.{ItemAt, has_twins}

-- the test of two slices is that of the definition
pub same_test : (x y : List ℕ) → pointwise nat_eq x y ≡ same_bytes x y
same_test [] [] = refl
same_test [] (b ∷ y) = refl
same_test (a ∷ x) [] = refl
same_test (a ∷ x) (b ∷ y) = ap (λ t. eqb a b && t) (same_test x y)

-- bytes that are compared as the same are the same
pub same_is : (x y : List ℕ) → same_bytes x y ≡ true → x ≡ y
same_is [] [] e = refl
same_is [] (b ∷ y) e = absurd (false≢true e)
same_is (a ∷ x) [] e = absurd (false≢true e)
same_is (a ∷ x) (b ∷ y) e = ap₂ (λ (c : ℕ) (z : List ℕ). c ∷ z) (eqb-true a b (and_left (eqb a b) (same_bytes x y) e)) (same_is x y (and_right (eqb a b) (same_bytes x y) e))

-- bytes that differ in a number are not the same
pub differ_in : (x y : List ℕ) (a i j : ℕ) → j ≡ a + i → (number_at 8 y j ≡ number_at 8 x i → ⊥) → same_bytes x (drop a y) ≡ false
differ_in x y a i j e ne = by_test (same_bytes x (drop a y)) (λ t. absurd (ne (ap (number_at 8 y) e ∙ sym (number_drop 8 y a i) ∙ ap (λ z. number_at 8 z i) (sym (same_is x (drop a y) t))))) (λ f. f)

-- two lists joined at one place
seam : (x y a b : List ℕ) → length x ≡ length a → x ++ y ≡ a ++ b → (x ≡ a) × (y ≡ b)
seam x y a b l e = (sym (take-append_seam x y) ∙ ap₂ (λ (n : ℕ) (z : List ℕ). take n z) l e ∙ take-append_seam a b, sym (drop-append_seam x y) ∙ ap₂ (λ (n : ℕ) (z : List ℕ). drop n z) l e ∙ drop-append_seam a b)

-- an item of `1 + size` bytes, and the items behind it
parts : (bytes x y : List ℕ) (size first n : ℕ) → first + suc n * (1 + size) ≤ length bytes → length x ≡ 1 + size → take (suc n * (1 + size)) (drop first bytes) ≡ x ++ y
    → (drop 1 x ≡ body_at bytes size first) × (y ≡ take (n * (1 + size)) (drop (first + 1 + size) bytes))
parts bytes x y size first n h l e =
    let d = drop first bytes in
    let room : length (take (1 + size) d) ≡ 1 + size = simp (length-take, length-drop) (omega arith) in
    let cut = seam x y (take (1 + size) d) (take (n * (1 + size)) (drop (1 + size) d)) (l ∙ sym room) (sym e ∙ ap (λ m. take m d) (omega arith) ∙ take-add (1 + size) (n * (1 + size)) d) in (
      ap (drop 1) cut.0 ∙ drop-take 1 size d ∙ ap (take size) (drop-drop 1 first bytes),
      cut.1 ∙ ap (take (n * (1 + size))) (drop-drop (1 + size) first bytes ∙ ap (λ m. drop m bytes) (omega arith)),
    )

-- the bodies of items that stand one behind the other, by an iterator over parts as long as an item
pub bodies_come : (bytes : List ℕ) (size first n : ℕ) (s : _) → chunks_exact_size {T = ℕ} s ≡ 1 + size → chunks_exact_rest s ≡ take (n * (1 + size)) (drop first bytes) → first + n * (1 + size) ≤ length bytes
    → AlwaysYields (chunks_exact_steps {A = ℕ}) (λ x. drop (length x.now - size) x.now) s (bodies_at bytes size first n)
unfolding bodies_at
bodies_come bytes size first zero s w r h = λ x t k. absurd (omega (arith, length-append x.now (chunks_exact_rest t), ap length (sym k.1.0 ∙ r) ∙ length-take (0 * (1 + size)) (drop first bytes), k.1.1))
bodies_come bytes size first (suc n) s w r h = (
  (λ t k. omega (arith, k.1.0, ap length r ∙ length-take (suc n * (1 + size)) (drop first bytes), length-drop first bytes)),
  λ x t k.
      let p = parts bytes x.now (chunks_exact_rest t) size first n h (k.1.1 ∙ w) (sym r ∙ k.1.0) in
      let one : length x.now - size ≡ 1 = omega (arith, k.1.1, w) in
      (ap (λ m. drop m x.now) one ∙ p.0, bodies_come bytes size (first + 1 + size) n t (k.0 ∙ w) p.1 (omega arith)),
)

-- what check 8 needs of an item at the cursor: the items of its kind stand right before it
pub record Seen (bytes : List ℕ) (c : Cursor) (k : ℕ) (body : List ℕ) : Type 0 where
  pub room : counts_at c k * (1 + body_length k) ≤ c.at
  pub same : any_of (same_bytes body) (bodies_at bytes (body_length k) (c.at - counts_at c k * (1 + body_length k)) (counts_at c k)) ≡ is_twin (items_before bytes c) k body

pub seen_of : {bytes seen : List ℕ} {c : Cursor} {k : ℕ} {body : List ℕ} → ItemAt bytes seen c k body → has_twins k ≡ true → Seen bytes c k body
unfolding is_twin
seen_of {bytes} {seen} {c} {k} {body} h t =
    let small : k ≤ 5 = leb-true k 5 (and_right (leb 3 k) (leb k 5) t) in
    let place = kind_place bytes c h.passed k (omega arith) h.turn in
    let first : c.at - counts_at c k * (1 + body_length k) ≡ offset (counts_at c) k = omega arith in
    record { room = omega arith; same = rw (first, ← (bodies_below bytes (counts_at c) k 8 (omega arith)), t) refl }
