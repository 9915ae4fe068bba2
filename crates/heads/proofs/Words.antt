-- The heads of rules, and their written letters, read one after the other.
use mathlib.Core.Path.{◌≡◌, ap, sym, subst, ◌∙◌}
use mathlib.Core.Bool.{Bool, true, false, cond, ◌&&◌}
use mathlib.Core.List.{List}
use Prim.Native.Nat.{ℕ, ◌+◌, ◌<◌}
use native.Mathlib.Decide.{ℕ_discrete}
use native.Mathlib.Omega.{arith}
use lib.Dec.{eqb}
use lib.ListN.{get_or, length, length-set, set}
use lib.Seq.{get_or-set_other, get_or-set_same}
use borrow.Author.Tests.{eq-eqb, ne_eqb}
use Rattle.model.specs.Tables.{written_places}
use Rattle.model.proofs.Tests.{by_test}
use Rattle.packs.specs.Packs.{mask_of, packed}
use Rattle.table.specs.Reading.{rule_in, system_in}
use Rattle.rules.specs.Rules.{has_letter}
use Rattle.heads.specs.declared.Head.{Head}
use Rattle.heads.specs.Jobs.{WordTo, has_head}

-- ---- the head of a rule
module _ (table : List ℕ) (h : Head) (k a : ℕ) (letter : a ≡ (rule_in table k).letter) where
  -- by the test of the letter
  by_letter : (b : Bool) → eqb a h.letter ≡ b → has_head table h k ≡ (b && eqb (packed (rule_in table k).before) h.before)
  unfolding has_head
  by_letter b e = ap (λ (x : Bool). x && eqb (packed (rule_in table k).before) h.before) (ap (λ (x : ℕ). eqb x h.letter) (sym letter) ∙ e)

  pub other_letter : (a ≡ h.letter → ⊥) → has_head table h k ≡ false
  other_letter ne = by_letter false (ne_eqb a h.letter ne)

  pub same_letter : (g : ℕ) → a ≡ h.letter → g ≡ packed (rule_in table k).before → has_head table h k ≡ eqb g h.before
  same_letter g e f = by_letter true (eq-eqb a h.letter e) ∙ ap (λ (x : ℕ). eqb x h.before) (sym f)

-- ---- its written letters
-- the first n numbers of a list are those of f
abbrev Agrees : List ℕ → (ℕ → ℕ) → ℕ → Type 0
Agrees l f n = (i : ℕ) → i < n → get_or l i 0 ≡ f i

one_more : (l m : List ℕ) (x : ℕ) (f : ℕ → ℕ) (j : ℕ) → m ≡ set l j x → j < length l → x ≡ f j → Agrees l f j → Agrees m f (j + 1)
one_more l m x f j s h e g i q = ap (λ (k : List ℕ). get_or k i 0) s ∙ elim (ℕ_discrete i j) [
  | yes y ↦ subst (λ (n : ℕ). get_or (set l j x) n 0 ≡ f n) (sym y) (get_or-set_same l j x 0 h ∙ e)
  | no n ↦ get_or-set_other l j i x 0 n ∙ g i (omega (arith, n))
]

abbrev written_at : List ℕ → ℕ → ℕ → ℕ
written_at table k j = get_or (rule_in table k).written j 0

-- letter j is read
module _ (table : List ℕ) (fresh k j : ℕ) (letters masks : List ℕ) (last a mask last' : ℕ) (few : j < written_places)
    (same : a ≡ written_at table k j) (masked : mask ≡ mask_of ((system_in table).loc (written_at table k j)))
    (fresher : last' ≡ cond (has_letter fresh (written_at table k j)) j last) (w : WordTo table fresh k j letters masks last) where
  stale : (i : ℕ) → i < j + 1 → last' < i → has_letter fresh (written_at table k i) ≡ false
  stale i q l = by_test (has_letter fresh (written_at table k j))
      (λ t. let e : last' ≡ j = fresher ∙ ap (λ (b : Bool). cond b j last) t in absurd (omega arith))
      (λ f. let e : last' ≡ last = fresher ∙ ap (λ (b : Bool). cond b j last) f in elim (ℕ_discrete i j) [
        | yes y ↦ ap (λ (n : ℕ). has_letter fresh (written_at table k n)) y ∙ f
        | no n ↦ w.stale i (omega (arith, n)) (omega arith)
      ])

  pub word_more : (letters' masks' : List ℕ) → letters' ≡ set letters j a → masks' ≡ set masks j mask → WordTo table fresh k (j + 1) letters' masks' last'
  word_more letters' masks' e f = record {
    letters_size = ap length e ∙ length-set letters j a ∙ w.letters_size;
    masks_size = ap length f ∙ length-set masks j mask ∙ w.masks_size;
    letter = one_more letters letters' a (written_at table k) j e (omega (arith, w.letters_size)) same w.letter;
    mask = one_more masks masks' mask (λ i. mask_of ((system_in table).loc (written_at table k i))) j f (omega (arith, w.masks_size)) masked w.mask;
    stale = stale;
  }
