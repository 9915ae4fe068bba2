-- The processes of an accepted table: how many states check 5 and check 7 leave them, the bounds of those that the table lacks, and that its letters name no others.
use mathlib.Core.Path.{◌∙◌, ◌≡◌, ap, refl, sym}
use mathlib.Core.Bool.{◌&&◌, false, true, true≢false}
use mathlib.Core.List.{List, [], ◌∷◌}
use Prim.Native.Nat.{◌%◌, ◌/◌, ◌<◌, ◌^◌, ◌≤◌, ℕ}
use native.Mathlib.Omega.{arith}
use native.Mathlib.Nat.{lt_of_lt_of_le}
use lib.Dec.{leb}
use lib.ListN.{get_or-eq_default, get_or, length}
use lib.Pow.{pow_mono}
use borrow.Author.Tests.{leb-true, ltb-false, ltb-true, ne_eqb}
use Rattle.model.specs.Groups.{Process, Within, has, p0, p1, p2, p3, processes_of, number_of}
use Rattle.model.specs.Lists.{Each}
use Rattle.model.specs.Tables.{Item, absent, bodies, byte_of, controls_of, is_narrow, loc_of, present, states_of, value_fits}
use Rattle.model.proofs.CheckedItems.{Checked, Passes, each_of_kind}
use Rattle.model.proofs.FittingItems.{letter_fits}
use Rattle.model.proofs.Lists.{all_each, each_get, get_d_mem}
use Rattle.model.proofs.Tests.{and_left, and_right, by_test, each_process}

-- ---- which processes there are
pub present_number : (ps : List (List ℕ)) (i : Process) → has (present ps) i ≡ true → number_of i < length ps
present_number ps = each_process (λ i. has (present ps) i ≡ true → number_of i < length ps) (ltb-true 0 (length ps)) (ltb-true 1 (length ps)) (ltb-true 2 (length ps)) (ltb-true 3 (length ps))

absent_number : (ps : List (List ℕ)) (i : Process) → has (present ps) i ≡ false → length ps ≤ number_of i
absent_number ps = each_process (λ i. has (present ps) i ≡ false → length ps ≤ number_of i) (ltb-false 0 (length ps)) (ltb-false 1 (length ps)) (ltb-false 2 (length ps)) (ltb-false 3 (length ps))

-- the bounds of a process that the table lacks
pub lacking : (field : ℕ) → byte_of absent field ≡ 256 → (ps : List (List ℕ)) (i : Process) → has (present ps) i ≡ false → byte_of (get_or ps (number_of i) absent) field ≡ 256
lacking field is ps i n = ap (λ (body : List ℕ). byte_of body field) (get_or-eq_default ps absent {n = number_of i} (absent_number ps i n)) ∙ is

-- ---- the states of a process: at most 8, of which 1 or more are control states
pub record Ranged (body : List ℕ) : Type 0 where
  pub some : 1 ≤ byte_of body 0
  pub controls : byte_of body 0 ≤ byte_of body 1
  pub small : byte_of body 1 ≤ 8

processes_ranged : {items : List Item} → Checked items → Each Ranged (bodies 1 items)
unfolding value_fits
processes_ranged c = each_of_kind 1 (λ items. Ranged) (λ items x body l q. q) ranged c
  where
    ranged : (items : List Item) (body : List ℕ) → Passes items 1 body → Ranged body
    ranged items body p =
        let a = leb 1 (byte_of body 0) in
        let b = leb (byte_of body 0) (byte_of body 1) in
        let c = leb (byte_of body 1) 8 in
        record {
          some = leb-true 1 (byte_of body 0) (and_left a b (and_left (a && b) c p.fits));
          controls = leb-true (byte_of body 0) (byte_of body 1) (and_right a b (and_left (a && b) c p.fits));
          small = leb-true (byte_of body 1) 8 (and_right (a && b) c p.fits);
        }

pub ranged_at : {items : List Item} → Checked items → (i : Process) → has (present (bodies 1 items)) i ≡ true → Ranged (get_or (bodies 1 items) (number_of i) absent)
ranged_at {items} c i m =
    each_get Ranged (get_or (bodies 1 items) (number_of i) absent) (bodies 1 items) (processes_ranged c) (get_d_mem (bodies 1 items) (number_of i) absent (present_number (bodies 1 items) i m))

pub controls_states : {items : List Item} → Checked items → (i : Process) → controls_of (bodies 1 items) i ≤ states_of (bodies 1 items) i
controls_states {items} c i = by_test (has (present (bodies 1 items)) i)
    (λ m. (ranged_at c i m).controls)
    (λ n. omega (arith, lacking 0 refl (bodies 1 items) i n, lacking 1 refl (bodies 1 items) i n))

pub controls_small : {items : List Item} → Checked items → (i : Process) → controls_of (bodies 1 items) i ≤ 256
controls_small {items} c i = by_test (has (present (bodies 1 items)) i)
    (λ m. let r = ranged_at c i m in omega (arith, r.controls, r.small))
    (λ n. omega (arith, lacking 0 refl (bodies 1 items) i n))

-- no process has more than 4 states
pub narrow_four : (ps : List (List ℕ)) → is_narrow ps ≡ true → (i : Process) → has (present ps) i ≡ true → states_of ps i ≤ 4
unfolding is_narrow
narrow_four ps n i m = leb-true (states_of ps i) 4 (each_get (λ (body : List ℕ). leb (byte_of body 1) 4 ≡ true) (get_or ps (number_of i) absent) ps
    (all_each (λ (body : List ℕ). leb (byte_of body 1) 4) ps n) (get_d_mem ps (number_of i) absent (present_number ps i m)))

-- ---- letters
-- bits below a power of two name none of the later processes
bits_absent : (ps : List (List ℕ)) (bits : ℕ) → bits < 2 ^ length ps → (i : Process) → has (present ps) i ≡ false → has (processes_of bits) i ≡ false
bits_absent ps bits h p0 n = let low : bits < 1 = lt_of_lt_of_le h (pow_mono (ltb-false 0 (length ps) n)) in ne_eqb (bits % 2) 1 (λ e. omega arith)
bits_absent ps bits h p1 n = let low : bits < 2 = lt_of_lt_of_le h (pow_mono (ltb-false 1 (length ps) n)) in ne_eqb (bits / 2 % 2) 1 (λ e. omega arith)
bits_absent ps bits h p2 n = let low : bits < 4 = lt_of_lt_of_le h (pow_mono (ltb-false 2 (length ps) n)) in ne_eqb (bits / 4 % 2) 1 (λ e. omega arith)
bits_absent ps bits h p3 n = let low : bits < 8 = lt_of_lt_of_le h (pow_mono (ltb-false 3 (length ps) n)) in ne_eqb (bits / 8 % 2) 1 (λ e. omega arith)

pub letter_absent : {items : List Item} → Checked items → (i : Process) → has (present (bodies 1 items)) i ≡ false → (a : ℕ) → a < length (bodies 2 items) → has (loc_of (bodies 2 items) a) i ≡ false
letter_absent {items} c i n a l =
    let body = get_or (bodies 2 items) a (15 ∷ []) in
    bits_absent (bodies 1 items) (byte_of body 0)
    (each_get (λ (body : List ℕ). 1 ≤ byte_of body 0 × byte_of body 0 < 2 ^ length (bodies 1 items)) body (bodies 2 items) (letter_fits c) (get_d_mem (bodies 2 items) a (15 ∷ []) l)).1 i n

-- the processes of a letter are processes of the table
pub letter_present : {items : List Item} → Checked items → (a : ℕ) → a < length (bodies 2 items) → Within (loc_of (bodies 2 items) a) (present (bodies 1 items))
letter_present {items} c a l i m = by_test (has (present (bodies 1 items)) i) (λ y. y) (λ n. absurd (true≢false (sym m ∙ letter_absent c i n a l)))
