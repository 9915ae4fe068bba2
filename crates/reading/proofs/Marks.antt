-- The filter of check 8: equal bodies have equal marks, so a body whose bit is not set was not seen; and the filter of one item more.
use Prim.Native.Nat.{◌*◌, ◌+◌, ◌<◌, ℕ}
use lib.Dec.{eqb, ltb}
use lib.ListN.{get_or, length}
use mathlib.Core.Bool.{and-false, cond, false, true, true≢false, false≢true}
use mathlib.Core.List.{List, Memᴰ, [], ◌++◌, ◌∷◌}
use mathlib.Core.Logic.{⊎_elim}
use mathlib.Core.Path.{◌∙◌, ◌≡◌, ap, sym}
use native.Mathlib.Omega.{arith}
use borrow.Author.Tests.{eqb-true}
use Rattle.model.proofs.CheckedItems.{bodies_more}
use Rattle.model.proofs.Lists.{any_of_lem, any_true}
use Rattle.model.proofs.Tests.{and_both, and_left, and_right, by_test, or_true_right}
use Rattle.model.specs.Tables.{Item, bodies, body_length, is_twin, refusal, same_bytes}
use Rattle.states.proofs.StateSets.{length_inserted, member_inserted, member_same}
use Rattle.states.specs.StateSets.{member}
use Rattle.table.proofs.Cursors.{items_beyond}
use Rattle.table.proofs.Steps.{Going, going_start, going_turn, next_admitted, step_next}
use Rattle.table.specs.Places.{Passed, advanced, bodies_at, body_at, items_before, items_below}
use Rattle.table.specs.Reading.{Stepped, counts_of}
use Rattle.table.specs.declared.Cursor.{Cursor}
use Rattle.std.proofs.Common.{ControlFlow, Continue, Break, None, Result, Ok, Err, IsErrAnd}
use Rattle.reading.proofs.Twins.{same_is}
use Rattle.reading.specs.Marks.{ItemChecked, ItemStepped, Marked, filter_length, has_twins, mark_of, with_mark}
use Rattle.std.specs.Prelude.{Result}
use Rattle.model.specs.declared.Refusal.{Refusal}
use Rattle.table.specs.declared.Table.{Table}

-- ---- marks
mark_below : (body : List ℕ) → mark_of body < 8 * filter_length
unfolding mark_of
mark_below body = by_test (ltb (length body) 8) (λ y. rw y (omega arith)) (λ n. rw n (omega arith))

-- ---- the filter of items
marked_start : {seen : List ℕ} → length seen ≡ filter_length → Marked [] seen
unfolding is_twin
marked_start h = record { size = h; each = λ k body e. absurd (false≢true (sym (and-false (has_twins k)) ∙ e)) }

module _ {items : List Item} {seen : List ℕ} (f : Marked items seen) where
  -- a body whose bit is not set was not seen
  pub unmarked : (k : ℕ) (body : List ℕ) → member seen (mark_of body) ≡ false → is_twin items k body ≡ false
  unmarked k body e = by_test (is_twin items k body) (λ y. absurd (true≢false (sym (f.each k body y) ∙ e))) (λ n. n)

  mark_room : (body : List ℕ) → mark_of body < 8 * length seen
  mark_room body = rw f.size (mark_below body)

  module _ (k : ℕ) (body : List ℕ) where
    abbrev item : Item
    item = record { kind = k; body = body }

    abbrev after : List ℕ
    after = with_mark seen k body

    length_after : length after ≡ length seen
    unfolding with_mark
    length_after = by_test (has_twins k) (λ y. rw y (length_inserted seen (mark_of body))) (λ n. rw n)

    -- a bit stays set, and that of the item is set
    kept : (m : ℕ) → member seen m ≡ true → member after m ≡ true
    unfolding with_mark
    kept m e = by_test (has_twins k)
        (λ y. rw (y, member_inserted seen (mark_of body) m (mark_room body)) (or_true_right (eqb m (mark_of body)) (member seen m) e))
        (λ n. rw n e)

    own : has_twins k ≡ true → member after (mark_of body) ≡ true
    unfolding with_mark
    own y = rw y (member_same seen (mark_of body) (mark_room body))

    -- what is now a twin was one before, or is one of the item
    of_item : (j : ℕ) (b : List ℕ) → has_twins j ≡ true → Memᴰ b (cond (eqb k j) (body ∷ []) []) → member after (mark_of b) ≡ true
    of_item j b a m = by_test (eqb k j)
        (λ y. ⊎_elim
        (λ q. ap (λ (l : List ℕ). member after (mark_of l)) q ∙ own (ap has_twins (eqb-true k j y) ∙ a))
        (λ q. absurd (mathlib.Core.List.Memᴰ.not-nil q))
        (mathlib.Core.List.Memᴰ.cases_cons (rw y at m)))
        (λ n. absurd (mathlib.Core.List.Memᴰ.not-nil (rw n at m)))

    later : (j : ℕ) (b : List ℕ) → is_twin (items ++ (item ∷ [])) j b ≡ true → member after (mark_of b) ≡ true
    unfolding is_twin
    later j b e =
        let asked : has_twins j ≡ true = and_left (has_twins j) _ e in
        let found = any_true (same_bytes b) (bodies j (items ++ (item ∷ []))) (and_right (has_twins j) _ e) in
        let is : found.0 ≡ b = sym (same_is b found.0 found.2) in
        let m : Memᴰ b (bodies j items ++ cond (eqb k j) (body ∷ []) []) = rw (is, bodies_more j items item) at found.1 in
        ⊎_elim
        (λ q. kept (mark_of b) (f.each j b (and_both (has_twins j) _ asked (any_of_lem (same_bytes b) (bodies j items) b q (rw is at found.2)))))
        (of_item j b asked)
        (mathlib.Core.List.Memᴰ.append_cases (bodies j items) m)

    marked_turn : Marked (items ++ (item ∷ [])) after
    marked_turn = record { size = length_after ∙ f.size; each = later }

-- ---- checks
-- the number of the first check that fails
pub refused_with : {A : Type 0} {checks : List Item → ℕ → List ℕ → ℕ} {items : List Item} {k n : ℕ} {body before after : List ℕ}
    → n ≡ checks items k body → 0 < n → ItemChecked {A = A} checks items k body (Err n) before after
refused_with e h = record { same = (e, h); filter = tt }

-- the same of a number that `?` hands on
pub refused_on : {A : Type 0} {checks : List Item → ℕ → List ℕ → ℕ} {items : List Item} {k n : ℕ} {body before after : List ℕ} (r : Result A ℕ)
    → IsErrAnd r (λ m. m ≡ n) → n ≡ checks items k body → 0 < n → ItemChecked {A = A} checks items k body r before after
refused_on (Ok x) i e h = absurd i
refused_on (Err m) i e h = refused_with (i ∙ e) (omega arith)

-- ---- steps
-- at the end of the reading the filter has served
pub marked_done : {bytes seen : List ℕ} {c : Cursor} {p : Result Table Refusal} → Stepped bytes c (Break p) → ItemStepped bytes c (Break p) seen
marked_done s = record { stepped = s; filter = λ d e. let z : ◌≡◌ {A = ℕ} 0 1 = cc in absurd (omega arith) }

-- an item that passes is in the filter of the items before the next cursor
module _ {bytes seen : List ℕ} {c : Cursor} (p : Passed bytes c) (f : Marked (items_before bytes c) seen) (inside : c.at < length bytes) where
  abbrev kind : ℕ
  kind = get_or bytes c.at 0

  abbrev whole : List ℕ
  whole = body_at bytes (body_length kind) c.at

  pub marked_next : {after : List ℕ} → refusal (items_before bytes c) kind whole ≡ 0 → after ≡ with_mark seen kind whole → (kind ≡ 8 → ⊥)
      → ItemStepped bytes c (Continue (advanced c kind (c.at + 1 + body_length kind))) after
  marked_next z h n = record {
    stepped = step_next bytes c p inside z n;
    filter = λ d e.
        let same : advanced c kind (c.at + 1 + body_length kind) ≡ d = cc in
        rw (h, ← same, ← (items_beyond bytes c kind p (next_admitted bytes c p inside z n))) (marked_turn f kind whole);
  }

-- ---- the loop over the items: what is read from the cursor on, and the filter of the items before it
pub record Filtering (bytes : List ℕ) (c : Cursor) (seen : List ℕ) : Type 0 where
  pub going : Going bytes c
  pub filter : Marked (items_before bytes c) seen

pub filtering_start : (bytes : List ℕ) (c : Cursor) {seen : List ℕ} → c ≡ record { at = 0; last = None; starts = 0; table = counts_of [] } → length seen ≡ filter_length → Filtering bytes c seen
unfolding items_below bodies_at
filtering_start bytes c e h = record { going = going_start bytes c e; filter = rw e (marked_start h) }

pub filtering_turn : {bytes : List ℕ} {c d : Cursor} {r : ControlFlow (Result Table Refusal) Cursor} {seen after : List ℕ} → Filtering bytes c seen → ItemStepped bytes c r after → r ≡ Continue d → Filtering bytes d after
filtering_turn {d = d} g s e = record { going = going_turn _ _ g.going d (s.stepped.next d e); filter = s.filter d e }
