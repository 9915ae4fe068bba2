-- Laws of a cursor: what its counts say of the items before it, and the cursor behind one item more.
use mathlib.Core.Bool.{cond}
use mathlib.Core.List.{List, [], ◌∷◌, ◌++◌}
use mathlib.Core.Path.{◌≡◌, refl, sym, ap, ◌∙◌}
use Prim.Native.Nat.{ℕ, zero, suc, ◌+◌, ◌*◌, ◌<◌, ◌≤◌}
use native.Mathlib.Decide.{ℕ_discrete}
use native.Mathlib.Omega.{arith}
use lib.Dec.{eqb}
use lib.ListN.{length}
use borrow.Author.Tests.{eq-eqb, ne_eqb}
use Rattle.model.specs.Tables.{body_length, ceiling, bodies, count, is_out_of_turn}
use Rattle.table.specs.Places.{body_at, bodies_at, offset, counts_at, items_before, processes_in, letters_in, Modest, advanced, Heads, Passed}
use Rattle.table.specs.Reading.{counts_of, out_of_turn}
use Rattle.table.specs.Kinds.{kind_of, last_number}
use Rattle.table.specs.declared.Cursor.{Cursor}
use Rattle.table.proofs.Bodies.{bodies_length}
use Rattle.table.proofs.Places.{bodies_above, bodies_below, offset_snoc, items_snoc, offset_still, first_item, second_item}
use Rattle.model.proofs.CheckedItems.{last_kind_snoc}

-- ---- places by counts
module _ (bytes : List ℕ) (c : Cursor) where
  heads_place : 3 * c.table.processes + 2 * c.table.letters ≤ offset (counts_at c) 8
  unfolding offset
  heads_place = omega arith

  -- ---- bodies
  pub processes_before : bodies 1 (items_before bytes c) ≡ processes_in bytes c.table
  processes_before = bodies_below bytes (counts_at c) 1 8 (omega arith) ∙ ap (λ (p : ℕ). bodies_at bytes 2 p c.table.processes) (first_item c.table c.starts)

  pub letters_before : bodies 2 (items_before bytes c) ≡ letters_in bytes c.table
  letters_before = bodies_below bytes (counts_at c) 2 8 (omega arith) ∙ ap (λ (p : ℕ). bodies_at bytes 1 p c.table.letters) (second_item c.table c.starts)

  pub count_before : (k : ℕ) → k < 8 → count k (items_before bytes c) ≡ counts_at c k
  count_before k h = ap length (bodies_below bytes (counts_at c) k 8 h) ∙ bodies_length bytes (body_length k) (offset (counts_at c) k) (counts_at c k)

  -- no end before the end
  pub count_known : (k : ℕ) → k < 9 → count k (items_before bytes c) ≡ counts_at c k
  count_known k h = elim (ℕ_discrete k 8) [
    | yes e ↦ rw (e, bodies_above bytes (counts_at c) 8 8 (omega arith)) refl
    | no n ↦ count_before k (omega arith)
  ]

  pub counts_before : counts_of (items_before bytes c) ≡ c.table
  counts_before = λ i. record {
    processes = count_before 1 (omega arith) i;
    letters = count_before 2 (omega arith) i;
    rules = count_before 3 (omega arith) i;
    transitions = count_before 4 (omega arith) i;
    accepting = count_before 5 (omega arith) i;
    pile = count_before 7 (omega arith) i;
  }

  pub modest_of : Passed bytes c → Modest c.table
  modest_of p = record { processes = p.ceilings 1; letters = p.ceilings 2; rules = p.ceilings 3; transitions = p.ceilings 4; accepting = p.ceilings 5; pile = p.ceilings 7 }

  pub heads_of : Passed bytes c → Heads bytes c.table
  heads_of p = record { processes = p.ceilings 1; letters = p.ceilings 2; inside = omega (arith, heads_place, p.place, p.within) }

  -- check 3
  pub turn_before : Passed bytes c → (k : ℕ) → is_out_of_turn (items_before bytes c) k ≡ out_of_turn c k
  unfolding is_out_of_turn out_of_turn
  turn_before p k = rw (p.last, count_before 1 (omega arith), count_before 6 (omega arith))

  -- the items of the cursor's kind stand right before it
  pub kind_place : Passed bytes c → (k : ℕ) → k < 8 → last_number c.last ≤ k → offset (counts_at c) k + counts_at c k * (1 + body_length k) ≡ c.at
  kind_place p k h l = sym (p.place ∙ offset_still (counts_at c) k 8 h (λ j m. p.above j (omega arith)))

-- ---- the cursor behind one item more
number_kind : (k : ℕ) → 0 < k → k < 8 → last_number (kind_of k) ≡ k
number_kind zero h l = absurd (omega arith)
number_kind (suc zero) h l = refl
number_kind (suc (suc zero)) h l = refl
number_kind (suc (suc (suc zero))) h l = refl
number_kind (suc (suc (suc (suc zero)))) h l = refl
number_kind (suc (suc (suc (suc (suc zero))))) h l = refl
number_kind (suc (suc (suc (suc (suc (suc zero)))))) h l = refl
number_kind (suc (suc (suc (suc (suc (suc (suc zero))))))) h l = refl
number_kind (suc (suc (suc (suc (suc (suc (suc (suc k)))))))) h l = absurd (omega arith)

module _ (c : Cursor) (k next : ℕ) (h : 0 < k) (l : k < 8) where
  count_advanced : (j : ℕ) → counts_at (advanced c k next) j ≡ counts_at c j + cond (eqb k j) 1 0
  unfolding advanced
  count_advanced zero = rw (ne_eqb k 0 (λ e. omega arith))
  count_advanced (suc zero) = refl
  count_advanced (suc (suc zero)) = refl
  count_advanced (suc (suc (suc zero))) = refl
  count_advanced (suc (suc (suc (suc zero)))) = refl
  count_advanced (suc (suc (suc (suc (suc zero))))) = refl
  count_advanced (suc (suc (suc (suc (suc (suc zero)))))) = refl
  count_advanced (suc (suc (suc (suc (suc (suc (suc zero))))))) = refl
  count_advanced (suc (suc (suc (suc (suc (suc (suc (suc zero)))))))) = rw (ne_eqb k 8 (λ e. omega arith))
  count_advanced (suc (suc (suc (suc (suc (suc (suc (suc (suc j))))))))) = rw (ne_eqb k (suc (suc (suc (suc (suc (suc (suc (suc (suc j))))))))) (λ e. omega arith))

-- an item that is in turn, below its ceiling and whole
pub record Admitted (bytes : List ℕ) (c : Cursor) (k : ℕ) : Type 0 where
  pub some : 0 < k
  pub known : k < 8
  pub turn : last_number c.last ≤ k
  pub room : counts_at c k < ceiling k
  pub whole : c.at + 1 + body_length k ≤ length bytes

module _ (bytes : List ℕ) (c : Cursor) (k : ℕ) (p : Passed bytes c) (a : Admitted bytes c k) where
  abbrev pub beyond : Cursor
  beyond = advanced c k (c.at + 1 + body_length k)

  above_kind : (j : ℕ) → k < j → counts_at c j ≡ 0
  above_kind j h = p.above j (omega (arith, a.turn))

  pub count_other : (j : ℕ) → (j ≡ k → ⊥) → counts_at beyond j ≡ counts_at c j
  count_other j n = count_advanced c k (c.at + 1 + body_length k) a.some a.known j ∙ rw (ne_eqb k j (λ e. n (sym e))) (omega arith)

  pub count_same : counts_at beyond k ≡ counts_at c k + 1
  count_same = count_advanced c k (c.at + 1 + body_length k) a.some a.known k ∙ rw (eq-eqb k k refl)

  pub items_beyond : items_before bytes c ++ (record { kind = k; body = body_at bytes (body_length k) c.at } ∷ []) ≡ items_before bytes beyond
  items_beyond =
      ap (λ (q : ℕ). items_before bytes c ++ (record { kind = k; body = body_at bytes (body_length k) q } ∷ [])) p.place
      ∙ items_snoc bytes (counts_at c) (counts_at beyond) k count_same count_other 8 (omega (arith, a.known)) above_kind

  pub passed_beyond : Passed bytes beyond
  unfolding advanced
  passed_beyond = record {
    place = ap (λ (q : ℕ). q + 1 + body_length k) p.place ∙ sym (offset_snoc bytes (counts_at c) (counts_at beyond) k count_same count_other 8 (omega (arith, a.known)) above_kind);
    within = a.whole;
    last = rw (← items_beyond) (last_kind_snoc (items_before bytes c) (record { kind = k; body = body_at bytes (body_length k) c.at })) ∙ sym (number_kind k a.some a.known);
    above = λ j h. let above : k < j = rw (number_kind k a.some a.known) at h in count_other j (λ e. omega arith) ∙ above_kind j above;
    ceilings = λ j. elim (ℕ_discrete j k) [
      | yes e ↦ rw (e, count_same) (omega (arith, a.room))
      | no n ↦ rw (count_other j n) (p.ceilings j)
    ];
  }
