-- What an accepted table is: its items stand at the places that its counts give, and each passed every check against all its processes and letters.
use mathlib.Core.Bool.{true, false, not, ◌&&◌, ◌||◌}
use mathlib.Core.List.{List, []}
use mathlib.Core.Path.{◌≡◌, refl, sym, ap, ap₂, ◌∙◌, subst}
use Prim.Native.Nat.{ℕ, zero, suc, ◌+◌, ◌*◌, ◌<◌, ◌≤◌}
use native.Mathlib.Decide.{ℕ_discrete}
use native.Mathlib.Omega.{arith}
use lib.Dec.{eqb, ltb, leb}
use lib.ListN.{length, get_or}
use borrow.Author.Tests.{eqb-false, leb-true, leb-false}
use Rattle.model.proofs.Tests.{by_test, by_zero, or_right}
use Rattle.model.specs.Tables.{Item, body_length, loc_of, rule_of, value_fits, cooperates, is_reentry, refusal, Reading, accepted, refused, read_from, read}
use Rattle.table.specs.Places.{body_at, bodies_at, offset, body_of, items_below, counts, counts_at, items_before, processes_in, letters_in, Modest, Passed}
use Rattle.std.specs.Prelude.{Ok}
use Rattle.model.specs.Calls.{refuse}
use Rattle.table.specs.Reading.{counts_of, parsed, Holds, items_of, items_in, out_of_turn, read_on, Stepped}
use Rattle.table.specs.Kinds.{last_number}
use Rattle.std.proofs.Common.{None}
use Rattle.table.specs.declared.Cursor.{Cursor}
use Rattle.std.proofs.Common.{Break}
use Rattle.table.specs.declared.Table.{Table}
use Rattle.table.proofs.Cursors.{modest_of, counts_before, turn_before, processes_before, letters_before, kind_place, count_other, count_same, Admitted, beyond}
use Rattle.table.proofs.Places.{offset_agrees}
use Rattle.table.proofs.Steps.{Clear, clear_of, step_end, step_refused, step_next, step_leftover, next_admitted, end_accepted, going_start}

-- ---- the checks 5, 6 and 7 of one item
pub record Fit (ps ls : List (List ℕ)) (k : ℕ) (body : List ℕ) : Type 0 where
  pub values : value_fits ps ls k body ≡ true
  pub stray : (eqb k 3 && not (cooperates (loc_of ls) (rule_of body))) ≡ false
  pub reentry : is_reentry ps ls k body ≡ false

-- every item before the cursor fits, against the processes and letters that stand there
abbrev pub AllFit : List ℕ → Cursor → Type 0
AllFit bytes c = (k j : ℕ) → k < 8 → j < counts_at c k → Fit (processes_in bytes c.table) (letters_in bytes c.table) k (body_of bytes (counts_at c) k j)

-- A body is judged by the processes and letters before it alone, so it fits against those of the whole table. The new item is of kind k, the judged one of kind j.
fit_later : (ps ls ps' ls' : List (List ℕ)) (k j : ℕ) (body : List ℕ) → j ≤ k → ((k ≡ 1 → ⊥) → ps ≡ ps') → ((k ≡ 1 → ⊥) → (k ≡ 2 → ⊥) → ls ≡ ls') → Fit ps ls j body → Fit ps' ls' j body
unfolding value_fits is_reentry
fit_later ps ls ps' ls' k zero body h e f x = record { values = refl; stray = refl; reentry = refl }
fit_later ps ls ps' ls' k (suc zero) body h e f x = record { values = x.values; stray = refl; reentry = refl }
fit_later ps ls ps' ls' k (suc (suc zero)) body h e f x = rw (← (e (λ q. omega arith))) (record { values = x.values; stray = refl; reentry = refl })
fit_later ps ls ps' ls' k (suc (suc (suc j))) body h e f x = rw (← (e (λ q. omega arith)), ← (f (λ q. omega arith) (λ q. omega arith))) x

module _ (bytes : List ℕ) (c : Cursor) (k : ℕ) (p : Passed bytes c) (a : Admitted bytes c k) where
  abbrev later : Cursor
  later = beyond bytes c k p a

  processes_later : (k ≡ 1 → ⊥) → processes_in bytes c.table ≡ processes_in bytes later.table
  processes_later h = ap (bodies_at bytes 2 0) (sym (count_other bytes c k p a 1 (λ e. h (sym e))))

  letters_later : (k ≡ 1 → ⊥) → (k ≡ 2 → ⊥) → letters_in bytes c.table ≡ letters_in bytes later.table
  letters_later h h' = ap₂ (λ (m l : ℕ). bodies_at bytes 1 (3 * m) l) (sym (count_other bytes c k p a 1 (λ e. h (sym e)))) (sym (count_other bytes c k p a 2 (λ e. h' (sym e))))

  -- items of kinds up to k stay where they are
  offset_later : (j : ℕ) → j ≤ k → offset (counts_at later) j ≡ offset (counts_at c) j
  offset_later j h = offset_agrees bytes (counts_at later) (counts_at c) j (λ i l. count_other bytes c k p a i (λ e. omega arith))

  body_later : (j i : ℕ) → j ≤ k → body_of bytes (counts_at c) j i ≡ body_of bytes (counts_at later) j i
  body_later j i h = ap (λ (o : ℕ). body_at bytes (body_length j) (o + i * (1 + body_length j))) (sym (offset_later j h))

  -- the new item
  body_new : body_at bytes (body_length k) c.at ≡ body_of bytes (counts_at c) k (counts_at c k)
  body_new = ap (body_at bytes (body_length k)) (sym (kind_place bytes c p k a.known a.turn))

  fit_at : (j i : ℕ) → j ≤ k → Fit (processes_in bytes c.table) (letters_in bytes c.table) j (body_of bytes (counts_at c) j i) → Fit (processes_in bytes later.table) (letters_in bytes later.table) j (body_of bytes (counts_at later) j i)
  fit_at j i h x = subst (Fit (processes_in bytes later.table) (letters_in bytes later.table) j) (body_later j i h)
      (fit_later (processes_in bytes c.table) (letters_in bytes c.table) (processes_in bytes later.table) (letters_in bytes later.table) k j (body_of bytes (counts_at c) j i) h processes_later letters_later x)

  new_fit : Clear (items_before bytes c) k (body_at bytes (body_length k) c.at) → Fit (processes_in bytes c.table) (letters_in bytes c.table) k (body_of bytes (counts_at c) k (counts_at c k))
  new_fit q = subst (Fit (processes_in bytes c.table) (letters_in bytes c.table) k) body_new
      (rw (← (processes_before bytes c), ← (letters_before bytes c)) (record { values = q.values; stray = q.stray; reentry = q.reentry }))

  pub fit_beyond : Clear (items_before bytes c) k (body_at bytes (body_length k) c.at) → AllFit bytes c → AllFit bytes later
  fit_beyond q f j i h l = elim (ℕ_discrete j k) [
    | yes e ↦ subst (λ (m : ℕ). i < counts_at later m → Fit (processes_in bytes later.table) (letters_in bytes later.table) m (body_of bytes (counts_at later) m i)) (sym e) same l
    | no n ↦ other n
  ]
    where
      same : i < counts_at later k → Fit (processes_in bytes later.table) (letters_in bytes later.table) k (body_of bytes (counts_at later) k i)
      same m =
          let s : i < counts_at c k + 1 = subst (λ (x : ℕ). i < x) (count_same bytes c k p a) m in
          fit_at k i (omega arith) (elim (ℕ_discrete i (counts_at c k)) [
            | yes e ↦ subst (λ (x : ℕ). Fit (processes_in bytes c.table) (letters_in bytes c.table) k (body_of bytes (counts_at c) k x)) (sym e) (new_fit q)
            | no n ↦ f k i a.known (omega arith)
          ])

      other : (j ≡ k → ⊥) → Fit (processes_in bytes later.table) (letters_in bytes later.table) j (body_of bytes (counts_at later) j i)
      other n =
          let s : i < counts_at c j = subst (λ (x : ℕ). i < x) (count_other bytes c k p a j n) l in
          by_test (leb j k)
          (λ y. fit_at j i (leb-true j k y) (f j i h s))
          (λ y. let z : counts_at c j ≡ 0 = p.above j (let b : k < j = leb-false j k y in omega (arith, a.turn)) in absurd (omega arith))

-- ---- the whole table
-- an accepted table with the counts t
pub record Layout (bytes : List ℕ) (t : Table) : Type 0 where
  pub items : items_in bytes ≡ items_below bytes (counts t 1) 8
  pub size : offset (counts t 1) 8 + 1 ≡ length bytes
  pub modest : Modest t
  pub fits : (k j : ℕ) → k < 8 → j < counts t 1 k → Fit (processes_in bytes t) (letters_in bytes t) k (body_of bytes (counts t 1) k j)

-- a cursor from which the reading comes to an accepted table
record Arrives (bytes : List ℕ) (result : List Item) : Type 0 where
  pub cursor : Cursor
  pub passed : Passed bytes cursor
  pub fits : AllFit bytes cursor
  pub start : cursor.starts ≡ 1
  pub end : cursor.at + 1 ≡ length bytes
  pub items : result ≡ items_before bytes cursor

-- kind 8 comes behind a start
start_of : (bytes : List ℕ) (c : Cursor) → Passed bytes c → out_of_turn c 8 ≡ false → c.starts ≡ 1
unfolding out_of_turn
start_of bytes c p e =
    let n : c.starts ≡ 0 → ⊥ = eqb-false c.starts 0 (or_right (ltb 8 (last_number c.last) || (eqb 8 6 && ltb 0 c.starts) || (eqb c.table.processes 0 && ltb 1 8)) (eqb c.starts 0) e) in
    let l : c.starts ≤ 1 = p.ceilings 6 in
    omega arith

-- a reading that is refused accepts nothing
clash : {C : Type 0} (bytes : List ℕ) (c : Cursor) (fuel : ℕ) (n q : ℕ) (result : List Item) → Stepped bytes c (Break (refuse n q)) → read_on bytes c (suc fuel) ≡ accepted result → C
clash bytes c fuel n q result s e =
    let r : parsed (read_on bytes c (suc fuel)) ≡ refuse n q = s.done (refuse n q) refl fuel in
    let a : Ok (counts_of result) ≡ refuse n q = sym (ap parsed e) ∙ r in
    let z : ◌≡◌ {A = ℕ} 0 1 = cc in absurd (omega arith)

module _ (bytes : List ℕ) (result : List Item) where
  abbrev Rest : ℕ → Type 0
  Rest fuel = (d : Cursor) → Passed bytes d → AllFit bytes d → read_on bytes d fuel ≡ accepted result → Arrives bytes result

  one_item : (fuel : ℕ) → Rest fuel → (c : Cursor) → Passed bytes c → AllFit bytes c → read_on bytes c (suc fuel) ≡ accepted result → c.at < length bytes → Arrives bytes result
  one_item fuel rest c p f e h = by_zero (refusal (items_before bytes c) k (body_at bytes (body_length k) c.at)) clear
      (λ n. clash bytes c fuel (refusal (items_before bytes c) k (body_at bytes (body_length k) c.at)) c.at result (step_refused bytes c p h (refusal (items_before bytes c) k (body_at bytes (body_length k) c.at)) refl (λ z. omega arith)) e)
    where
      k : ℕ
      k = get_or bytes c.at 0

      last_item : refusal (items_before bytes c) (get_or bytes c.at 0) (body_at bytes (body_length (get_or bytes c.at 0)) c.at) ≡ 0 → get_or bytes c.at 0 ≡ 8 → Arrives bytes result
      last_item z q = by_test (leb (length bytes) (c.at + 1))
          (λ y. record {
            cursor = c;
            passed = p;
            fits = f;
            start = start_of bytes c p (subst (λ (i : ℕ). out_of_turn c i ≡ false) q (sym (turn_before bytes c p (get_or bytes c.at 0)) ∙ (clear_of (items_before bytes c) (get_or bytes c.at 0) (body_at bytes (body_length (get_or bytes c.at 0)) c.at) z).turn));
            end = let l : length bytes ≤ c.at + 1 = leb-true _ _ y in omega arith;
            items = (let s : accepted result ≡ accepted (items_before bytes c) = sym e ∙ end_accepted bytes c p h z q (leb-true _ _ y) fuel in let t : result ≡ items_before bytes c = cc in t);
          })
          (λ y. clash bytes c fuel 9 (c.at + 1) result (step_leftover bytes c p h z q (leb-false _ _ y)) e)

      clear : refusal (items_before bytes c) (get_or bytes c.at 0) (body_at bytes (body_length (get_or bytes c.at 0)) c.at) ≡ 0 → Arrives bytes result
      clear z = elim (ℕ_discrete (get_or bytes c.at 0) 8) [
        | yes q ↦ last_item z q
        | no n ↦
            (let a = next_admitted bytes c p h z n in
            let o = (step_next bytes c p h z n).next (beyond bytes c (get_or bytes c.at 0) p a) refl in
            rest (beyond bytes c (get_or bytes c.at 0) p a) o.passed (fit_beyond bytes c (get_or bytes c.at 0) p a (clear_of (items_before bytes c) (get_or bytes c.at 0) (body_at bytes (body_length (get_or bytes c.at 0)) c.at) z) f) (sym (o.same fuel) ∙ e))
      ]

  no_fuel : (c : Cursor) → read_on bytes c 0 ≡ accepted result → ⊥
  unfolding read_from
  no_fuel c e = let z : ◌≡◌ {A = ℕ} 0 1 = cc in omega arith

  arrives : (fuel : ℕ) → Rest fuel
  arrives zero c p f e = absurd (no_fuel c e)
  arrives (suc fuel) c p f e = by_test (leb (length bytes) c.at)
      (λ y. clash bytes c fuel 1 c.at result (step_end bytes c (leb-true _ _ y)) e)
      (λ y. one_item fuel (arrives fuel) c p f e (leb-false _ _ y))

abbrev start : Cursor
start = record { at = 0; last = None; starts = 0; table = counts_of [] }

none_yet : (bytes : List ℕ) → Passed bytes start → AllFit bytes start
none_yet bytes p zero j h l = absurd (omega arith)
none_yet bytes p (suc k) j h l = let z : counts_at start (suc k) ≡ 0 = p.above (suc k) (omega arith) in absurd (omega arith)

layout_of : (bytes : List ℕ) (c : Cursor) → Passed bytes c → AllFit bytes c → c.starts ≡ 1 → c.at + 1 ≡ length bytes → items_in bytes ≡ items_before bytes c → Layout bytes c.table
layout_of bytes c p f s e i =
    record {
      items = subst (λ (m : ℕ). items_in bytes ≡ items_below bytes (counts c.table m) 8) s i;
      size = subst (λ (m : ℕ). offset (counts c.table m) 8 + 1 ≡ length bytes) s (ap (λ (x : ℕ). x + 1) (sym p.place) ∙ e);
      modest = modest_of bytes c p;
      fits = subst (λ (m : ℕ). (k j : ℕ) → k < 8 → j < counts c.table m k → Fit (processes_in bytes c.table) (letters_in bytes c.table) k (body_of bytes (counts c.table m) k j)) s f;
    }

pub layout : (bytes : List ℕ) (t : Table) → Holds bytes t → Layout bytes t
unfolding items_in
layout bytes t h = go (read bytes) refl h.reading
  where
    go : (r : Reading) → read bytes ≡ r → parsed r ≡ Ok t → Layout bytes t
    go (accepted items) e q =
        let g = going_start bytes start refl in
        let a = arrives bytes items g.fuel start g.passed (none_yet bytes g.passed) (sym g.same ∙ e) in
        let same : counts_of items ≡ t = cc in
        subst (Layout bytes) (sym (counts_before bytes a.cursor) ∙ sym (ap counts_of a.items) ∙ same)
        (layout_of bytes a.cursor a.passed a.fits a.start a.end (ap items_of e ∙ a.items))
    go (refused number place) e q = let z : ◌≡◌ {A = ℕ} 0 1 = cc in absurd (omega arith)
