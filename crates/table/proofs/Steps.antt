-- One item: what the checks that it passed say, and how the reading goes on.
use mathlib.Core.Bool.{Bool, true, false, cond, not, ◌&&◌, ◌||◌}
use mathlib.Core.List.{List, [], ◌∷◌, ◌++◌}
use mathlib.Core.Path.{◌≡◌, refl, sym, ap, ◌∙◌, subst}
use Prim.Native.Nat.{ℕ, zero, suc, ◌+◌, ◌-◌, ◌<◌, ◌≤◌, min}
use native.Mathlib.Numerals.{add-one}
use native.Mathlib.Omega.{arith}
use lib.Dec.{eqb, ltb, leb}
use lib.ListN.{length, get_or, drop, replicate, length-take, length-drop, drop_of_length-le}
use lib.Seq.{drop-cons, drop-drop}
use borrow.Author.Tests.{not-false, eq-eqb, ne_eqb, eqb-false, ltb-false, lt-ltb, le-ltb, leb-true, leb-false}
use Rattle.model.proofs.Tests.{by_test, or_left, or_right}
use Rattle.model.specs.Tables.{Item, body_length, ceiling, bodies, count, loc_of, rule_of, is_stranger, is_out_of_turn, value_fits, cooperates, is_reentry, refusal, Reading, accepted, ending, unless_refused, read_from, read}
use Rattle.table.specs.Places.{body_at, bodies_at, offset, items_below, counts_at, items_before, advanced, Whole, Passed}
use Rattle.table.specs.Reading.{counts_of, parsed, out_of_turn, body_refusal, read_on, Onward, Stepped}
use Rattle.table.specs.Kinds.{last_number}
use Rattle.std.proofs.Common.{None}
use Rattle.table.specs.declared.Cursor.{Cursor}
use Rattle.std.proofs.Common.{Continue, Break}
use Rattle.std.specs.Prelude.{Result, Ok}
use Rattle.table.specs.declared.Table.{Table}
use Rattle.model.specs.Calls.{refuse}
use Rattle.model.specs.declared.Refusal.{Refusal}
use Rattle.table.proofs.Bodies.{body_length_lem}
use Rattle.table.proofs.Cursors.{count_before, count_known, counts_before, turn_before, heads_of, Admitted, items_beyond, passed_beyond}

-- ---- the checks that an item passed
pub record Clear (items : List Item) (k : ℕ) (body : List ℕ) : Type 0 where
  pub stranger : is_stranger k ≡ false
  pub turn : is_out_of_turn items k ≡ false
  pub room : leb (ceiling k) (count k items) ≡ false
  pub whole : ltb (length body) (body_length k) ≡ false
  pub values : value_fits (bodies 1 items) (bodies 2 items) k body ≡ true
  pub stray : (eqb k 3 && not (cooperates (loc_of (bodies 2 items)) (rule_of body))) ≡ false
  pub reentry : is_reentry (bodies 1 items) (bodies 2 items) k body ≡ false

-- a check that did not pass gives a number above 0
no_refusal : (a : Bool) (n m : ℕ) → cond a (suc n) m ≡ 0 → (a ≡ false) × (m ≡ 0)
no_refusal true n m e = absurd (omega arith)
no_refusal false n m e = (refl, e)

pub clear_of : (items : List Item) (k : ℕ) (body : List ℕ) → refusal items k body ≡ 0 → Clear items k body
unfolding refusal
clear_of items k body e =
    let a = no_refusal (is_stranger k) 1 _ e in
    let b = no_refusal (is_out_of_turn items k) 2 _ a.1 in
    let c = no_refusal (leb (ceiling k) (count k items)) 3 _ b.1 in
    let d = no_refusal (ltb (length body) (body_length k)) 0 _ c.1 in
    let f = no_refusal (not (value_fits (bodies 1 items) (bodies 2 items) k body)) 4 _ d.1 in
    let g = no_refusal (eqb k 3 && not (cooperates (loc_of (bodies 2 items)) (rule_of body))) 5 _ f.1 in
    let h = no_refusal (is_reentry (bodies 1 items) (bodies 2 items) k body) 6 _ g.1 in
    record { stranger = a.0; turn = b.0; room = c.0; whole = d.0; values = not-false _ f.0; stray = g.0; reentry = h.0 }

-- the checks 3, 4 and 1 in a row, with the number m behind them
abbrev early : Bool → Bool → Bool → ℕ → ℕ
early a b c m = cond a 3 (cond b 4 (cond c 1 m))

early_found : (a b c : Bool) (m n : ℕ) → n ≡ early a b c 0 → (n ≡ 0 → ⊥) → n ≡ early a b c m
early_found true b c m n e h = e
early_found false true c m n e h = e
early_found false false true m n e h = e
early_found false false false m n e h = absurd (h e)

early_passed : (a b c : Bool) → early a b c 0 ≡ 0 → (a ≡ false) × (b ≡ false) × (c ≡ false)
early_passed true b c e = absurd (omega arith)
early_passed false true c e = absurd (omega arith)
early_passed false false true e = absurd (omega arith)
early_passed false false false e = (refl, refl, refl)

-- a kind of item
pub kind_of_lem : (k : ℕ) → is_stranger k ≡ false → (0 < k) × (k < 9)
kind_of_lem k e =
    let n : k ≡ 0 → ⊥ = eqb-false k 0 (or_left (eqb k 0) (ltb 8 k) e) in
    let l : k ≤ 8 = ltb-false 8 k (or_right (eqb k 0) (ltb 8 k) e) in
    (omega arith, omega arith)

-- the kind does not fall
pub turn_of : (c : Cursor) (k : ℕ) → out_of_turn c k ≡ false → last_number c.last ≤ k
unfolding out_of_turn
turn_of c k e =
    ltb-false k (last_number c.last)
    (or_left (ltb k (last_number c.last)) (eqb k 6 && ltb 0 c.starts)
    (or_left (ltb k (last_number c.last) || (eqb k 6 && ltb 0 c.starts)) (eqb c.table.processes 0 && ltb 1 k)
    (or_left (ltb k (last_number c.last) || (eqb k 6 && ltb 0 c.starts) || (eqb c.table.processes 0 && ltb 1 k)) (ltb 6 k && eqb c.starts 0) e)))

-- the length of a body that may be cut
pub cut_length : (bytes : List ℕ) (size place : ℕ) → length (body_at bytes size place) ≡ min size (length bytes - (place + 1))
cut_length bytes size place = simp (length-take, length-drop)

-- check 1 by the bytes that are left
cut_test : (bytes : List ℕ) (size place : ℕ) → place < length bytes → ltb (length (body_at bytes size place)) size ≡ leb (length bytes - place) size
cut_test bytes size place h = by_test (leb (length bytes - place) size)
    (λ y. let l : length bytes - place ≤ size = leb-true _ _ y in lt-ltb (length (body_at bytes size place)) size (omega (arith, cut_length bytes size place)) ∙ sym y)
    (λ y. let l : size < length bytes - place = leb-false _ _ y in le-ltb (length (body_at bytes size place)) size (omega (arith, cut_length bytes size place)) ∙ sym y)

-- an item that passed the checks 2, 3, 4 and 1
pub record Early (bytes : List ℕ) (c : Cursor) (k : ℕ) : Type 0 where
  pub turn : last_number c.last ≤ k
  pub inside : c.at + 1 + body_length k ≤ length bytes
  pub whole : Whole bytes c.table k (body_at bytes (body_length k) c.at)
  pub same : body_refusal (items_before bytes c) k (body_at bytes (body_length k) c.at) ≡ refusal (items_before bytes c) k (body_at bytes (body_length k) c.at)

module _ (bytes : List ℕ) (c : Cursor) (k : ℕ) (p : Passed bytes c) (inside : c.at < length bytes) (s : is_stranger k ≡ false) where
  -- all checks behind the first
  refusal_known : refusal (items_before bytes c) k (body_at bytes (body_length k) c.at) ≡
      early (out_of_turn c k) (leb (ceiling k) (counts_at c k)) (leb (length bytes - c.at) (body_length k)) (body_refusal (items_before bytes c) k (body_at bytes (body_length k) c.at))
  unfolding refusal body_refusal
  refusal_known = rw (s, turn_before bytes c p k, count_known bytes c k (kind_of_lem k s).1, cut_test bytes (body_length k) c.at inside)

  pub early_refused : (n : ℕ) → n ≡ early (out_of_turn c k) (leb (ceiling k) (counts_at c k)) (leb (length bytes - c.at) (body_length k)) 0 → (n ≡ 0 → ⊥) → n ≡ refusal (items_before bytes c) k (body_at bytes (body_length k) c.at)
  early_refused n e h = early_found (out_of_turn c k) (leb (ceiling k) (counts_at c k)) (leb (length bytes - c.at) (body_length k)) _ n e h ∙ sym refusal_known

  pub early_of : early (out_of_turn c k) (leb (ceiling k) (counts_at c k)) (leb (length bytes - c.at) (body_length k)) 0 ≡ 0 → Early bytes c k
  early_of e =
      let q = early_passed (out_of_turn c k) (leb (ceiling k) (counts_at c k)) (leb (length bytes - c.at) (body_length k)) e in
      let i : c.at + 1 + body_length k ≤ length bytes = omega (arith, leb-false (length bytes - c.at) (body_length k) q.2) in
      record {
        turn = turn_of c k q.0;
        inside = i;
        whole = record { heads = heads_of bytes c p; some = (kind_of_lem k s).0; known = (kind_of_lem k s).1; size = body_length_lem bytes (body_length k) c.at i };
        same = sym (refusal_known ∙ rw (q.0, q.1, q.2));
      }

-- ---- how an item ends the reading
done_with : (bytes : List ℕ) (c : Cursor) (p : Result Table Refusal) → ((fuel : ℕ) → parsed (read_on bytes c (suc fuel)) ≡ p) → Stepped bytes c (Break p)
done_with bytes c p f = record { next = λ d e. let z : ◌≡◌ {A = ℕ} 0 1 = cc in absurd (omega arith); done = λ q e fuel. f fuel ∙ (let s : p ≡ q = cc in s) }

next_with : (bytes : List ℕ) (c d : Cursor) → Onward bytes c d → Stepped bytes c (Continue d)
next_with bytes c d o = record {
  next = λ d' e. subst (Onward bytes c) (let s : d ≡ d' = cc in s) o;
  done = λ q e fuel. let z : ◌≡◌ {A = ℕ} 0 1 = cc in absurd (omega arith);
}

-- the file ends before kind 8
pub step_end : (bytes : List ℕ) (c : Cursor) → length bytes ≤ c.at → Stepped bytes c (Break (refuse 1 c.at))
unfolding read_from
step_end bytes c h = done_with bytes c (refuse 1 c.at) (λ fuel. ap (λ (l : List ℕ). parsed (read_from (suc fuel) (items_before bytes c) l c.at)) (drop_of_length-le bytes {i = c.at} h))

module _ (bytes : List ℕ) (c : Cursor) (p : Passed bytes c) (inside : c.at < length bytes) where
  abbrev kind : ℕ
  kind = get_or bytes c.at 0

  abbrev body : List ℕ
  body = body_at bytes (body_length kind) c.at

  abbrev number : ℕ
  number = refusal (items_before bytes c) kind body

  -- what is read if the item passes
  abbrev behind : ℕ → Reading
  behind fuel =
      cond (eqb kind 8) (ending (items_before bytes c) (drop (c.at + 1) bytes) (c.at + 1))
      (read_from fuel (items_before bytes c ++ (record { kind = kind; body = body } ∷ [])) (drop (body_length kind) (drop (c.at + 1) bytes)) (c.at + 1 + body_length kind))

  read_item : (fuel : ℕ) → read_on bytes c (suc fuel) ≡ unless_refused number c.at (behind fuel)
  unfolding read_from
  read_item fuel = ap (λ (l : List ℕ). read_from (suc fuel) (items_before bytes c) l c.at) (drop-cons bytes c.at 0 inside ∙ ap (λ (i : ℕ). kind ∷ drop i bytes) (sym (add-one c.at)))

  -- a check that the item does not pass
  unless_parsed : (n place : ℕ) (r : Reading) → (n ≡ 0 → ⊥) → parsed (unless_refused n place r) ≡ refuse n place
  unless_parsed zero place r h = absurd (h refl)
  unless_parsed (suc n) place r h = refl

  pub step_refused : (r : ℕ) → r ≡ number → (r ≡ 0 → ⊥) → Stepped bytes c (Break (refuse r c.at))
  step_refused r e h = done_with bytes c (refuse r c.at) (λ fuel. ap parsed (read_item fuel) ∙ unless_parsed number c.at (behind fuel) (λ z. h (e ∙ z)) ∙ ap (λ (i : ℕ). refuse i c.at) (sym e))

  passing : number ≡ 0 → (fuel : ℕ) → read_on bytes c (suc fuel) ≡ behind fuel
  passing z fuel = read_item fuel ∙ ap (λ (n : ℕ). unless_refused n c.at (behind fuel)) z

  -- one item more
  pub next_admitted : number ≡ 0 → (kind ≡ 8 → ⊥) → Admitted bytes c kind
  next_admitted z h =
      let q = clear_of (items_before bytes c) kind body z in
      let l : kind < 9 = (kind_of_lem kind q.stranger).1 in
      let whole : body_length kind ≤ length body = ltb-false _ _ q.whole in
      let room : count kind (items_before bytes c) < ceiling kind = leb-false _ _ q.room in
      record {
        some = (kind_of_lem kind q.stranger).0;
        known = omega arith;
        turn = turn_of c kind (sym (turn_before bytes c p kind) ∙ q.turn);
        room = omega (arith, count_before bytes c kind (omega arith));
        whole = omega (arith, cut_length bytes (body_length kind) c.at);
      }

  pub step_next : number ≡ 0 → (kind ≡ 8 → ⊥) → Stepped bytes c (Continue (advanced c kind (c.at + 1 + body_length kind)))
  unfolding advanced
  step_next z h =
      let a = next_admitted z h in
      next_with bytes c (advanced c kind (c.at + 1 + body_length kind)) (record {
        passed = passed_beyond bytes c kind p a;
        ahead = omega arith;
        same = λ fuel. passing z fuel ∙ rw (ne_eqb kind 8 h, items_beyond bytes c kind p a, drop-drop (body_length kind) (c.at + 1) bytes);
      })

  -- bytes behind kind 8
  pub step_leftover : number ≡ 0 → kind ≡ 8 → c.at + 1 < length bytes → Stepped bytes c (Break (refuse 9 (c.at + 1)))
  step_leftover z e h = done_with bytes c (refuse 9 (c.at + 1)) (λ fuel. ap parsed (passing z fuel) ∙ rw (eq-eqb kind 8 e, drop-cons bytes (c.at + 1) 0 h))

  -- nothing behind kind 8
  pub end_accepted : number ≡ 0 → kind ≡ 8 → length bytes ≤ c.at + 1 → (fuel : ℕ) → read_on bytes c (suc fuel) ≡ accepted (items_before bytes c)
  end_accepted z e h fuel = passing z fuel ∙ rw (eq-eqb kind 8 e, drop_of_length-le bytes {i = c.at + 1} h)

  pub step_accepted : number ≡ 0 → kind ≡ 8 → length bytes ≤ c.at + 1 → Stepped bytes c (Break (Ok c.table))
  step_accepted z e h = done_with bytes c (Ok c.table) (λ fuel. ap parsed (end_accepted z e h fuel) ∙ ap Ok (counts_before bytes c))

-- ---- the loop over the items: any fuel above the number of bytes left serves
pub record Going (bytes : List ℕ) (c : Cursor) : Type 0 where
  pub passed : Passed bytes c
  pub fuel : ℕ
  pub enough : length bytes - c.at < fuel
  pub same : read bytes ≡ read_on bytes c fuel

pub going_start : (bytes : List ℕ) (c : Cursor) → c ≡ record { at = 0; last = None; starts = 0; table = counts_of [] } → Going bytes c
unfolding read items_below bodies_at offset
going_start bytes c e = rw e (record {
  passed = record { place = refl; within = omega arith; last = refl; above = λ k h. zeros 9 k; ceilings = λ k. rw (zeros 9 k) (omega arith) };
  fuel = length bytes + 1;
  enough = omega arith;
  same = refl;
})
  where
    zeros : (n k : ℕ) → ◌≡◌ {A = ℕ} (get_or (replicate n 0) k 0) 0
    zeros zero k = refl
    zeros (suc n) zero = refl
    zeros (suc n) (suc k) = zeros n k

module _ (bytes : List ℕ) (c : Cursor) (g : Going bytes c) where
  spent : g.fuel ≡ suc (g.fuel - 1)
  spent = omega (arith, g.enough)

  same_spent : read bytes ≡ read_on bytes c (suc (g.fuel - 1))
  same_spent = g.same ∙ ap (read_on bytes c) spent

  pub going_turn : (d : Cursor) → Onward bytes c d → Going bytes d
  going_turn d o = record { passed = o.passed; fuel = g.fuel - 1; enough = omega (arith, g.enough, o.ahead, o.passed.within); same = same_spent ∙ o.same (g.fuel - 1) }

  pub going_end : (p : Result Table Refusal) → ((fuel : ℕ) → parsed (read_on bytes c (suc fuel)) ≡ p) → p ≡ parsed (read bytes)
  going_end p f = sym (ap parsed same_spent ∙ f (g.fuel - 1))
