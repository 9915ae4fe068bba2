-- The items of an accepted table were read one after the other, each past its checks, and what a check shows of an item holds in the whole table.
use mathlib.Core.Path.{◌∙◌, ◌≡◌, refl, subst}
use mathlib.Core.Bool.{Bool, ◌&&◌, cond, false, not, true, true≢false}
use mathlib.Core.Logic.{◌⊎◌, inl, inr, ⊎_elim}
use mathlib.Core.List.{List, [], ◌++◌, ◌∷◌, append-nil}
use Prim.Native.Nat.{◌+◌, ◌<◌, ◌≤◌, suc, zero, zero-le, ℕ}
use native.Mathlib.Omega.{arith}
use native.Mathlib.Nat.{le_refl}
use lib.Dec.{eqb, leb, ltb}
use lib.ListN.{drop, length, length-append, take}
use borrow.Author.Tests.{eq-eqb, eqb-true, leb-false, ltb-false, ne_eqb, not-false}
use Rattle.model.specs.Lists.{Each}
use Rattle.model.specs.Tables.{Item, Reading, accepted, bodies, body_length, ceiling, cooperates, count, ending, is_out_of_turn, is_reentry, is_stranger, is_twin, last_kind, loc_of, read, read_from, refusal, rule_of, unless_refused, value_fits}
use Rattle.model.proofs.Lists.{each_append, each_map}
use Rattle.model.proofs.Tests.{by_test}

pub last_kind_snoc : (xs : List Item) (x : Item) → last_kind (xs ++ (x ∷ [])) ≡ x.kind
last_kind_snoc [] x = refl
last_kind_snoc (y ∷ []) x = refl
last_kind_snoc (y ∷ z ∷ xs) x = last_kind_snoc (z ∷ xs) x

-- the checks of refusal 2 to 8, none of which holds
pub record Passes (items : List Item) (k : ℕ) (body : List ℕ) : Type 0 where
  pub kind : is_stranger k ≡ false
  pub turn : is_out_of_turn items k ≡ false
  pub room : count k items < ceiling k
  pub whole : body_length k ≤ length body
  pub fits : value_fits (bodies 1 items) (bodies 2 items) k body ≡ true
  pub cooperative : (eqb k 3 && not (cooperates (loc_of (bodies 2 items)) (rule_of body))) ≡ false
  pub leaving : is_reentry (bodies 1 items) (bodies 2 items) k body ≡ false
  pub single : is_twin items k body ≡ false

record AllFalse (a b c d e f g h : Bool) : Type 0 where
  pub t2 : a ≡ false
  pub t3 : b ≡ false
  pub t4 : c ≡ false
  pub t1 : d ≡ false
  pub t5 : e ≡ false
  pub t6 : f ≡ false
  pub t7 : g ≡ false
  pub t8 : h ≡ false

all_false : (a b c d e f g h : Bool) → ◌≡◌ {A = ℕ} (cond a 2 (cond b 3 (cond c 4 (cond d 1 (cond e 5 (cond f 6 (cond g 7 (cond h 8 0)))))))) 0 → AllFalse a b c d e f g h
all_false true b c d e f g h z = absurd (omega arith)
all_false false true c d e f g h z = absurd (omega arith)
all_false false false true d e f g h z = absurd (omega arith)
all_false false false false true e f g h z = absurd (omega arith)
all_false false false false false true f g h z = absurd (omega arith)
all_false false false false false false true g h z = absurd (omega arith)
all_false false false false false false false true h z = absurd (omega arith)
all_false false false false false false false false true z = absurd (omega arith)
all_false false false false false false false false false z = record { t2 = refl; t3 = refl; t4 = refl; t1 = refl; t5 = refl; t6 = refl; t7 = refl; t8 = refl }

pub passes : (items : List Item) (k : ℕ) (body : List ℕ) → refusal items k body ≡ 0 → Passes items k body
unfolding refusal
passes items k body z =
    let p = all_false (is_stranger k) (is_out_of_turn items k) (leb (ceiling k) (count k items)) (ltb (length body) (body_length k)) (not (value_fits (bodies 1 items) (bodies 2 items) k body))
    (eqb k 3 && not (cooperates (loc_of (bodies 2 items)) (rule_of body))) (is_reentry (bodies 1 items) (bodies 2 items) k body) (is_twin items k body) z in
    record {
      kind = p.t2;
      turn = p.t3;
      room = leb-false (ceiling k) (count k items) p.t4;
      whole = ltb-false (length body) (body_length k) p.t1;
      fits = not-false (value_fits (bodies 1 items) (bodies 2 items) k body) p.t5;
      cooperative = p.t6;
      leaving = p.t7;
      single = p.t8;
    }

-- ---- items that were read one after the other, each past its checks
pub data Checked : List Item → Type 0 where
  none_yet : Checked []
  one_more : {items : List Item} (x : Item) → Checked items → Passes items x.kind x.body → Checked (items ++ (x ∷ []))

pub record Complete (items : List Item) : Type 0 where
  pub checked : Checked items
  pub end : List ℕ
  pub ended : Passes items 8 end

unless_accepted : (n place : ℕ) (reading : Reading) (items : List Item) → unless_refused n place reading ≡ accepted items → (n ≡ 0) × (reading ≡ accepted items)
unless_accepted zero place reading items e = (refl, e)
unless_accepted (suc n) place reading items e = absurd (let z : ◌≡◌ {A = ℕ} 0 1 = cc in omega arith)

ending_accepted : (items : List Item) (rest : List ℕ) (place : ℕ) (out : List Item) → ending items rest place ≡ accepted out → items ≡ out
ending_accepted items [] place out e = cc
ending_accepted items (x ∷ rest) place out e = absurd (let z : ◌≡◌ {A = ℕ} 0 1 = cc in omega arith)

read_from_complete : (fuel : ℕ) (items : List Item) (rest : List ℕ) (place : ℕ) (out : List Item) → read_from fuel items rest place ≡ accepted out → Checked items → Complete out
unfolding read_from
read_from_complete zero items rest place out e c = absurd (let z : ◌≡◌ {A = ℕ} 0 1 = cc in omega arith)
read_from_complete (suc fuel) items [] place out e c = absurd (let z : ◌≡◌ {A = ℕ} 0 1 = cc in omega arith)
read_from_complete (suc fuel) items (k ∷ rest) place out e c =
    item (λ d e'. read_from_complete fuel (items ++ (record { kind = k; body = take (body_length k) rest } ∷ [])) (drop (body_length k) rest) (place + 1 + body_length k) out e' d)
    (unless_accepted (refusal items k (take (body_length k) rest)) place next out e)
  where
    next : Reading
    next = cond (eqb k 8) (ending items rest (place + 1)) (read_from fuel (items ++ (record { kind = k; body = take (body_length k) rest } ∷ [])) (drop (body_length k) rest) (place + 1 + body_length k))

    item : (Checked (items ++ (record { kind = k; body = take (body_length k) rest } ∷ [])) → read_from fuel (items ++ (record { kind = k; body = take (body_length k) rest } ∷ [])) (drop (body_length k) rest) (place + 1 + body_length k) ≡ accepted out → Complete out)
        → (refusal items k (take (body_length k) rest) ≡ 0) × (next ≡ accepted out) → Complete out
    item below (z, e') = by_test (eqb k 8)
        (λ y. subst Complete (ending_accepted items rest (place + 1) out (rw y at e'))
        (record { checked = c; end = take (body_length k) rest; ended = subst (λ (j : ℕ). Passes items j (take (body_length k) rest)) (eqb-true k 8 y) (passes items k (take (body_length k) rest) z) }))
        (λ n. below (one_more (record { kind = k; body = take (body_length k) rest }) c (passes items k (take (body_length k) rest) z)) (rw n at e'))

pub read_complete : (bytes : List ℕ) (items : List Item) → read bytes ≡ accepted items → Complete items
unfolding read
read_complete bytes items e = read_from_complete (length bytes + 1) [] bytes 0 items e none_yet

-- ---- kinds never fall, so what an item was checked against is what the whole table has
in_turn : (items : List Item) (k : ℕ) → is_out_of_turn items k ≡ false → last_kind items ≤ k
unfolding is_out_of_turn
in_turn items k e = by_test (ltb k (last_kind items)) (λ y. absurd (true≢false (let bad : true ≡ false = rw y at e in bad))) (λ n. ltb-false k (last_kind items) n)

pub bodies_more : (k : ℕ) (items : List Item) (x : Item) → bodies k (items ++ (x ∷ [])) ≡ bodies k items ++ cond (eqb x.kind k) (x.body ∷ []) []
bodies_more k [] x = refl
bodies_more k (y ∷ items) x = by_test (eqb y.kind k)
    (λ t. rw (t, bodies_more k items x))
    (λ n. rw (n, bodies_more k items x))

pub bodies_later : (k : ℕ) (items : List Item) (x : Item) → k < x.kind → bodies k (items ++ (x ∷ [])) ≡ bodies k items
bodies_later k items x h = bodies_more k items x ∙ rw (ne_eqb x.kind k (λ e. omega arith)) (append-nil (bodies k items))

held_kind : (k : ℕ) (items : List Item) → Each (λ (x : Item). x.kind ≤ last_kind items) items → (bodies k items ≡ []) ⊎ (k ≤ last_kind items)
held_kind k items e = go (last_kind items) items e
  where
    go : (m : ℕ) (xs : List Item) → Each (λ (x : Item). x.kind ≤ m) xs → (bodies k xs ≡ []) ⊎ (k ≤ m)
    go m [] e = inl refl
    go m (x ∷ xs) e = by_test (eqb x.kind k)
        (λ y. inr (let same : x.kind ≡ k = eqb-true x.kind k y in let le : x.kind ≤ m = e.0 in omega arith))
        (λ n. ⊎_elim (λ z. inl (rw n z)) (λ l. inr l) (go m xs e.1))

kinds_rise : {items : List Item} → Checked items → Each (λ (x : Item). x.kind ≤ last_kind items) items
kinds_rise none_yet = tt
kinds_rise (one_more {items = items} x c p) = rw last_kind_snoc
    (each_append (λ (y : Item). y.kind ≤ x.kind) items (x ∷ [])
    (each_map (λ (y : Item). y.kind ≤ last_kind items) (λ (y : Item). y.kind ≤ x.kind) (λ y l. omega (arith, in_turn items x.kind p.turn)) items (kinds_rise c))
    (le_refl x.kind, tt))

-- What a check shows of an item of kind k holds in the whole table, if later items, which have no lower kind, leave it so.
module _ (k : ℕ) (Q : List Item → List ℕ → Type 0)
    (stays : (items : List Item) (x : Item) (body : List ℕ) → k ≤ x.kind → Q items body → Q (items ++ (x ∷ [])) body)
    (shown : (items : List Item) (body : List ℕ) → Passes items k body → Q items body) where
  older : (items : List Item) (x : Item) → k ≤ x.kind → Each (Q items) (bodies k items) → Each (Q (items ++ (x ∷ []))) (bodies k items)
  older items x h e = each_map (Q items) (Q (items ++ (x ∷ []))) (λ body q. stays items x body h q) (bodies k items) e

  same_kind : (items : List Item) (x : Item) → x.kind ≡ k → Passes items x.kind x.body → Each (Q items) (bodies k items) → Each (Q (items ++ (x ∷ []))) (bodies k (items ++ (x ∷ [])))
  same_kind items x is p e = rw (bodies_more k items x, eq-eqb x.kind k is)
      (each_append (Q (items ++ (x ∷ []))) (bodies k items) (x.body ∷ []) (older items x (omega arith) e)
      (stays items x x.body (omega arith) (shown items x.body (subst (λ (j : ℕ). Passes items j x.body) is p)), tt))

  other_kind : (items : List Item) (x : Item) → eqb x.kind k ≡ false → last_kind items ≤ x.kind → (bodies k items ≡ []) ⊎ (k ≤ last_kind items)
      → Each (Q items) (bodies k items) → Each (Q (items ++ (x ∷ []))) (bodies k (items ++ (x ∷ [])))
  other_kind items x n l (inl z) e = rw (bodies_more k items x, n, z) tt
  other_kind items x n l (inr h) e = rw (bodies_more k items x, n, append-nil) (older items x (omega arith) e)

  pub each_of_kind : {items : List Item} → Checked items → Each (Q items) (bodies k items)
  each_of_kind none_yet = tt
  each_of_kind (one_more {items = items} x c p) = by_test (eqb x.kind k)
      (λ y. same_kind items x (eqb-true x.kind k y) p (each_of_kind c))
      (λ n. other_kind items x n (in_turn items x.kind p.turn) (held_kind k items (kinds_rise c)) (each_of_kind c))

-- no kind is over its ceiling
pub count_ceiling_lem : (k : ℕ) {items : List Item} → Checked items → count k items ≤ ceiling k
count_ceiling_lem k none_yet = zero-le
count_ceiling_lem k (one_more {items = items} x c p) = by_test (eqb x.kind k)
    (λ y. rw (bodies_more k items x, y, length-append) (grown (eqb-true x.kind k y)))
    (λ n. rw (bodies_more k items x, n, append-nil) (count_ceiling_lem k c))
  where
    grown : x.kind ≡ k → count k items + 1 ≤ ceiling k
    grown e = let less : count k items < ceiling k = subst (λ (j : ℕ). count j items < ceiling j) e p.room in omega arith

-- what is shown of an item by the processes and letters before it, for kinds above those two, and by the processes for letters
pub shown_of_kind : (k : ℕ) → 2 < k → (P : List (List ℕ) → List (List ℕ) → List ℕ → Type 0)
    → ((items : List Item) (body : List ℕ) → Passes items k body → P (bodies 1 items) (bodies 2 items) body)
    → {items : List Item} → Checked items → Each (P (bodies 1 items) (bodies 2 items)) (bodies k items)
shown_of_kind k h P shown c = each_of_kind k (λ items body. P (bodies 1 items) (bodies 2 items) body)
    (λ items x body l q. rw (bodies_later 1 items x (omega arith), bodies_later 2 items x (omega arith)) q) shown c
