-- Laws of the items at computed places: what the counts say of bodies, and one item more.
use mathlib.Core.Bool.{Bool, true, false, cond}
use mathlib.Core.List.{List, [], ◌∷◌, ◌++◌, map, append-nil, append_assoc}
use mathlib.Core.Logic.{⊎_elim}
use mathlib.Core.Path.{◌≡◌, refl, sym, ap, ◌∙◌, subst}
use Prim.Native.Nat.{ℕ, zero, suc, ◌+◌, ◌*◌, ◌<◌, ◌≤◌}
use native.Mathlib.Nat.{not-suc-le-zero, le_of_suc-le-suc, zero-mul, one-mul, add-mul, eq-or-lt_of_le}
use native.Mathlib.Omega.{arith}
use lib.Dec.{eqb}
use borrow.Author.Tests.{eq-eqb, ne_eqb}
use Rattle.model.specs.Tables.{Item, body_length, bodies}
use Rattle.table.specs.Places.{counts, body_at, bodies_at, offset, items_below}
use Rattle.table.specs.declared.Table.{Table}
use Rattle.table.proofs.Bodies.{bodies_snoc}

abbrev item : ℕ → List ℕ → Item
item k body = record { kind = k; body = body }

-- ---- bodies of one kind
pub bodies_append : (k : ℕ) (xs ys : List Item) → bodies k (xs ++ ys) ≡ bodies k xs ++ bodies k ys
bodies_append k [] ys = refl
bodies_append k (x ∷ xs) ys = rw (bodies_append k xs ys) (either (eqb x.kind k) x.body (bodies k xs) (bodies k ys))
  where
    either : (b : Bool) (l : List ℕ) (us vs : List (List ℕ)) → cond b (l ∷ (us ++ vs)) (us ++ vs) ≡ cond b (l ∷ us) us ++ vs
    either true l us vs = refl
    either false l us vs = refl

bodies_same : (k : ℕ) (ls : List (List ℕ)) → bodies k (map (λ (l : List ℕ). item k l) ls) ≡ ls
bodies_same k [] = refl
bodies_same k (l ∷ ls) = rw (eq-eqb k k refl, bodies_same k ls)

bodies_other : (j k : ℕ) (ls : List (List ℕ)) → (j ≡ k → ⊥) → bodies k (map (λ (l : List ℕ). item j l) ls) ≡ []
bodies_other j k [] n = refl
bodies_other j k (l ∷ ls) n = rw (ne_eqb j k n) (bodies_other j k ls n)

module _ (bytes : List ℕ) (n : ℕ → ℕ) where
  abbrev kind_bodies : ℕ → List (List ℕ)
  kind_bodies k = bodies_at bytes (body_length k) (offset n k) (n k)

  pub bodies_above : (k m : ℕ) → m ≤ k → bodies k (items_below bytes n m) ≡ []
  unfolding items_below
  bodies_above k zero h = refl
  bodies_above k (suc m) h =
      bodies_append k (items_below bytes n m) (map (λ (l : List ℕ). item m l) (kind_bodies m))
      ∙ rw (bodies_above k m (omega arith), bodies_other m k (kind_bodies m) (λ e. omega arith))

  -- the bodies of kind k
  pub bodies_below : (k m : ℕ) → k < m → bodies k (items_below bytes n m) ≡ bodies_at bytes (body_length k) (offset n k) (n k)
  unfolding items_below
  bodies_below k zero h = absurd (not-suc-le-zero h)
  bodies_below k (suc m) h =
      bodies_append k (items_below bytes n m) (map (λ (l : List ℕ). item m l) (kind_bodies m))
      ∙ ⊎_elim (λ e. here e) (λ l. rw (bodies_below k m l, bodies_other m k (kind_bodies m) (λ e. omega arith)) (append-nil _)) (eq-or-lt_of_le (le_of_suc-le-suc h))
    where
      here : k ≡ m → bodies k (items_below bytes n m) ++ bodies k (map (λ (l : List ℕ). item m l) (kind_bodies m)) ≡ kind_bodies k
      here e = rw (← e, bodies_above k k (omega arith), bodies_same k (kind_bodies k))

-- ---- two ways to count that agree below m
module _ (bytes : List ℕ) (n n' : ℕ → ℕ) where
  pub offset_agrees : (m : ℕ) → ((j : ℕ) → j < m → n j ≡ n' j) → offset n m ≡ offset n' m
  unfolding offset
  offset_agrees zero f = refl
  offset_agrees (suc m) f = rw (offset_agrees m (λ j h. f j (omega arith)), f m (omega arith))

  pub items_agree : (m : ℕ) → ((j : ℕ) → j < m → n j ≡ n' j) → items_below bytes n m ≡ items_below bytes n' m
  unfolding items_below
  items_agree zero f = refl
  items_agree (suc m) f = rw (items_agree m (λ j h. f j (omega arith)), offset_agrees m (λ j h. f j (omega arith)), f m (omega arith))

-- ---- one item more, of kind k, behind all the others
module _ (bytes : List ℕ) (n n' : ℕ → ℕ) (k : ℕ) (more : n' k ≡ n k + 1) (other : (j : ℕ) → (j ≡ k → ⊥) → n' j ≡ n j) where
  below : (m : ℕ) → m ≤ k → (j : ℕ) → j < m → n j ≡ n' j
  below m h j l = sym (other j (λ e. omega arith))

  pub offset_snoc : (m : ℕ) → k < m → ((j : ℕ) → k < j → n j ≡ 0) → offset n' m ≡ offset n m + 1 + body_length k
  unfolding offset
  offset_snoc zero h z = absurd (not-suc-le-zero h)
  offset_snoc (suc m) h z = ⊎_elim here (λ l. later l (offset_snoc m l z)) (eq-or-lt_of_le (le_of_suc-le-suc h))
    where
      here : k ≡ m → offset n' m + n' m * (1 + body_length m) ≡ offset n m + n m * (1 + body_length m) + 1 + body_length k
      here e = rw (← e, ← (offset_agrees bytes n n' k (below k (omega arith))), more, add-mul (n k) 1 (1 + body_length k), one-mul (1 + body_length k)) (omega arith)

      later : k < m → offset n' m ≡ offset n m + 1 + body_length k → offset n' m + n' m * (1 + body_length m) ≡ offset n m + n m * (1 + body_length m) + 1 + body_length k
      later l e = rw (other m (λ q. omega arith), z m l, zero-mul (1 + body_length m), e) (omega arith)

  map_snoc : (ls : List (List ℕ)) (l : List ℕ) → map (λ (b : List ℕ). item k b) (ls ++ (l ∷ [])) ≡ map (λ (b : List ℕ). item k b) ls ++ (item k l ∷ [])
  map_snoc [] l = refl
  map_snoc (b ∷ ls) l = ap (λ (xs : List Item). item k b ∷ xs) (map_snoc ls l)

  snoc_here : items_below bytes n (suc k) ++ (item k (body_at bytes (body_length k) (offset n (suc k))) ∷ []) ≡ items_below bytes n' (suc k)
  unfolding items_below offset
  snoc_here =
      append_assoc (items_below bytes n k) (map (λ (b : List ℕ). item k b) (kind_bodies bytes n k)) (item k (body_at bytes (body_length k) (offset n k + n k * (1 + body_length k))) ∷ [])
      ∙ rw (
        ← (map_snoc (kind_bodies bytes n k) (body_at bytes (body_length k) (offset n k + n k * (1 + body_length k)))),
        ← (bodies_snoc bytes (body_length k) (offset n k) (n k)),
        items_agree bytes n n' k (below k (omega arith)),
        offset_agrees bytes n n' k (below k (omega arith)),
        ← more,
      )

  -- no items of kind m
  items_still : (o : ℕ → ℕ) (m : ℕ) → o m ≡ 0 → items_below bytes o (suc m) ≡ items_below bytes o m
  unfolding items_below bodies_at
  items_still o m e = rw e (append-nil (items_below bytes o m))

  place_still : (m : ℕ) → n m ≡ 0 → offset n (suc m) ≡ offset n m
  unfolding offset
  place_still m e = rw (e, zero-mul (1 + body_length m)) (omega arith)

  pub items_snoc : (m : ℕ) → k < m → ((j : ℕ) → k < j → n j ≡ 0) → items_below bytes n m ++ (item k (body_at bytes (body_length k) (offset n m)) ∷ []) ≡ items_below bytes n' m
  items_snoc zero h z = absurd (not-suc-le-zero h)
  items_snoc (suc m) h z = ⊎_elim (λ e. subst (λ (p : ℕ). items_below bytes n (suc p) ++ (item k (body_at bytes (body_length k) (offset n (suc p))) ∷ []) ≡ items_below bytes n' (suc p)) e snoc_here) (λ l. later l (items_snoc m l z)) (eq-or-lt_of_le (le_of_suc-le-suc h))
    where
      later : k < m → items_below bytes n m ++ (item k (body_at bytes (body_length k) (offset n m)) ∷ []) ≡ items_below bytes n' m → items_below bytes n (suc m) ++ (item k (body_at bytes (body_length k) (offset n (suc m))) ∷ []) ≡ items_below bytes n' (suc m)
      later l e = rw (items_still n m (z m l), place_still m (z m l), items_still n' m (other m (λ q. omega arith) ∙ z m l)) e

-- behind kind k the places stand still
pub offset_still : (n : ℕ → ℕ) (k m : ℕ) → k < m → ((j : ℕ) → k < j → n j ≡ 0) → offset n m ≡ offset n k + n k * (1 + body_length k)
unfolding offset
offset_still n k zero h z = absurd (not-suc-le-zero h)
offset_still n k (suc m) h z = ⊎_elim (λ e. rw (← e)) (λ l. rw (z m l, zero-mul (1 + body_length m), offset_still n k m l z) (omega arith)) (eq-or-lt_of_le (le_of_suc-le-suc h))

-- processes stand first, then letters
pub first_item : (t : Table) (starts : ℕ) → offset (counts t starts) 1 ≡ 0
unfolding offset
first_item t starts = omega arith

pub second_item : (t : Table) (starts : ℕ) → offset (counts t starts) 2 ≡ 3 * t.processes
unfolding offset
second_item t starts = omega arith
