-- `paths` lists the paths over a word, all of them and nothing else.
use mathlib.Core.Path.{◌∙◌, ◌≡◌, ap, ap₂, refl, sym}
use mathlib.Core.Bool.{cond, true}
use mathlib.Core.List.Memᴰ
use mathlib.Core.List.{List, Memᴰ, [], ◌++◌, ◌∷◌, map}
use Prim.Native.Nat.{◌+◌, ◌<◌, suc, zero, ℕ}
use native.Mathlib.Omega.{arith}
use native.Mathlib.Nat.{not-suc-le-zero}
use lib.Dec.{eqb}
use lib.ListN.{length, length-append}
use lib.Seq.{append_snoc, get_or_at}
use borrow.Author.Tests.{eq-eqb, eqb-true}
use Rattle.model.specs.declared.Group.{Group}
use Rattle.model.specs.Automata.{Along, label, move}
use Rattle.model.specs.Groups.{Processes, restrict, same_group}
use Rattle.model.specs.Lists.{Each}
use Rattle.model.specs.Log.{Path, Record, extend, no_record, paths, push, reads_at, record_at}
use Rattle.model.proofs.Groups.{same_group_of, same_group_true}
use Rattle.model.proofs.Lists.{each_append, each_map, each_of_map}
use Rattle.model.proofs.Soundness.{transitions_at}
use Rattle.model.proofs.Tests.{and_both, and_left, and_right, by_test}

pub record IsPath (loc : ℕ → Processes) (log : List Record) (w : List ℕ) (g : Group) (t : Path) : Type 0 where
  pub inside : Each (λ (n : ℕ). n < length log) t.numbers
  pub reads : label (transitions_at log t.numbers) ≡ w
  pub along : Along loc g (transitions_at log t.numbers) t.end

pub reads_letter : (loc : ℕ → Processes) (a : ℕ) (g : Group) (r : Record) → reads_at loc a g r ≡ true → r.key.letter ≡ a
unfolding reads_at
reads_letter loc a g r e = eqb-true r.key.letter a (and_left _ _ e)

pub reads_before : (loc : ℕ → Processes) (a : ℕ) (g : Group) (r : Record) → reads_at loc a g r ≡ true → restrict (loc r.key.letter) g ≡ r.key.before
unfolding reads_at
reads_before loc a g r e =
    rw (reads_letter loc a g r e) (same_group_true (restrict (loc a) g) r.key.before (and_right (eqb r.key.letter a) (same_group (restrict (loc a) g) r.key.before) e))

pub reads_of : (loc : ℕ → Processes) (a : ℕ) (g : Group) (r : Record) → r.key.letter ≡ a → restrict (loc r.key.letter) g ≡ r.key.before → reads_at loc a g r ≡ true
unfolding reads_at
reads_of loc a g r e m =
    and_both (eqb r.key.letter a) (same_group (restrict (loc a) g) r.key.before) (eq-eqb r.key.letter a e)
    (same_group_of (restrict (loc a) g) r.key.before (rw (← e) m))

module _ (loc : ℕ → Processes) (log : List Record) where
  pushed : (a : ℕ) (w : List ℕ) (g : Group) (r : Record) (n : ℕ) → n < length log → record_at log n ≡ r → reads_at loc a g r ≡ true
      → (t : Path) → IsPath loc log w (move loc r.key g) t → IsPath loc log (a ∷ w) g (push n t)
  pushed a w g r n h is e t tr = record {
    inside = (h, tr.inside);
    reads = ap₂ (λ (b : ℕ) (l : List ℕ). b ∷ l) (ap (λ (x : Record). x.key.letter) is ∙ reads_letter loc a g r e) tr.reads;
    along = rw is (reads_before loc a g r e, tr.along);
  }

  extend_sound : (a : ℕ) (w : List ℕ) (g : Group) (next : Group → List Path) → ((h : Group) → Each (IsPath loc log w h) (next h))
      → (rs pre : List Record) (n : ℕ) → pre ++ rs ≡ log → length pre ≡ n → Each (IsPath loc log (a ∷ w) g) (extend loc a g next rs n)
  extend_sound a w g next ok [] pre n e l = tt
  extend_sound a w g next ok (r ∷ rs) pre n e l =
      each_append (IsPath loc log (a ∷ w) g) (cond (reads_at loc a g r) (map (push n) (next (move loc r.key g))) []) (extend loc a g next rs (suc n))
      (by_test (reads_at loc a g r) (λ y. rw y (first y)) (λ y. rw y tt))
      (extend_sound a w g next ok rs (pre ++ (r ∷ [])) (suc n) (append_snoc pre r rs ∙ e) (length-append pre (r ∷ []) ∙ omega arith))
    where
      below : n < length log
      below = let long : length (pre ++ (r ∷ rs)) ≡ length pre + length (r ∷ rs) = length-append pre (r ∷ rs) in
          let same : length (pre ++ (r ∷ rs)) ≡ length log = ap length e in
          omega arith

      is : record_at log n ≡ r
      is = rw (← e) (get_or_at pre r rs no_record n l)

      first : reads_at loc a g r ≡ true → Each (IsPath loc log (a ∷ w) g) (map (push n) (next (move loc r.key g)))
      first y = each_of_map (IsPath loc log (a ∷ w) g) (push n) (next (move loc r.key g))
          (each_map (IsPath loc log w (move loc r.key g)) (λ (t : Path). IsPath loc log (a ∷ w) g (push n t)) (λ t tr. pushed a w g r n below is y t tr) (next (move loc r.key g)) (ok (move loc r.key g)))

  pub paths_sound : (w : List ℕ) (g : Group) → Each (IsPath loc log w g) (paths loc log w g)
  paths_sound [] g = (record { inside = tt; reads = refl; along = refl }, tt)
  paths_sound (a ∷ w) g = extend_sound a w g (λ h. paths loc log w h) (λ h. paths_sound w h) log [] 0 refl refl

  mem_push : (n : ℕ) (t : Path) (ts : List Path) → Memᴰ t ts → Memᴰ (push n t) (map (push n) ts)
  mem_push n t [] x' = elim x' [ ]
  mem_push n t (s ∷ ts) (Memᴰ.head e) = Memᴰ.head (ap (push n) e)
  mem_push n t (s ∷ ts) (Memᴰ.tail m) = Memᴰ.tail (mem_push n t ts m)

  extend_complete : (a : ℕ) (g : Group) (next : Group → List Path) (rs : List Record) (n j m : ℕ) → j < length rs → m ≡ n + j → reads_at loc a g (record_at rs j) ≡ true
      → (t : Path) → Memᴰ t (next (move loc (record_at rs j).key g)) → Memᴰ (push m t) (extend loc a g next rs n)
  extend_complete a g next [] n j m h e f t i = absurd (not-suc-le-zero h)
  extend_complete a g next (r ∷ rs) n zero m h e f t i = Memᴰ.append_left (extend loc a g next rs (suc n)) first
    where
      same : m ≡ n
      same = omega arith

      first : Memᴰ (push m t) (cond (reads_at loc a g r) (map (push n) (next (move loc r.key g))) [])
      first = rw (f, same) (mem_push n t (next (move loc r.key g)) i)
  extend_complete a g next (r ∷ rs) n (suc j) m h e f t i =
      Memᴰ.append_right (cond (reads_at loc a g r) (map (push n) (next (move loc r.key g))) []) (extend_complete a g next rs (suc n) j m (omega arith) (omega arith) f t i)

  pub paths_complete : (w : List ℕ) (g : Group) (ns : List ℕ) (f : Group) → Each (λ (n : ℕ). n < length log) ns → label (transitions_at log ns) ≡ w → Along loc g (transitions_at log ns) f
      → Memᴰ (record { numbers = ns; end = f }) (paths loc log w g)
  paths_complete [] g [] f i e p = Memᴰ.head (ap (λ (h : Group). record { numbers = []; end = h }) (sym p))
  paths_complete [] g (n ∷ ns) f i e p = absurd (let z : ◌≡◌ {A = ℕ} 0 1 = cc in omega arith)
  paths_complete (a ∷ w) g [] f i e p = absurd (let z : ◌≡◌ {A = ℕ} 0 1 = cc in omega arith)
  paths_complete (a ∷ w) g (n ∷ ns) f i e p =
      let task-is : (record_at log n).key.letter ≡ a = cc in
      let rest_is : label (transitions_at log ns) ≡ w = cc in
      extend_complete a g (λ h. paths loc log w h) log 0 n n i.0 (omega arith) (reads_of loc a g (record_at log n) task-is p.0) (record { numbers = ns; end = f })
      (paths_complete w (move loc (record_at log n).key g) ns f i.1 rest_is p.1)
