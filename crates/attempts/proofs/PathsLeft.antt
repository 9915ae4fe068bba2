-- Laws of the paths left: one record more on the stack or one less, the records that are passed over, and the first accepting one.
use mathlib.Core.Path.{◌≡◌, ap, ap₂, sym, subst, ◌∙◌}
use mathlib.Core.Bool.{Bool, true, false, cond}
use mathlib.Core.Option
use mathlib.Core.Option.{Option, none, some}
use mathlib.Core.List.{List, [], ◌∷◌, ◌++◌, map}
use Prim.Native.Nat.{ℕ, zero, suc, ◌+◌, ◌<◌, ◌≤◌}
use native.Mathlib.Decide.{dec_lt}
use native.Mathlib.Numerals.{add-one}
use native.Mathlib.Omega.{arith}
use lib.ListN.{length, drop, drop_of_length-le}
use lib.Seq.{drop-cons}
use Rattle.model.specs.declared.Group.{Group}
use Rattle.model.specs.Automata.{move}
use Rattle.model.specs.Groups.{Processes}
use Rattle.model.specs.Log.{Path, Record, extend, no_record, push, reads_at, record_at}
use Rattle.model.specs.Unfolding.{first_accepting}
use Rattle.table.specs.declared.Table.{Table}
use Rattle.rests.specs.declared.Scope.{Scope}
use Rattle.rests.specs.Rests.{prepend}
use Rattle.rests.proofs.GreedyPath.{first_append, first_push, or_else}
use Rattle.attempts.specs.Attempts.{state_by, state_along}
use Rattle.attempts.specs.Turns.{reads_in, Taken, paths_from, paths_left}

-- ---- records in turn
shifted : (r d : ℕ) → suc r + d ≡ r + suc d
shifted r d = omega arith

module _ (loc : ℕ → Processes) (a : ℕ) (g : Group) (next : Group → List Path) (records : List Record) where
  -- no record is left
  pub extend_end : (r : ℕ) → length records ≤ r → extend loc a g next (drop r records) r ≡ []
  extend_end r h = ap (λ (rs : List Record). extend loc a g next rs r) (drop_of_length-le records {i = r} h)

  extend_one : (r : ℕ) → r < length records
      → extend loc a g next (drop r records) r
      ≡ cond (reads_at loc a g (record_at records r)) (map (push r) (next (move loc (record_at records r).key g))) [] ++ extend loc a g next (drop (suc r) records) (suc r)
  extend_one r h = ap (λ (rs : List Record). extend loc a g next rs r) (drop-cons records r no_record h)

  -- record r reads
  pub extend_reads : (r : ℕ) → r < length records → reads_at loc a g (record_at records r) ≡ true
      → extend loc a g next (drop r records) r ≡ map (push r) (next (move loc (record_at records r).key g)) ++ extend loc a g next (drop (r + 1) records) (r + 1)
  extend_reads r h y =
      extend_one r h
      ∙ ap₂ (λ (b : Bool) (k : ℕ). cond b (map (push r) (next (move loc (record_at records r).key g))) [] ++ extend loc a g next (drop k records) k) y (sym (add-one r))

  -- none of the d records from r on does
  pub extend_skip : (d r : ℕ) → ((j : ℕ) → r ≤ j → j < r + d → j < length records → reads_at loc a g (record_at records j) ≡ false)
      → extend loc a g next (drop r records) r ≡ extend loc a g next (drop (r + d) records) (r + d)
  extend_skip zero r f = let same : r ≡ r + 0 = omega arith in ap (λ (k : ℕ). extend loc a g next (drop k records) k) same
  extend_skip (suc d) r f = elim (dec_lt r (length records)) [
    | yes h ↦ extend_one r h
        ∙ ap (λ (b : Bool). cond b (map (push r) (next (move loc (record_at records r).key g))) [] ++ extend loc a g next (drop (suc r) records) (suc r)) (f r (omega arith) (omega arith) h)
        ∙ extend_skip d (suc r) (λ j p q h. f j (omega arith) (omega arith) h)
        ∙ ap (λ (k : ℕ). extend loc a g next (drop k records) k) (shifted r d)
    | no h ↦ extend_end r (omega arith) ∙ sym (extend_end (r + suc d) (omega arith))
  ]

-- ---- one record more
module _ (table : List ℕ) (t : Table) (log : List ℕ) (c : Scope) where
  pub along_more : (ns : List ℕ) (k : ℕ) (g : Group) (m r : ℕ) → m ≡ k + length ns → state_along table log k (ns ++ (r ∷ [])) g ≡ state_by table log m r (state_along table log k ns g)
  along_more [] k g m r e = ap (λ (j : ℕ). state_by table log j r g) (omega arith)
  along_more (n ∷ ns) k g m r e = along_more ns (k + 1) (state_by table log k n g) m r (omega arith)

  pub taken_more : (ns : List ℕ) (k : ℕ) (g : Group) (m r : ℕ) → m ≡ k + length ns → Taken table t log c k g ns → r < c.limit
      → reads_in table t log m (state_along table log k ns g) r ≡ true → Taken table t log c k g (ns ++ (r ∷ []))
  taken_more [] k g m r e w l y = (l, subst (λ (j : ℕ). reads_in table t log j g r ≡ true) (omega arith) y, w)
  taken_more (n ∷ ns) k g m r e w l y = (w.0, w.1, taken_more ns (k + 1) (state_by table log k n g) m r (omega arith) w.2 l y)

  -- and back
  pub taken_less : (ns : List ℕ) (k : ℕ) (g : Group) (m r : ℕ) → m ≡ k + length ns → Taken table t log c k g (ns ++ (r ∷ []))
      → Taken table t log c k g ns × (r < c.limit) × (reads_in table t log m (state_along table log k ns g) r ≡ true)
  taken_less [] k g m r e w = (w.2, w.0, subst (λ (j : ℕ). reads_in table t log j g r ≡ true) (omega arith) w.1)
  taken_less (n ∷ ns) k g m r e w =
      let p = taken_less ns (k + 1) (state_by table log k n g) m r (omega arith) w.2 in
      ((w.0, w.1, p.0), p.1, p.2)

  pub left_more : (round : ℕ) (ns : List ℕ) (k : ℕ) (g : Group) (m r : ℕ) (last : List Path) → m ≡ k + length ns
      → paths_left table log round k g (ns ++ (r ∷ [])) last ≡ paths_left table log round k g ns (map (push r) last ++ paths_from table round m (state_along table log k ns g) (r + 1))
  left_more round [] k g m r last e = ap (λ (j : ℕ). map (push r) last ++ paths_from table round j g (r + 1)) (omega arith)
  left_more round (n ∷ ns) k g m r last e =
      ap (λ (ps : List Path). map (push n) ps ++ paths_from table round k g (n + 1)) (left_more round ns (k + 1) (state_by table log k n g) m r last (omega arith))

  -- ---- the first accepting path among those left
  module _ (acc : List Group) (round : ℕ) where
    first_one : (k : ℕ) (g : Group) (n : ℕ) (ns : List ℕ) (last : List Path)
        → first_accepting acc (paths_left table log round k g (n ∷ ns) last)
        ≡ or_else (Option.map (push n) (first_accepting acc (paths_left table log round (k + 1) (state_by table log k n g) ns last))) (first_accepting acc (paths_from table round k g (n + 1)))
    first_one k g n ns last =
        first_append acc (map (push n) (paths_left table log round (k + 1) (state_by table log k n g) ns last)) (paths_from table round k g (n + 1))
        ∙ ap (λ (o : Option Path). or_else o (first_accepting acc (paths_from table round k g (n + 1)))) (first_push acc n (paths_left table log round (k + 1) (state_by table log k n g) ns last))

    -- only the first accepting one of the last ones counts
    pub first_left : (ns : List ℕ) (k : ℕ) (g : Group) (xs ys : List Path) → first_accepting acc xs ≡ first_accepting acc ys
        → first_accepting acc (paths_left table log round k g ns xs) ≡ first_accepting acc (paths_left table log round k g ns ys)
    first_left [] k g xs ys e = e
    first_left (n ∷ ns) k g xs ys e =
        first_one k g n ns xs
        ∙ ap (λ (o : Option Path). or_else (Option.map (push n) o) (first_accepting acc (paths_from table round k g (n + 1)))) (first_left ns (k + 1) (state_by table log k n g) xs ys e)
        ∙ sym (first_one k g n ns ys)

    -- and with the records on the stack it is the first one
    pub first_found : (ns : List ℕ) (k : ℕ) (g : Group) (xs : List Path) (p : Path) → first_accepting acc xs ≡ some p
        → first_accepting acc (paths_left table log round k g ns xs) ≡ some (prepend ns p)
    first_found [] k g xs p e = e
    first_found (n ∷ ns) k g xs p e =
        first_one k g n ns xs
        ∙ ap (λ (o : Option Path). or_else (Option.map (push n) o) (first_accepting acc (paths_from table round k g (n + 1)))) (first_found ns (k + 1) (state_by table log k n g) xs p e)

-- the last ones come to nothing with no record, or one more record, in front
pub first_miss : (acc : List Group) (n : ℕ) (xs ys : List Path) → first_accepting acc xs ≡ none → first_accepting acc (map (push n) xs ++ ys) ≡ first_accepting acc ys
first_miss acc n xs ys e =
    first_append acc (map (push n) xs) ys ∙ ap (λ (o : Option Path). or_else o (first_accepting acc ys)) (first_push acc n xs ∙ ap (λ (o : Option Path). Option.map (push n) o) e)

pub first_hit : (acc : List Group) (n : ℕ) (xs ys : List Path) (p : Path) → first_accepting acc xs ≡ some p → first_accepting acc (map (push n) xs ++ ys) ≡ some (push n p)
first_hit acc n xs ys p e =
    first_append acc (map (push n) xs) ys ∙ ap (λ (o : Option Path). or_else o (first_accepting acc ys)) (first_push acc n xs ∙ ap (λ (o : Option Path). Option.map (push n) o) e)
