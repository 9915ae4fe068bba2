-- A path with no record of the last round adds nothing that the log lacks. So a round may search the paths with such a record only.
use mathlib.Core.Path.{◌∙◌, ◌≡◌, ap, ap₂, refl, subst, sym}
use mathlib.Core.Bool.{Bool, ◌||◌, cond, false, or_assoc, true, true≢false}
use mathlib.Core.Logic.{⊎_elim}
use mathlib.Core.Option.{some}
use mathlib.Core.List.{List, Memᴰ, [], ◌++◌, ◌∷◌, map}
use Prim.Native.Nat.{◌+◌, ◌<◌, ◌≤◌, suc, ℕ}
use native.Mathlib.Omega.{arith}
use lib.Dec.{eqb, leb}
use lib.ListN.{get_elem?, length, length-append}
use lib.Seq.{append_snoc, get_or_at}
use borrow.Author.Tests.{eq-eqb, le-leb, leb-false, leb-true, lt-leb, ne_eqb}
use Rattle.model.specs.declared.Group.{Group}
use Rattle.model.specs.Automata.{Along, Transition, label, move}
use Rattle.model.specs.Groups.{Processes}
use Rattle.model.specs.Lists.{Each, filter}
use Rattle.model.specs.Log.{Candidate, Path, Record, added_record, additions, candidate, collect, extend, in_log, insert, log_at, no_record, paths, push, reads_at, record_at}
use Rattle.model.specs.Saturation.{added}
use Rattle.model.specs.Systems.{Rule, System}
use Rattle.searches.specs.Searches.{any_from, candidates_of, extend_fresh, fresh_paths}
use Rattle.model.proofs.Collecting.{in_log_of, log_saturates, log_at_suc}
use Rattle.model.proofs.Lists.{each_any, each_append, each_get, each_of_map, get_elem_at, mem_each, filter_all, filter_append, filter_map}
use Rattle.model.proofs.LogPaths.{IsPath, paths_sound, reads_letter}
use Rattle.model.proofs.Rounds.{FirstHeld, each_first, each_transitions_at_held}
use Rattle.model.proofs.Soundness.{transitions_at}
use Rattle.model.proofs.Tests.{by_test, or_right}
use Rattle.model.proofs.Validity.{Old, Young, each_at, old_or_young, transitions_at_grow}

-- ---- the records of the last round are those behind the log before it
pub last_round : (sys : System) (k n : ℕ) → n < length (log_at sys (suc k)) → leb (length (log_at sys k)) n ≡ eqb (record_at (log_at sys (suc k)) n).round (suc k)
last_round sys k n h = ⊎_elim old young (old_or_young (λ (c : Candidate). Unit {0}) (added_record (suc k) (log_at sys k)) (log_at sys k) (additions sys (log_at sys k)) (each_any (λ (c : Candidate). Unit {0}) (λ c. tt) (additions sys (log_at sys k))) n (rw (log_at_suc sys k) at h))
  where
    old : Old (log_at sys k) (map (added_record (suc k) (log_at sys k)) (additions sys (log_at sys k))) n → leb (length (log_at sys k)) n ≡ eqb (record_at (log_at sys (suc k)) n).round (suc k)
    old o =
        let is : record_at (log_at sys (suc k)) n ≡ record_at (log_at sys k) n = rw (log_at_suc sys k) o.same in
        let low : (record_at (log_at sys k) n).round ≤ k = (each_at (FirstHeld sys k) (log_at sys k) (each_first sys k) n o.below).within in
        lt-leb (length (log_at sys k)) n o.below
        ∙ sym (ap (λ (r : Record). eqb r.round (suc k)) is ∙ ne_eqb (record_at (log_at sys k) n).round (suc k) (λ e. omega arith))

    young : Young (λ (c : Candidate). Unit {0}) (log_at sys k) (map (added_record (suc k) (log_at sys k)) (additions sys (log_at sys k))) (added_record (suc k) (log_at sys k)) n
        → leb (length (log_at sys k)) n ≡ eqb (record_at (log_at sys (suc k)) n).round (suc k)
    young y =
        let is : record_at (log_at sys (suc k)) n ≡ added_record (suc k) (log_at sys k) y.cand = rw (log_at_suc sys k) y.same in
        le-leb (length (log_at sys k)) n y.above
        ∙ sym (ap (λ (r : Record). eqb r.round (suc k)) is ∙ eq-eqb (suc k) (suc k) refl)

none_from : (lo : ℕ) (ns : List ℕ) → any_from lo ns ≡ false → Each (λ (n : ℕ). n < lo) ns
none_from lo [] e = tt
none_from lo (n ∷ ns) e = by_test (leb lo n)
    (λ y. absurd (true≢false (sym (rw y) ∙ e)))
    (λ f. (leb-false lo n f, none_from lo ns (or_right (leb lo n) (any_from lo ns) e)))

-- ---- the lemma
-- what a rule adds by a path without a record of the last round is held
pub stale_law : (sys : System) (k n : ℕ) (r : Rule) → get_elem? sys.rules n ≡ some r → (p : Path) → Memᴰ p (paths sys.loc (log_at sys (suc k)) r.written r.after)
    → any_from (length (log_at sys k)) p.numbers ≡ false → in_log (added sys.loc r p.end) (log_at sys (suc k)) ≡ true
stale_law sys k n r is p i f =
    let t = each_get (IsPath sys.loc (log_at sys (suc k)) r.written r.after) p (paths sys.loc (log_at sys (suc k)) r.written r.after) (paths_sound sys.loc (log_at sys (suc k)) r.written r.after) i in
    let old : Each (λ (m : ℕ). m < length (log_at sys k)) p.numbers = none_from (length (log_at sys k)) p.numbers f in
    let same : transitions_at (log_at sys (suc k)) p.numbers ≡ transitions_at (log_at sys k) p.numbers =
    ap (λ (log : List Record). transitions_at log p.numbers) (log_at_suc sys k) ∙ transitions_at_grow (log_at sys k) (map (added_record (suc k) (log_at sys k)) (additions sys (log_at sys k))) p.numbers old in
    in_log_of (added sys.loc r p.end) (log_at sys (suc k))
    ((log_saturates sys).adds k n r is (transitions_at (log_at sys k) p.numbers) p.end (each_transitions_at_held (log_at sys k) p.numbers old) (ap label (sym same) ∙ t.reads)
    (subst (λ (ts : List Transition). Along sys.loc r.after ts p.end) same t.along))

-- ---- candidates that may be left out
-- candidates whose keys the log holds do not matter
pub collect_without : (log : List Record) (f : Candidate → Bool) (cs got : List Candidate) → Each (λ (c : Candidate). f c ≡ false → in_log c.key log ≡ true) cs
    → collect log (filter f cs) got ≡ collect log cs got
collect_without log f [] got e = refl
collect_without log f (c ∷ cs) got e = by_test (f c)
    (λ y. rw y (collect_without log f cs (cond (in_log c.key log) got (insert c got)) e.1))
    (λ n. rw (n, e.0 n) (collect_without log f cs got e.1))

-- the candidate's path has a record from lo on
abbrev pub is_fresh : ℕ → Candidate → Bool
is_fresh lo c = any_from lo c.path

module _ (sys : System) (k : ℕ) where
  abbrev last_log : List Record
  last_log = log_at sys (suc k)

  abbrev Matters : Candidate → Type 0
  Matters c = is_fresh (length (log_at sys k)) c ≡ false → in_log c.key (log_at sys (suc k)) ≡ true

  rule_matters : (r : Rule) (n : ℕ) → get_elem? sys.rules n ≡ some r → Each Matters (map (candidate sys.loc r n) (paths sys.loc last_log r.written r.after))
  rule_matters r n is = each_of_map Matters (candidate sys.loc r n) (paths sys.loc last_log r.written r.after)
      (mem_each (paths sys.loc last_log r.written r.after) (λ (p : Path). Matters (candidate sys.loc r n p)) (λ p i f. stale_law sys k n r is p i f))

  of_matters : (ok : Rule → Bool) (rs pre : List Rule) (n : ℕ) → pre ++ rs ≡ sys.rules → length pre ≡ n → Each Matters (candidates_of sys.loc last_log ok rs n)
  of_matters ok [] pre n e l = tt
  of_matters ok (r ∷ rs) pre n e l =
      each_append Matters (cond (ok r) (map (candidate sys.loc r n) (paths sys.loc last_log r.written r.after)) []) (candidates_of sys.loc last_log ok rs (suc n))
      (by_test (ok r) (λ y. rw y (rule_matters r n is)) (λ f. rw f tt))
      (of_matters ok rs (pre ++ (r ∷ [])) (suc n) (append_snoc pre r rs ∙ e) (length-append pre (r ∷ []) ∙ omega arith))
    where
      is : get_elem? sys.rules n ≡ some r
      is = rw (← e) (get_elem_at pre r rs n l)

  -- a round collects the same from the candidates whose path has a record of the last round, and so for those of some of the rules, as of a head
  pub some_fresh_paths : (ok : Rule → Bool) → collect (log_at sys (suc k)) (candidates_of sys.loc (log_at sys (suc k)) ok sys.rules 0) []
      ≡ collect (log_at sys (suc k)) (filter (is_fresh (length (log_at sys k))) (candidates_of sys.loc (log_at sys (suc k)) ok sys.rules 0)) []
  some_fresh_paths ok = sym (collect_without last_log (is_fresh (length (log_at sys k))) (candidates_of sys.loc last_log ok sys.rules 0) [] (of_matters ok sys.rules [] 0 refl refl))

-- ---- the search for these paths, letter by letter
-- the path has a record from lo on, or one was found before
abbrev pub path_fresh : ℕ → Bool → Path → Bool
path_fresh lo found p = found || any_from lo p.numbers

module _ (loc : ℕ → Processes) (lo : ℕ) where
  extend_filter : (found : Bool) (a : ℕ) (g : Group) (rest : Bool → Group → List Path) (all : Group → List Path)
      → ((b : Bool) (h : Group) → rest b h ≡ filter (path_fresh lo b) (all h)) → (rs : List Record) (n : ℕ)
      → extend_fresh loc lo found a g rest rs n ≡ filter (path_fresh lo found) (extend loc a g all rs n)
  extend_filter found a g rest all ok [] n = refl
  extend_filter found a g rest all ok (r ∷ rs) n =
      ap₂ (λ (x y : List Path). x ++ y) front (extend_filter found a g rest all ok rs (suc n))
      ∙ sym (filter_append (path_fresh lo found) (cond (reads_at loc a g r) (map (push n) (all (move loc r.key g))) []) (extend loc a g all rs (suc n)))
    where
      h : Group
      h = move loc r.key g

      front : cond (reads_at loc a g r) (map (push n) (rest (found || leb lo n) h)) [] ≡ filter (path_fresh lo found) (cond (reads_at loc a g r) (map (push n) (all h)) [])
      front = by_test (reads_at loc a g r)
          (λ y. rw y (ap (map (push n)) (ok (found || leb lo n) h)
          ∙ sym (filter_map (path_fresh lo found) (path_fresh lo (found || leb lo n)) (push n) (λ p. sym (or_assoc found (leb lo n) (any_from lo p.numbers))) (all h))))
          (λ f. rw f)

  pub fresh_paths_lem : (log : List Record) (found : Bool) (w : List ℕ) (g : Group) → fresh_paths loc log lo found w g ≡ filter (path_fresh lo found) (paths loc log w g)
  fresh_paths_lem log true [] g = refl
  fresh_paths_lem log false [] g = refl
  fresh_paths_lem log found (a ∷ w) g = extend_filter found a g (λ b h. fresh_paths loc log lo b w h) (λ h. paths loc log w h) (λ b h. fresh_paths_lem log b w h) log 0

  -- once one is found, all paths are searched
  pub found_paths : (log : List Record) (w : List ℕ) (g : Group) → fresh_paths loc log lo true w g ≡ paths loc log w g
  found_paths log w g = fresh_paths_lem log true w g ∙ filter_all (path_fresh lo true) (paths loc log w g) (each_any (λ (p : Path). path_fresh lo true p ≡ true) (λ p. refl) (paths loc log w g))

  -- no record from lo on reads a letter of w
  abbrev pub Stale : List Record → List ℕ → Type 0
  Stale log w = (n : ℕ) → lo ≤ n → n < length log → Memᴰ (record_at log n).key.letter w → ⊥

  stale_extend : (log : List Record) (a : ℕ) (w : List ℕ) (g : Group) (rest : Bool → Group → List Path) → Stale log (a ∷ w) → ((h : Group) → rest false h ≡ [])
      → (rs pre : List Record) (n : ℕ) → pre ++ rs ≡ log → length pre ≡ n → extend_fresh loc lo false a g rest rs n ≡ []
  stale_extend log a w g rest stale ok [] pre n e l = refl
  stale_extend log a w g rest stale ok (r ∷ rs) pre n e l =
      ap₂ (λ (x y : List Path). x ++ y) front (stale_extend log a w g rest stale ok rs (pre ++ (r ∷ [])) (suc n) (append_snoc pre r rs ∙ e) (length-append pre (r ∷ []) ∙ omega arith))
    where
      is : record_at log n ≡ r
      is = rw (← e) (get_or_at pre r rs no_record n l)

      below : n < length log
      below = let long : length (pre ++ (r ∷ rs)) ≡ length pre + length (r ∷ rs) = length-append pre (r ∷ rs) in
          let same : length (pre ++ (r ∷ rs)) ≡ length log = ap length e in
          omega arith

      front : cond (reads_at loc a g r) (map (push n) (rest (leb lo n) (move loc r.key g))) [] ≡ []
      front = by_test (reads_at loc a g r)
          (λ y. by_test (leb lo n)
          (λ t. absurd (stale n (leb-true lo n t) below (Memᴰ.head (ap (λ (x : Record). x.key.letter) is ∙ reads_letter loc a g r y))))
          (λ f. rw (y, f, ok (move loc r.key g))))
          (λ f. rw f)

  -- no letter that is left has a record from lo on: there is nothing to be found
  pub stale_paths : (log : List Record) (w : List ℕ) (g : Group) → Stale log w → fresh_paths loc log lo false w g ≡ []
  stale_paths log [] g s = refl
  stale_paths log (a ∷ w) g s = stale_extend log a w g (λ b h. fresh_paths loc log lo b w h) s (λ h. stale_paths log w h (λ n p q m. s n p q (Memᴰ.tail m))) log [] 0 refl refl
