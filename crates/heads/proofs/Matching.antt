-- The log's bytes as a search looks at them, and the records that they stand for: the paths are the same.
use mathlib.Core.Path.{◌∙◌, ◌≡◌, ap, ap₂, refl, sym}
use mathlib.Core.Bool.{◌&&◌, cond, true}
use mathlib.Core.List.{List, [], ◌++◌, ◌∷◌, map}
use Prim.Native.Nat.{◌*◌, ◌+◌, ◌<◌, ◌≤◌, min, suc, zero, ℕ}
use native.Mathlib.Omega.{arith}
use native.Mathlib.Nat.{not-suc-le-zero}
use lib.Dec.{eqb, ltb}
use lib.ListN.{drop, drop_of_length-le, length, take, take-append-drop}
use lib.Seq.{drop-cons}
use borrow.Author.Tests.{ltb-false, ltb-true}
use Rattle.model.specs.declared.Group.{Group}
use Rattle.model.specs.Automata.{Transition, move}
use Rattle.model.specs.Groups.{Processes, merge, restrict, same_group}
use Rattle.model.specs.Lists.{Each, sum_over}
use Rattle.model.specs.Log.{Candidate, Path, Record, added_record, extend, keys, no_record, paths, push, reads_at, record_at, steps_cap}
use Rattle.model.specs.Records.{after_at, before_at, log_bytes, record_length}
use Rattle.model.proofs.LogPaths.{reads_letter}
use Rattle.model.proofs.Tests.{by_test}
use Rattle.model.proofs.Validity.{each_at}
use Rattle.records.specs.Entries.{Fits, Reads}
use Rattle.records.proofs.Entries.{log_reads}
use Rattle.packs.specs.Packs.{packed, packed_after, packed_before, unpacked}
use Rattle.packs.proofs.Packs.{pack_group}
use Rattle.packs.proofs.Unpacked.{packed_below, unpacked_packed}
use Rattle.paths.specs.Jobs.{glances, glances_from}
use Rattle.paths.proofs.Glances.{glances_at, length_glances}

-- ---- paths depend on the transitions, and on the processes of the letters read
module _ (loc loc' : ℕ → Processes) (a : ℕ) (g : Group) (same : loc a ≡ loc' a) (rest rest' : Group → List Path) (onward : (h : Group) → rest h ≡ rest' h) where
  reads_same : (r r' : Record) → r.key ≡ r'.key → reads_at loc a g r ≡ reads_at loc' a g r'
  unfolding reads_at
  reads_same r r' e = ap₂ (λ (L : Processes) (t : Transition). eqb t.letter a && same_group (restrict L g) t.before) same e

  extend_same : (rs rs' : List Record) (n : ℕ) → keys rs ≡ keys rs' → extend loc a g rest rs n ≡ extend loc' a g rest' rs' n
  extend_same [] [] n e = refl
  extend_same [] (r ∷ rs') n e = absurd (let z : ◌≡◌ {A = ℕ} 0 1 = cc in omega arith)
  extend_same (r ∷ rs) [] n e = absurd (let z : ◌≡◌ {A = ℕ} 0 1 = cc in omega arith)
  extend_same (r ∷ rs) (r' ∷ rs') n e =
      let k : r.key ≡ r'.key = cc in
      let ks : keys rs ≡ keys rs' = cc in
      ap₂ (λ (xs ys : List Path). xs ++ ys) (first k) (extend_same rs rs' (suc n) ks)
    where
      led : r.key ≡ r'.key → reads_at loc a g r ≡ true → move loc r.key g ≡ move loc' r'.key g
      led k y = let letter = reads_letter loc a g r y in
          ap₂ (λ (L : Processes) (t : Transition). merge L t.after g) (ap loc letter ∙ same ∙ ap loc' (sym letter ∙ ap (λ (t : Transition). t.letter) k)) k

      first : r.key ≡ r'.key → cond (reads_at loc a g r) (map (push n) (rest (move loc r.key g))) [] ≡ cond (reads_at loc' a g r') (map (push n) (rest' (move loc' r'.key g))) []
      first k = by_test (reads_at loc a g r)
          (λ y. rw (y, sym (reads_same r r' k) ∙ y) (ap (map (push n)) (onward (move loc r.key g) ∙ ap rest' (led k y))))
          (λ n. rw (n, sym (reads_same r r' k) ∙ n))

pub paths_same : (loc loc' : ℕ → Processes) (log log' : List Record) → keys log ≡ keys log' → (w : List ℕ) (g : Group) → Each (λ (a : ℕ). loc a ≡ loc' a) w
    → paths loc log w g ≡ paths loc' log' w g
paths_same loc loc' log log' e [] g s = refl
paths_same loc loc' log log' e (a ∷ w) g s =
    extend_same loc loc' a g s.0 (λ h. paths loc log w h) (λ h. paths loc' log' w h) (λ h. paths_same loc loc' log log' e w h s.1) log log' 0 e

-- ---- the log's bytes and its records
module _ (log : List ℕ) (R : List Record) (bytes : take (length R * record_length) log ≡ log_bytes R) (fits : Each Fits R) where
  split : log ≡ log_bytes R ++ drop (length R * record_length) log
  split = sym (take-append-drop (length R * record_length) log) ∙ ap (λ (l : List ℕ). l ++ drop (length R * record_length) log) bytes

  fits_at : (n : ℕ) → n < length R → Fits (record_at R n)
  fits_at n h = each_at Fits R fits n h

  pub reads_at_lem : (n : ℕ) → n < length R → Reads log n (record_at R n)
  reads_at_lem n h = log_reads R (drop (length R * record_length) log) log n split h (fits_at n h)

  -- its groups as one number each
  pub before_packed : (n : ℕ) → n < length R → packed_before log n ≡ packed (record_at R n).key.before
  unfolding packed_before before_at
  before_packed n h = pack_group log (n * record_length + 1) ∙ ap packed (reads_at_lem n h).before

  pub after_packed : (n : ℕ) → n < length R → packed_after log n ≡ packed (record_at R n).key.after
  unfolding packed_after after_at
  after_packed n h = pack_group log (n * record_length + 5) ∙ ap packed (reads_at_lem n h).after

  pub groups_small : (n : ℕ) → n < length R → (packed_before log n < 4294967296) × (packed_after log n < 4294967296)
  groups_small n h = (
    rw (before_packed n h) (packed_below (record_at R n).key.before (fits_at n h).before),
    rw (after_packed n h) (packed_below (record_at R n).key.after (fits_at n h).after),
  )

  pub before_is : (n : ℕ) → n < length R → unpacked (packed_before log n) ≡ (record_at R n).key.before
  before_is n h = ap unpacked (before_packed n h) ∙ unpacked_packed (record_at R n).key.before (fits_at n h).before

  pub after_is : (n : ℕ) → n < length R → unpacked (packed_after log n) ≡ (record_at R n).key.after
  after_is n h = ap unpacked (after_packed n h) ∙ unpacked_packed (record_at R n).key.after (fits_at n h).after

  keys_from : (n k : ℕ) → n + k ≡ length R → keys (glances_from log n k) ≡ keys (drop n R)
  keys_from n zero e = sym (ap keys (drop_of_length-le R {i = n} (omega arith)))
  keys_from n (suc k) e =
      let h : n < length R = omega arith in
      let l = (reads_at_lem n h).letter in
      let b = before_is n h in
      let a = after_is n h in
      ap₂ (λ (t : Transition) (ts : List Transition). t ∷ ts) (λ i. record { letter = l i; before = b i; after = a i }) (keys_from (suc n) k (omega arith))
      ∙ sym (ap keys (drop-cons R n no_record h))

  pub glances_keys : keys (glances log (length R)) ≡ keys R
  glances_keys = keys_from 0 (length R) (omega arith)

  pub glances_steps : (m : ℕ) → (record_at (glances log (length R)) m).steps ≡ (record_at R m).steps
  glances_steps m = by_test (ltb m (length R))
      (λ y. let h : m < length R = ltb-true m (length R) y in ap (λ (r : Record). r.steps) (glances_at log (length R) m h) ∙ (reads_at_lem m h).steps)
      (λ n. let h : length R ≤ m = ltb-false m (length R) n in
      ap (λ (r : Record). r.steps) (past (glances log (length R)) m (omega (arith, length_glances log 0 (length R)))) ∙ sym (ap (λ (r : Record). r.steps) (past R m h)))
    where
      past : (rs : List Record) (m : ℕ) → length rs ≤ m → record_at rs m ≡ no_record
      past [] m h = refl
      past (r ∷ rs) zero h = absurd (not-suc-le-zero h)
      past (r ∷ rs) (suc m) h = past rs m (omega arith)

-- ---- records depend on the steps of the log
pub added_same : (round : ℕ) (A R : List Record) → ((m : ℕ) → (record_at A m).steps ≡ (record_at R m).steps) → (cs : List Candidate) → map (added_record round A) cs ≡ map (added_record round R) cs
added_same round A R e [] = refl
added_same round A R e (c ∷ cs) = ap₂ (λ (r : Record) (rs : List Record). r ∷ rs) one (added_same round A R e cs)
  where
    sums : (ns : List ℕ) → sum_over (λ m. (record_at A m).steps) ns ≡ sum_over (λ m. (record_at R m).steps) ns
    sums [] = refl
    sums (n ∷ ns) = ap₂ ◌+◌ (e n) (sums ns)

    one : added_record round A c ≡ added_record round R c
    one = ap (λ (s : ℕ). record { key = c.key; round = round; rule = c.rule; path = c.path; steps = min (1 + s) steps_cap }) (sums c.path)
