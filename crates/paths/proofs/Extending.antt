-- Paths found record by record: the records that do not read a letter are passed over, and those of earlier rounds where nothing could follow them.
use mathlib.Core.Path.{◌∙◌, ◌≡◌, refl, sym, subst}
use mathlib.Core.Bool.{Bool, ◌||◌, false, true}
use mathlib.Core.List.{List, [], ◌∷◌, ◌++◌, map}
use Prim.Native.Nat.{◌+◌, ◌<◌, ◌≤◌, suc, zero, ℕ}
use native.Mathlib.Omega.{arith}
use lib.Dec.{leb}
use lib.ListN.{drop, drop_of_length-le, length}
use lib.Seq.{drop-cons}
use borrow.Author.Tests.{lt-leb}
use Rattle.model.specs.declared.Group.{Group}
use Rattle.model.specs.Automata.{move}
use Rattle.model.specs.Groups.{Processes}
use Rattle.model.specs.Log.{Path, Record, no_record, push, reads_at, record_at}
use Rattle.searches.specs.Searches.{extend_fresh}
use Rattle.model.proofs.Tests.{by_test}
use Rattle.states.specs.StateSets.{first_from}

module _ (loc : ℕ → Processes) (lo : ℕ) (found : Bool) (a : ℕ) (g : Group) (rest : Bool → Group → List Path) (log : List Record) where
  abbrev pub readable : ℕ → Bool
  readable i = reads_at loc a g (record_at log i)

  extend_miss : (m : ℕ) → m < length log → readable m ≡ false → extend_fresh loc lo found a g rest (drop m log) m ≡ extend_fresh loc lo found a g rest (drop (suc m) log) (suc m)
  extend_miss m h n = rw (drop-cons log m no_record h, n)

  -- the record read, then those after it
  pub extend_hit : (m : ℕ) → m < length log → readable m ≡ true
      → extend_fresh loc lo found a g rest (drop m log) m ≡ map (push m) (rest (found || leb lo m) (move loc (record_at log m).key g)) ++ extend_fresh loc lo found a g rest (drop (suc m) log) (suc m)
  extend_hit m h y = rw (drop-cons log m no_record h, y)

  -- up to the first that reads
  pub extend_first : (k m : ℕ) → m + k ≡ length log → extend_fresh loc lo found a g rest (drop m log) m ≡ extend_fresh loc lo found a g rest (drop (first_from readable m k) log) (first_from readable m k)
  unfolding first_from
  extend_first zero m e = refl
  extend_first (suc k) m e = by_test (readable m) (λ y. rw y)
      (λ n. rw n (extend_miss m (omega arith) n ∙ extend_first k (suc m) (omega arith)))

  -- none is left
  pub extend_end : (m : ℕ) → length log ≤ m → extend_fresh loc lo found a g rest (drop m log) m ≡ []
  extend_end m h = rw (drop_of_length-le log {i = m} h)

-- nothing follows a record of an earlier round: the search may begin with the last round's
pub extend_late : (loc : ℕ → Processes) (lo a : ℕ) (g : Group) (rest : Bool → Group → List Path) → ((h : Group) → rest false h ≡ []) → (d : ℕ) (rs : List Record) (n : ℕ) → n + d ≡ lo
    → extend_fresh loc lo false a g rest rs n ≡ extend_fresh loc lo false a g rest (drop d rs) lo
extend_late loc lo a g rest none zero rs n e = let same : n ≡ lo = omega arith in subst (λ (m : ℕ). extend_fresh loc lo false a g rest rs m ≡ extend_fresh loc lo false a g rest rs lo) (sym same) refl
extend_late loc lo a g rest none (suc d) [] n e = refl
extend_late loc lo a g rest none (suc d) (r ∷ rs) n e = front (extend_late loc lo a g rest none d rs (suc n) (omega arith))
  where
    front : extend_fresh loc lo false a g rest rs (suc n) ≡ extend_fresh loc lo false a g rest (drop d rs) lo → extend_fresh loc lo false a g rest (r ∷ rs) n ≡ extend_fresh loc lo false a g rest (drop d rs) lo
    front q = by_test (reads_at loc a g r)
        (λ y. rw (y, lt-leb lo n (omega arith), none (move loc r.key g)) q)
        (λ f. rw f q)
