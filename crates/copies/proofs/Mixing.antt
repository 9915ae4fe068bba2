-- The mixtures that the code makes, set by set, are those of the definition.
use mathlib.Core.Path.{◌≡◌, refl, ap, ap₂, subst, sym, ◌∙◌}
use mathlib.Core.Bool.{Bool, cond, false, true}
use mathlib.Core.List.{List, [], ◌∷◌, ◌++◌, map, append-nil}
use Prim.Native.Nat.{ℕ, suc, ◌+◌}
use native.Mathlib.Omega.{arith}
use lib.ListN.{length, length-map}
use Rattle.model.specs.declared.Group.{Group}
use Rattle.model.specs.Copies.{mixed, mixtures, reenters, sets_below, subsets}
use Rattle.model.specs.Groups.{Processes, Within, merge, processes_of, within_test}
use Rattle.model.specs.Lists.{concat_map, filter}
use Rattle.model.proofs.Lists.{map_append}
use Rattle.model.proofs.Mixtures.{merge_nowhere, nowhere, nowhere_within, test_within, within_test_lem}
use Rattle.model.proofs.Tests.{by_test}
use Rattle.table.specs.Present.{present_in}
use Rattle.table.specs.declared.Table.{Table}
use Rattle.table.specs.Reading.{Holds, saturated_in, system_in}
use Rattle.copies.specs.declared.Copying.{Copying}
use Rattle.copies.specs.declared.Mixed.{Mixed}
use Rattle.copies.specs.CopyingOf.{CopyingOf}
use Rattle.copies.specs.Mixing.{MixedOf, mixture_of, mixtures_below, mixtures_in, sets_in}
use Rattle.copies.proofs.Groups.{merged_mixed}
use Rattle.copies.proofs.GrowingLists.{Part, chosen_concat, filter_last, filter_skip, map_same}

-- ---- set by set
module _ (x : Mixed) where
  abbrev test : Processes → Bool
  test M = within_test M (processes_of x.bits)

  suc_below : (m : ℕ) → sets_below (m + 1) ≡ sets_below m ++ processes_of m ∷ []
  suc_below m = ap sets_below (let e : m + 1 ≡ suc m = omega arith in e)

  pub mixtures_more : (m : ℕ) → within_test (processes_of m) (processes_of x.bits) ≡ true → mixtures_below x (m + 1) ≡ mixtures_below x m ++ mixture_of x (processes_of m) ∷ []
  unfolding mixtures_below
  mixtures_more m y = ap (map (mixture_of x)) (ap (filter test) (suc_below m) ∙ filter_last test (sets_below m) (processes_of m) y) ∙ map_append (mixture_of x) (filter test (sets_below m)) (processes_of m ∷ [])

  pub mixtures_same : (m : ℕ) → within_test (processes_of m) (processes_of x.bits) ≡ false → mixtures_below x (m + 1) ≡ mixtures_below x m
  unfolding mixtures_below
  mixtures_same m n = ap (map (mixture_of x)) (ap (filter test) (suc_below m) ∙ filter_skip test (sets_below m) (processes_of m) n)

  pub mixtures_step : (m : ℕ) → Part (mixtures_below x m) (mixtures_below x (m + 1))
  mixtures_step m = by_test (within_test (processes_of m) (processes_of x.bits))
      (λ y. record { rest = mixture_of x (processes_of m) ∷ []; is = mixtures_more m y })
      (λ n. record { rest = []; is = mixtures_same m n ∙ sym (append-nil (mixtures_below x m)) })

  pub mixtures_none : mixtures_below x 0 ≡ []
  unfolding mixtures_below
  mixtures_none = refl

-- ---- all of them
module _ (table : List ℕ) (t : Table) (holds : Holds table t) (c : Copying) (copying : CopyingOf table t c) (bits : ℕ) (within : Within (processes_of bits) (present_in t)) (g : Group) (x : Mixed) (is : MixedOf c bits g x) where
  all_copied : reenters (system_in table) ≡ true → mixtures_below x 16 ≡ mixtures (system_in table).states (processes_of bits) g
  unfolding mixtures_below mixtures subsets
  all_copied y =
      map_same (mixture_of x) (λ M. mixed (system_in table).states M g) (λ M. within_test M (processes_of x.bits)) one (sets_below 16)
      ∙ ap (λ (b : ℕ). map (λ M. mixed (system_in table).states M g) (filter (λ M. within_test M (processes_of b)) (sets_below 16))) is.processes
    where
      one : (M : Processes) → within_test M (processes_of x.bits) ≡ true → mixture_of x M ≡ mixed (system_in table).states M g
      one M w =
          ap₂ (merge M) (is.copied (copying.made ∙ y)) is.plain
          ∙ merged_mixed table t holds c copying (processes_of bits) within M g (subst (λ (b : ℕ). Within M (processes_of b)) is.processes (test_within M (processes_of x.bits) w))

  one_own : mixtures_below x 1 ≡ g ∷ []
  one_own =
      mixtures_more x 0 (within_test_lem nowhere (processes_of x.bits) (nowhere_within (processes_of x.bits)))
      ∙ ap₂ (λ (front : List Group) (h : Group). front ++ h ∷ []) (mixtures_none x) (merge_nowhere x.copied x.plain ∙ is.plain)

  pub mixtures_all : mixtures_below x (sets_in table) ≡ mixtures_in table (processes_of bits) g
  unfolding mixtures_in
  mixtures_all = by_test (reenters (system_in table)) (λ y. rw y (all_copied y)) (λ n. rw n one_own)

-- as many as the processes have subsets
pub mixtures_size : (table : List ℕ) (L : Processes) (g : Group) → length (mixtures_in table L g) ≡ cond (reenters (system_in table)) (length (subsets L)) 1
unfolding mixtures_in mixtures
mixtures_size table L g = by_test (reenters (system_in table)) (λ y. rw y (length-map (subsets L) (λ M. mixed (system_in table).states M g))) (λ n. rw n)

-- the accepting groups of the automaton that is saturated are the mixtures of the table's
pub accepting_mixed : (table : List ℕ) (P : Processes) → (system_in table).processes ≡ P → (saturated_in table).accepting ≡ concat_map (mixtures_in table P) (system_in table).accepting
unfolding mixtures_in
accepting_mixed table P e = chosen_concat (reenters (system_in table)) (mixtures (system_in table).states (system_in table).processes) (mixtures_in table P)
    (λ g. ap (λ (L : Processes). cond (reenters (system_in table)) (mixtures (system_in table).states L g) (g ∷ [])) e) (system_in table).accepting
