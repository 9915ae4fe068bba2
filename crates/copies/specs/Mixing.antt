-- The mixtures of a group as the code makes them: its plain states and their copies, set of processes by set of
-- processes.
use Rattle.std.specs.Prelude.{◌≡◌, cond, false, true, List, [], ◌∷◌, map, ℕ}
use Rattle.model.specs.declared.Group.{Group}
use Rattle.model.specs.Copies.{copies, mixtures, reenters, sets_below}
use Rattle.model.specs.Groups.{Processes, at, merge, processes_of, restrict, within_test}
use Rattle.model.specs.Lists.{filter}
use Rattle.table.specs.Reading.{system_in}
use Rattle.copies.specs.declared.Copying.{Copying}
use Rattle.copies.specs.declared.Mixed.{Mixed}

-- x has the group g and the copies of its states at the processes in bits; where the copy is not made, the group stands
-- for them
pub record MixedOf (c : Copying) (bits : ℕ) (g : Group) (x : Mixed) : Type 0 where
  pub processes : x.bits ≡ bits
  pub plain : x.plain ≡ g
  pub copied : c.made ≡ true → x.copied ≡ restrict (processes_of bits) (copies (at c.states) g)
  pub own : c.made ≡ false → x.copied ≡ g

-- the mixture for the set M, and those for the sets below n that are within the processes
abbrev pub mixture_of : Mixed → Processes → Group
mixture_of x M = merge M x.copied x.plain

unfoldable pub mixtures_below : Mixed → ℕ → List Group
mixtures_below x n = map (mixture_of x) (filter (λ M. within_test M (processes_of x.bits)) (sets_below n))

-- the number of sets that are gone through
abbrev pub sets_in : List ℕ → ℕ
sets_in table = cond (reenters (system_in table)) 16 1

-- all mixtures of a group over L; where nothing is copied, the group alone
unfoldable pub mixtures_in : List ℕ → Processes → Group → List Group
mixtures_in table L g = cond (reenters (system_in table)) (mixtures (system_in table).states L g) (g ∷ [])
