-- How a round is searched: the rules of one head at a time, and by those paths alone that have a record of the last
-- round. No promise to a caller cites these; the contracts of the crates that saturate do, and proofs/RoundHeads and
-- proofs/FreshPaths say that a round adds the same so.
use Rattle.std.specs.Prelude.{Bool, ◌&&◌, ◌||◌, cond, List, [], ◌++◌, ◌∷◌, map, suc, ℕ, eqb, leb}
use Rattle.model.specs.declared.Group.{Group}
use Rattle.model.specs.Automata.{move}
use Rattle.model.specs.Groups.{Processes, same_group}
use Rattle.model.specs.Lists.{any_of}
use Rattle.model.specs.Log.{Candidate, Path, Record, candidate, paths, push, reads_at}
use Rattle.model.specs.Systems.{Rule}

-- ---- by heads
-- a head: a letter, and the states before
abbrev pub head_of : ℕ → Group → List ℕ
head_of a b = a ∷ b.s0 ∷ b.s1 ∷ b.s2 ∷ b.s3 ∷ []

abbrev pub rule_head : Rule → List ℕ
rule_head r = head_of r.letter r.before

unfoldable pub is_head : ℕ → Group → Rule → Bool
is_head a b r = eqb r.letter a && same_group r.before b

-- the candidates of some rules
abbrev pub candidates_of : (ℕ → Processes) → List Record → (Rule → Bool) → List Rule → ℕ → List Candidate
candidates_of loc log ok [] n = []
candidates_of loc log ok (r ∷ rs) n =
    cond (ok r) (map (candidate loc r n) (paths loc log r.written r.after)) []
    ++ candidates_of loc log ok rs (suc n)

-- ---- by fresh paths
-- some number of the list is at or above lo
abbrev pub any_from : ℕ → List ℕ → Bool
any_from lo ns = any_of (λ (n : ℕ). leb lo n) ns

-- as `extend`; what follows is told whether there is a record from lo on before it
abbrev pub extend_fresh : (ℕ → Processes) → ℕ → Bool → ℕ → Group → (Bool → Group → List Path) → List Record → ℕ
    → List Path
extend_fresh loc lo found a g rest [] n = []
extend_fresh loc lo found a g rest (r ∷ rs) n =
    cond (reads_at loc a g r) (map (push n) (rest (found || leb lo n) (move loc r.key g))) []
    ++ extend_fresh loc lo found a g rest rs (suc n)

-- the paths that read w from g, in the order of `paths`; unless one is found before, only those with a record from lo
-- on
abbrev pub fresh_paths : (ℕ → Processes) → List Record → ℕ → Bool → List ℕ → Group → List Path
fresh_paths loc log lo found [] g = cond found (record { numbers = []; end = g } ∷ []) []
fresh_paths loc log lo found (a ∷ w) g = extend_fresh loc lo found a g (λ b h. fresh_paths loc log lo b w h) log 0
