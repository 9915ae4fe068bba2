-- Document 01, "Saturation, log, run": the start's path, its unfolding into a run, and its steps.
use Rattle.std.specs.Prelude.{◌≡◌, cond, List, [], ◌∷◌, ◌++◌, ℕ, zero, suc, ◌<◌, min, eqb, length}
use Rattle.std.proofs.Math.Option.{Option, none, some}
use Rattle.model.specs.declared.Group.{Group}
use Rattle.model.specs.Lists.{concat_map, sum_over}
use Rattle.model.specs.Systems.{System, Configuration, is_accepting}
use Rattle.model.specs.Log.{Record, record_at, steps_cap, Path, paths}

-- the first path of the list that ends in an accepting group
abbrev pub first_accepting : List Group → List Path → Option Path
first_accepting acc [] = none
first_accepting acc (p ∷ ps) = cond (is_accepting p.end acc) (some p) (first_accepting acc ps)

-- the first path by record numbers by which the log accepts c
unfoldable pub accepting_path : System → List Record → Configuration → Option Path
accepting_path sys log c = first_accepting sys.accepting (paths sys.loc log c.word c.states)

-- Unfolding: take the first record of the path that isn't of round 0, emit its rule, put its reason's path in its
-- place; repeat until only round 0 is left. `Unfolds log ns rs`: the path ns emits the rules rs.
pub data Unfolds (log : List Record) : List ℕ → List ℕ → Type 0 where
  done : Unfolds log [] []
  skipped : {n : ℕ} {ns rs : List ℕ} → (record_at log n).round ≡ 0 → Unfolds log ns rs → Unfolds log (n ∷ ns) rs
  replaced : {n : ℕ} {ns rs : List ℕ} → 0 < (record_at log n).round → Unfolds log ((record_at log n).path ++ ns) rs
      → Unfolds log (n ∷ ns) ((record_at log n).rule ∷ rs)

-- the same as a function: the rules that record n emits, and those of a path. A reason's path has earlier records only,
-- so the log's length is fuel enough.
unfoldable pub emitted_by : List Record → ℕ → ℕ → List ℕ
emitted_by log zero n = []
emitted_by log (suc fuel) n =
    cond (eqb (record_at log n).round 0) []
    ((record_at log n).rule ∷ concat_map (λ m. emitted_by log fuel m) (record_at log n).path)

abbrev pub emitted : List Record → List ℕ → List ℕ
emitted log ns = concat_map (emitted_by log (length log)) ns

-- the start's steps are its path's sum, capped alike
abbrev pub path_steps : List Record → List ℕ → ℕ
path_steps log ns = min (sum_over (λ m. (record_at log m).steps) ns) steps_cap
