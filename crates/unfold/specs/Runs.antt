-- What the unfolding asks of the path that it begins with, and what it leaves.
use Rattle.std.specs.Prelude.{◌≡◌, List, ◌++◌, ℕ, ◌<◌, ◌≤◌, length, drop}
use Rattle.std.proofs.Math.Option.{some}
use Rattle.model.specs.Lists.{Each}
use Rattle.model.specs.Log.{limit, longest_run}
use Rattle.model.specs.Systems.{System, Configuration, walk, peak}
use Rattle.model.specs.Unfolding.{emitted}

-- ns are records of the limit, no more than a start word has letters; the rules that they emit are a run from the start
-- and fit the page
pub record Unfoldable (sys : System) (ns : List ℕ) (page : List ℕ) : Type 0 where
  pub inside : Each (λ (m : ℕ). m < length (limit sys)) ns
  pub low : length ns ≤ 64
  pub end : Configuration
  pub walks : walk sys (emitted (limit sys) ns) sys.start ≡ some end
  pub fits : length (emitted (limit sys) ns) ≤ length page
  pub few : length (emitted (limit sys) ns) ≤ longest_run

-- the rules stand in the page's first places, and the answer is the peak
pub record Unfolded (sys : System) (ns : List ℕ) (before page : List ℕ) (answer : ℕ) : Type 0 where
  pub written : page ≡ emitted (limit sys) ns ++ drop (length (emitted (limit sys) ns)) before
  pub highest : answer ≡ peak sys (emitted (limit sys) ns) sys.start
