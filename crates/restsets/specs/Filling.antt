-- What making a set asks and gives: the set of the rest from letter i on, from that of the rest from letter i + 1 on.
use Rattle.std.specs.Prelude.{◌≡◌, true, List, ℕ, ◌+◌, ◌<◌, ◌≤◌, length}
use Rattle.model.specs.declared.Group.{Group}
use Rattle.states.specs.StateSets.{set_length}
use Rattle.scratch.specs.Regions.{leaders_at, links_end}
use Rattle.wordsets.specs.WordSets.{SetsApart}
use Rattle.table.specs.declared.Table.{Table}
use Rattle.table.specs.Reading.{pile_in}
use Rattle.leaders.specs.Leaders.{Chained, OutsideLeaders, among}
use Rattle.rests.specs.declared.Scope.{Scope}
use Rattle.rests.specs.Rests.{set_at, Scoped, RightForLog}
use Rattle.restsets.specs.Sets.{OnlySet}
use Rattle.restsets.specs.OwnGroups.{last_states}

-- the bits of the first k letters of the start word are among these
abbrev pub LettersIn : List ℕ → ℕ → ℕ → Type 0
LettersIn table k letters = (i : ℕ) → i < k → among letters (pile_in table i) ≡ true

-- the leaders of its letters are chained
pub record Led (table : List ℕ) (t : Table) (log : List ℕ) (count n : ℕ) (s : List ℕ) : Type 0 where
  pub letters : ℕ
  pub inside : LettersIn table t.pile letters
  pub chained : Chained log letters 0 count n s
  pub room : links_end n ≤ length s

-- they were chained, and nothing but their links has changed
pub record WordChained (table : List ℕ) (t : Table) (log : List ℕ) (count n : ℕ) (s u : List ℕ) : Type 0 where
  pub outside : OutsideLeaders n s u
  pub led : Led table t log count n u

-- the set of the rest from letter i + 1 on stands at `next`, and that of the rest from letter i on shall stand at `to`
pub record Fillable (table : List ℕ) (t : Table) (log : List ℕ) (c : Scope) (i next to : ℕ) (last : Group) (s : List ℕ)
    : Type 0 where
  pub scoped : Scoped table t log c s
  pub led : Led table t log c.count c.n s
  pub inside : i < t.pile
  pub next_right : RightForLog table t log c.limit (set_at s next) (i + 1)
  pub apart : SetsApart s next to
  pub low : to + set_length ≤ leaders_at
  pub states : last ≡ last_states table t

-- the set is right, and nothing else has changed
pub record Filled (table : List ℕ) (t : Table) (log : List ℕ) (limit k at : ℕ) (s u : List ℕ) : Type 0 where
  pub only : OnlySet at s u
  pub right : RightForLog table t log limit (set_at u at) k
