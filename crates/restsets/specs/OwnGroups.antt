-- The groups of a letter's processes, by their numbers: the letter's own states, and 0 at every other process; and what
-- the records of a letter add to a set.
use Rattle.std.specs.Prelude.{◌≡◌, Bool, true, false, cond, ◌⊎◌, List, ℕ, ◌+◌, ◌-◌, ◌%◌, ◌<◌, ◌≤◌, length}
use Rattle.model.specs.declared.Group.{Group}
use Rattle.model.specs.Groups.{Process, Processes, p0, p1, p2, p3, at, has, build, processes_of, restrict}
use Rattle.model.specs.Records.{letter_at, before_at}
use Rattle.states.specs.StateNumbers.{state_count, state_number, Over}
use Rattle.states.specs.StateSets.{set_length, member}
use Rattle.scratch.specs.Regions.{leaders_at, links_end}
use Rattle.packs.specs.Packs.{mask_of}
use Rattle.wordsets.specs.WordSets.{has_bit, RestBits, SetsApart}
use Rattle.table.specs.declared.Table.{Table}
use Rattle.table.specs.Reading.{saturated_in}
use Rattle.leaders.specs.Leaders.{Linked, leader_of, Chained, among}
use Rattle.rests.specs.declared.Letter.{Letter}
use Rattle.rests.specs.declared.Scope.{Scope}
use Rattle.rests.specs.Rests.{processes_of_table, zeroed_group, set_at, some_lead}
use Rattle.restsets.specs.declared.Frame.{Frame}
use Rattle.restsets.specs.Sets.{OnlySet}

-- the highest of so many states, where they are copied or not; and of each process, 0 where the table lacks it
abbrev pub last_of : Bool → ℕ → ℕ
last_of copied states = cond copied (states + states) states - 1

unfoldable pub last_states : List ℕ → Table → Group
last_states table t = zeroed_group (processes_of_table t) (build (λ i. (saturated_in table).states i - 1))

-- ---- what is gone through for a letter
-- how many states of each process, beside the letter's own ones; one or eight of processes 2 and 3, as the bits of rest
-- tell
abbrev pub extent : Frame → Process → ℕ
extent f p0 = f.rows
extent f p1 = f.words
extent f p2 = cond (has_bit f.rest 8) 8 1
extent f p3 = cond (has_bit f.rest 1) 8 1

pub record Framed (L : Processes) (f : Frame) : Type 0 where
  pub mask : f.mask ≡ mask_of L
  pub alone : (i : Process) → has L i ≡ true → extent f i ≡ 1
  pub some : (i : Process) → 0 < extent f i
  pub small : (i : Process) → extent f i ≤ 8
  pub rest : RestBits f.rest (extent f p2) (extent f p3)

-- one state of each process
abbrev pub Single : Frame → Type 0
Single f = (i : Process) → extent f i ≡ 1

-- g has states below 8 at the letter's processes
abbrev pub Numbered : Processes → Group → Type 0
Numbered L g = (i : Process) → has L i ≡ true → at g i < 8

-- g is gone through
pub record InFrame (L : Processes) (f : Frame) (g : Group) : Type 0 where
  pub states : Numbered L g
  pub others : (i : Process) → has L i ≡ false → at g i % 8 < extent f i

-- the frame reaches to the group `last`
pub record FrameTo (L : Processes) (last : Group) (f : Frame) : Type 0 where
  pub framed : Framed L f
  pub reaches : (g : Group) → Numbered L g → ((i : Process) → at g i % 8 ≤ at last i % 8) → InFrame L f g

-- ---- what is added
-- each record of the letter has states of the letter's processes before it
abbrev pub Shaped : List ℕ → ℕ → Letter → Type 0
Shaped log limit a =
    (r : ℕ) → r < limit → letter_at log r ≡ a.number → Over (processes_of a.bits) (before_at log r)

-- the states from which a letter leads into the set at `next` can be added to the set at `to`
pub record Addable (log : List ℕ) (c : Scope) (a : Letter) (f : Frame) (next to : ℕ) (s : List ℕ) : Type 0 where
  pub linked : Linked log c.count c.n s
  pub limited : c.limit ≤ c.count
  pub shaped : Shaped log c.limit a
  pub apart : SetsApart s next to
  pub low : to + set_length ≤ leaders_at
  pub framed : Framed (processes_of a.bits) f

-- and `leader` is one of the letter's
pub record Leading (log : List ℕ) (c : Scope) (a : Letter) (f : Frame) (next to : ℕ) (s : List ℕ) (leader : ℕ)
    : Type 0 where
  pub addable : Addable log c a f next to s
  pub inside : leader < c.limit
  pub leads : leader_of log a.number leader ≡ true

-- the leaders of a letter are chained
pub record LetterChained (log : List ℕ) (c : Scope) (letter : ℕ) (s : List ℕ) : Type 0 where
  pub byte : letter < 256
  pub letters : ℕ
  pub inside : among letters letter ≡ true
  pub chained : Chained log letters 0 c.count c.n s
  pub room : links_end c.n ≤ length s

-- The set at `to` got states from which the letter leads into the set `members`: of those that are gone through, all
-- that pass the test. Nothing else has changed.
pub record Added (log : List ℕ) (limit : ℕ) (members : List ℕ) (a : Letter) (f : Frame) (test : Group → Type 0) (to : ℕ)
    (s t : List ℕ) : Type 0 where
  pub same : OnlySet to s t
  pub kept : (n : ℕ) → n < state_count → member (set_at s to) n ≡ true → member (set_at t to) n ≡ true
  pub sound : (g : Group) → Numbered (processes_of a.bits) g → member (set_at t to) (state_number g) ≡ true
      → (member (set_at s to) (state_number g) ≡ true) ⊎ (some_lead log limit members a g ≡ true)
  pub complete : (g : Group) → InFrame (processes_of a.bits) f g → test g → some_lead log limit members a g ≡ true
      → member (set_at t to) (state_number g) ≡ true

-- so it got all of those with the leader's states before it
abbrev pub GroupAdded : List ℕ → Scope → Letter → Frame → ℕ → ℕ → ℕ → List ℕ → List ℕ → Type 0
GroupAdded log c a f next to leader s t =
    Added log c.limit (set_at s next) a f (λ (g : Group). restrict (processes_of a.bits) g ≡ before_at log leader) to
    s t
