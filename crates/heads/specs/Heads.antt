-- What the search of a head leaves, and what is added for it.
use Rattle.std.specs.Prelude.{◌≡◌, Bool, true, false, ◌||◌, List, ◌++◌, map, ℕ, ◌+◌, ◌*◌, ◌<◌, ◌≤◌, min, length, get_or, take}
use Rattle.model.specs.declared.Group.{Group}
use Rattle.model.specs.Groups.{Processes}
use Rattle.model.specs.Log.{Candidate, added_record}
use Rattle.model.specs.Records.{log_bytes, record_length}
use Rattle.model.specs.Lists.{filter}
use Rattle.states.specs.StateNumbers.{Over, state_count, state_number}
use Rattle.states.specs.StateSets.{member, set_length}
use Rattle.scratch.specs.Regions.{active_at, counts_end, passed_at, passed_bit, passed_end, rings_at, seen_at}
use Rattle.packs.specs.Packs.{packed}
use Rattle.keys.specs.Keys.{held_below}
use Rattle.table.specs.declared.Table.{Table}
use Rattle.table.specs.Reading.{rule_in}
use Rattle.rules.specs.Regions.{has_position}
use Rattle.rules.specs.Rules.{ordered_rule}
use Rattle.paths.specs.Arrivals.{hit, stored, taken}
use Rattle.paths.specs.Jobs.{known, seen_in}
use Rattle.ranks.specs.Ranks.{RanksOnly, Sorted}
use Rattle.heads.specs.declared.Progress.{Progress}
use Rattle.heads.specs.declared.Round.{Round}
use Rattle.heads.specs.Rounds.{earlier_log, head_additions, head_at, head_candidates, is_offered}

-- ---- sets cleared
-- every group of the processes has its number from this byte of a set on
abbrev pub FirstByte : Processes → ℕ → Type 0
FirstByte L from = (from ≤ set_length) × ((g : Group) → Over L g → 8 * from ≤ state_number g)

-- the sets of a depth are cleared from a byte on
pub record DepthCleared (from depth : ℕ) (s s' : List ℕ) : Type 0 where
  pub size : length s' ≡ length s
  pub clear : (found : Bool) (m : ℕ) → 8 * from ≤ m → m < state_count → member s' (passed_bit depth found m) ≡ false
  pub others : (d : ℕ) (found : Bool) (m : ℕ) → (d ≡ depth → ⊥) → m < state_count
      → member s' (passed_bit d found m) ≡ member s (passed_bit d found m)
  pub before : (i : ℕ) → i < passed_at + 2 * set_length → get_or s' i 0 ≡ get_or s i 0
  pub behind : (i : ℕ) → passed_end ≤ i → get_or s' i 0 ≡ get_or s i 0

-- no state from a number on is passed at the depths behind the first and below `depth`
pub record PassedCleared (from depth : ℕ) (s s' : List ℕ) : Type 0 where
  pub size : length s' ≡ length s
  pub clear : (d : ℕ) (found : Bool) (m : ℕ) → 1 ≤ d → d < depth → 8 * from ≤ m → m < state_count
      → member s' (passed_bit d found m) ≡ false
  pub before : (i : ℕ) → i < passed_at + 2 * set_length → get_or s' i 0 ≡ get_or s i 0
  pub behind : (i : ℕ) → passed_end ≤ i → get_or s' i 0 ≡ get_or s i 0

-- ---- searches
-- candidates have arrived one after the other: the first for each end that was not seen before and is not held is
-- written, as long as the log has room
pub record Arrived (table : List ℕ) (round : Round) (held : ℕ → Bool) (cs : List Candidate) (count : ℕ) (log s : List ℕ)
    (count' : ℕ) (log' s' : List ℕ) : Type 0 where
  pub counted : count' ≡ min (count + length (taken (known held s) cs)) (round.n + 1)
  pub written : log'
      ≡ stored round.n log count
      (map (added_record round.number (earlier_log table round.number)) (taken (known held s) cs))
  pub seen : (x : ℕ) → x < state_count → seen_in s' x ≡ (seen_in s x || hit cs x)
  pub scratch_length : length s' ≡ length s
  pub kept : (i : ℕ) → seen_at + set_length ≤ i → i < passed_at + 2 * set_length → get_or s' i 0 ≡ get_or s i 0
  pub outside : (i : ℕ) → passed_end ≤ i → get_or s' i 0 ≡ get_or s i 0

-- no active position before p has its head
abbrev pub Leading : List ℕ → List ℕ → ℕ → Type 0
Leading table s p = (q : ℕ) → q < p → has_position s active_at q ≡ true → head_at table s q ≡ head_at table s p → ⊥

-- q is the position of the first active rule behind p that has another head than the rule at p, or there is none
pub record NextHead (table : List ℕ) (t : Table) (s : List ℕ) (p q : ℕ) : Type 0 where
  pub later : p < q
  pub active : q < t.rules → has_position s active_at q ≡ true
  pub same : (r : ℕ) → p ≤ r → r < q → r < t.rules → has_position s active_at r ≡ true
      → head_at table s r ≡ head_at table s p
  pub other : q < t.rules → head_at table s q ≡ head_at table s p → ⊥

-- the letter and the states before of the rule at p
abbrev pub letter_of : List ℕ → List ℕ → ℕ → ℕ
letter_of table s p = (rule_in table (ordered_rule s p)).letter

abbrev pub before_of : List ℕ → List ℕ → ℕ → Group
before_of table s p = (rule_in table (ordered_rule s p)).before

-- the ends of the records that have the head of the rule at p
abbrev pub head_held : List ℕ → Round → List ℕ → List ℕ → ℕ → ℕ → Bool
head_held table round log s p = held_below log (letter_of table s p) (packed (before_of table s p)) round.base

-- all active rules with the head of the rule at p have been searched
pub record HeadSearched (table : List ℕ) (t : Table) (round : Round) (p count : ℕ) (log s : List ℕ) (r : Progress)
    (log' s' : List ℕ) : Type 0 where
  pub next : NextHead table t s p r.position
  pub arrived : Arrived table round (head_held table round log s p)
      (filter (is_offered round) (head_candidates table round (letter_of table s p) (before_of table s p))) count log s
      r.count log' s'

-- the records from `from` on and below `to` are sorted, where the log can hold them
pub record SortedNew (from to n : ℕ) (log s log' s' : List ℕ) : Type 0 where
  pub within : to ≤ n → Sorted from to log log'
  pub over : n < to → log' ≡ log
  pub ranks : RanksOnly s s'

-- the records of the head have been added behind `count` records, or there is no room for them
pub record HeadAdded (table : List ℕ) (t : Table) (round : Round) (p count : ℕ) (log s : List ℕ) (r : Progress)
    (log' s' : List ℕ) : Type 0 where
  pub next : NextHead table t s p r.position
  pub counted : r.count
      ≡ min (count + length (head_additions table round (letter_of table s p) (before_of table s p))) (round.n + 1)
  pub bytes : r.count ≤ round.n → take (r.count * record_length) log'
      ≡ take (count * record_length) log
      ++ log_bytes
      (map (added_record round.number (earlier_log table round.number))
      (head_additions table round (letter_of table s p) (before_of table s p)))
  pub front : take (round.base * record_length) log' ≡ take (round.base * record_length) log
  pub log_length : length log' ≡ length log
  pub scratch_length : length s' ≡ length s
  pub kept : (i : ℕ) → counts_end ≤ i → i < passed_at + 2 * set_length → get_or s' i 0 ≡ get_or s i 0
  pub rings : (i : ℕ) → rings_at ≤ i → get_or s' i 0 ≡ get_or s i 0
