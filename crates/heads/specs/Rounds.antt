-- A round of saturation, as the code holds it: the records of the earlier rounds stand in front and are in rings, and
-- the rules are in order.
use Rattle.std.specs.Prelude.{◌≡◌, Bool, true, ◌&&◌, ◌||◌, List, [], map, ℕ, ◌+◌, ◌-◌, ◌*◌, ◌<◌, ◌≤◌, eqb, ltb, length, get_or, take}
use Rattle.model.specs.declared.Group.{Group}
use Rattle.model.specs.Lists.{any_of, filter}
use Rattle.model.specs.Log.{Record, Candidate, candidate, collect, log_at, paths}
use Rattle.model.specs.Records.{letter_at, log_bytes, record_length}
use Rattle.model.specs.Systems.{Rule}
use Rattle.searches.specs.Searches.{any_from, candidates_of, is_head, rule_head}
use Rattle.states.specs.StateSets.{set_length}
use Rattle.scratch.specs.Regions.{active_at, keys_at, links_end, passed_at, rings_at}
use Rattle.rings.specs.Rings.{Freshened, RingRoom, Ringed}
use Rattle.keys.specs.Keys.{Indexed}
use Rattle.table.specs.declared.Table.{Table}
use Rattle.table.specs.Reading.{Holds, rule_in, saturated_in, system_in}
use Rattle.rules.specs.Regions.{has_position, position_ceiling}
use Rattle.rules.specs.Rules.{Ordered, Writers, has_letter, ordered_rule}
use Rattle.heads.specs.declared.Round.{Round}

-- the log that a round starts from
abbrev pub earlier_log : List ℕ → ℕ → List Record
earlier_log table number = log_at (saturated_in table) (number - 1)

-- A round looks at a rule if one of its written letters is among those of the last round's records; the first round
-- looks at all.
unfoldable pub is_active : Round → Rule → Bool
is_active round r = eqb round.number 1 || any_of (has_letter round.fresh) r.written

-- the head of the rule at position p
abbrev pub head_at : List ℕ → List ℕ → ℕ → List ℕ
head_at table s p = rule_head (rule_in table (ordered_rule s p))

-- the rules are in order, and no state is passed at the first depth of a search
pub record Prepared (table : List ℕ) (t : Table) (s : List ℕ) : Type 0 where
  pub ordered : Ordered table t.rules s
  pub writers : Writers table t.letters t.rules s
  pub first_depth : (i : ℕ) → passed_at ≤ i → i < passed_at + 2 * set_length → get_or s i 0 ≡ 0

pub record InRound (table : List ℕ) (t : Table) (round : Round) (log s : List ℕ) : Type 0 where
  pub holds : Holds table t
  pub begun : 1 ≤ round.number
  -- each round before it added a record
  pub late : round.number ≤ round.base + 1
  pub size : round.base ≡ length (earlier_log table round.number)
  pub bytes : take (round.base * record_length) log ≡ log_bytes (earlier_log table round.number)
  pub records : round.n * record_length ≤ length log
  -- the records of the last round are those from lo on, and their letters are the fresh ones
  pub low : round.lo ≤ round.base
  pub last : 2 ≤ round.number → round.lo ≡ length (log_at (saturated_in table) (round.number - 2))
  pub fresh : (i : ℕ) → round.lo ≤ i → i < round.base → has_letter round.fresh (letter_at log i) ≡ true
  pub room : RingRoom log round.base round.n rings_at s
  pub ringed : Ringed log round.base round.n rings_at s
  pub freshened : Freshened log round.lo round.base round.n rings_at s
  pub prepared : Prepared table t s
  pub active : (p : ℕ) → p < position_ceiling
      → has_position s active_at p ≡ (ltb p t.rules && is_active round (rule_in table (ordered_rule s p)))
  -- the keys of the records are indexed, unless the round looks at no rule
  pub links : links_end round.n ≤ length s
  pub indexed : (p : ℕ) → p < t.rules → has_position s active_at p ≡ true
      → Indexed log round.base round.n (keys_at round.n) s

-- ---- what is searched
-- a path without a record of the last round adds nothing, but the first round goes through all
abbrev pub is_offered : Round → Candidate → Bool
is_offered round c = eqb round.number 1 || any_from round.lo c.path

-- what rule k adds, and of it what is searched for
abbrev pub rule_candidates : List ℕ → ℕ → ℕ → List Candidate
rule_candidates table number k =
    map (candidate (system_in table).loc (rule_in table k) k)
    (paths (system_in table).loc (earlier_log table number) (rule_in table k).written (rule_in table k).after)

abbrev pub rule_offers : List ℕ → Round → ℕ → List Candidate
rule_offers table round k = filter (is_offered round) (rule_candidates table round.number k)

-- the rules of a head that the round looks at, and what they add
abbrev pub looked_at : Round → ℕ → Group → Rule → Bool
looked_at round a g r = is_active round r && is_head a g r

abbrev pub head_candidates : List ℕ → Round → ℕ → Group → List Candidate
head_candidates table round a g =
    candidates_of (system_in table).loc (earlier_log table round.number) (looked_at round a g) (system_in table).rules 0

unfoldable pub head_additions : List ℕ → Round → ℕ → Group → List Candidate
head_additions table round a g = collect (earlier_log table round.number) (head_candidates table round a g) []
