-- The regions of the scratch by their offsets, as the code has them. A set of state numbers at an offset is bits of the
-- scratch.
use Rattle.std.specs.Prelude.{Bool, cond, List, [], ◌∷◌, ℕ, ◌+◌, ◌*◌, ◌≤◌, ◌-◌}
use Rattle.model.specs.Tables.{written_places}
use Rattle.states.specs.StateNumbers.{state_count}
use Rattle.states.specs.StateSets.{set_length}
use Rattle.model.specs.Calls.{scratch_least}

-- ---- round 0
-- the codes of the transitions
abbrev pub transition_codes_at : ℕ
transition_codes_at = 0

-- ---- rounds
abbrev pub seen_at : ℕ
seen_at = 0

-- the bit of the end x
abbrev pub seen_bit : ℕ → ℕ
seen_bit x = 8 * seen_at + x

-- the set of a head's new ends, behind it the counts, and the first byte behind these
abbrev pub new_at : ℕ
new_at = set_length

-- the bit of the new end x
abbrev pub new_bit : ℕ → ℕ
new_bit x = 8 * new_at + x

abbrev pub counts_at : ℕ
counts_at = 1024

abbrev pub counts_end : ℕ
counts_end = 1152

-- the rule numbers in the order of their heads
abbrev pub order_at : ℕ
order_at = 1168

-- the set of the positions that a round looks at
abbrev pub active_at : ℕ
active_at = 1368

-- for each letter the set of the positions whose rules write it
abbrev pub writers_at : ℕ
writers_at = 1400

-- the states passed; before the first round the codes of the rules
abbrev pub passed_at : ℕ
passed_at = 2424

-- behind them: two sets for each written letter of a rule
abbrev pub passed_end : ℕ
passed_end = passed_at + 2 * written_places * set_length

-- the bit of the state m at a depth, come by with a record of the last round or without one
abbrev pub passed_bit : ℕ → Bool → ℕ → ℕ
passed_bit level found m = 8 * passed_at + (2 * level + cond found 1 0) * state_count + m

abbrev pub rule_codes_at : ℕ
rule_codes_at = 2424

-- the rings of the records, and behind those of n records the index of their keys
abbrev pub rings_at : ℕ
rings_at = scratch_least

abbrev pub keys_at : ℕ → ℕ
keys_at n = rings_at + 6 * n

-- the links end there
abbrev pub links_end : ℕ → ℕ
links_end n = keys_at n + 4 * n

-- ---- the start's path
-- the sets of states, one for each letter of the longest start word and the last one
abbrev pub sets_at : ℕ
sets_at = 0

-- the first leader of each letter, a link for each byte that a letter may be
abbrev pub leaders_at : ℕ
leaders_at = 65 * set_length

abbrev pub leaders_end : ℕ
leaders_end = leaders_at + 2 * 256

-- the stack of record numbers
abbrev pub stack_at : ℕ
stack_at = rings_at - 128

-- ---- a walk
-- the states that the letters read so far lead to, and those that one letter more leads to
abbrev pub here_at : ℕ
here_at = 0

abbrev pub there_at : ℕ
there_at = set_length

-- ---- regions that do not meet
-- a region: its first byte and its length
pub record Region : Type 0 where
  pub at : ℕ
  pub size : ℕ

-- each region ends before the next one begins, and the last one before a byte
abbrev pub Disjoint : List Region → ℕ → Type 0
Disjoint [] end = Unit {0}
Disjoint (r ∷ []) end = r.at + r.size ≤ end
Disjoint (r ∷ q ∷ rs) end = (r.at + r.size ≤ q.at) × Disjoint (q ∷ rs) end

abbrev pub region : ℕ → ℕ → Region
region at size = record { at = at; size = size }

-- while the rules are sorted and their writers marked
abbrev pub rule_regions : List Region
rule_regions = region order_at 200 ∷ region active_at 32 ∷ region writers_at (32 * 32) ∷ region rule_codes_at (8 * 200) ∷ []

-- in a round; what saturation uses beside the links of n records ends before byte 9,000
abbrev pub round_regions : List Region
round_regions =
    region seen_at set_length ∷ region new_at set_length ∷ region counts_at 128 ∷ region order_at 200 ∷ region active_at 32
    ∷ region writers_at (32 * 32)
    ∷ region passed_at (2 * written_places * set_length) ∷ []

abbrev pub link_regions : ℕ → List Region
link_regions n = region rings_at (6 * n) ∷ region (keys_at n) (4 * n) ∷ []

-- while the start's path is looked for, in a log of n records; a leader's link to the next one stands where the index
-- of keys was
abbrev pub start_regions : ℕ → List Region
start_regions n =
    region sets_at (65 * set_length) ∷ region leaders_at (2 * 256) ∷ region stack_at 128 ∷ region rings_at (6 * n)
    ∷ region (keys_at n) (2 * n) ∷ []

-- while a walk tells whether a configuration is accepted
abbrev pub walk_regions : List Region
walk_regions = region here_at set_length ∷ region there_at set_length ∷ []
