-- Records of the log as the code holds them, and where their fields stand in the log's bytes.
use Rattle.std.specs.Prelude.{◌≡◌, List, [], ◌∷◌, ◌++◌, ℕ, zero, suc, ◌+◌, ◌*◌, ◌^◌, ◌<◌, ◌≤◌, length, get_or, take, drop}
use Rattle.model.specs.Groups.{Process, at}
use Rattle.model.specs.Lists.{Each}
use Rattle.model.specs.Tables.{written_places}
use Rattle.model.specs.Log.{Record, no_number}
use Rattle.model.specs.Records.{record_length, little_endian, group_bytes, path_bytes, letter_at, before_at, after_at, round_at}
use Rattle.model.specs.Records.{rule_at, place_at, steps_at}
use Rattle.records.specs.declared.Entry.{Entry}

-- ---- writing
-- a number of a path, or FFFF past its end
abbrev pub path_place : List ℕ → ℕ → ℕ
path_place path j = get_or path j no_number

-- so many places of a path
abbrev pub padded : ℕ → List ℕ → List ℕ
padded zero ns = []
padded (suc k) [] = no_number ∷ padded k []
padded (suc k) (n ∷ ns) = n ∷ padded k ns

unfoldable pub record_entry : Record → Entry
record_entry r = record {
  letter = r.key.letter;
  before = r.key.before;
  after = r.key.after;
  round = r.round;
  rule = r.rule;
  path = padded written_places r.path;
  steps = r.steps;
}

unfoldable pub entry_bytes : Entry → List ℕ
entry_bytes e =
    e.letter ∷ group_bytes e.before ++ group_bytes e.after
    ++ little_endian 2 e.round ++ little_endian 2 e.rule ++ path_bytes written_places e.path
    ++ little_endian 3 e.steps

-- the log has room for a record n
abbrev pub HasRecord : List ℕ → ℕ → Type 0
HasRecord log n = n * record_length + record_length ≤ length log

-- the log with a record n
unfoldable pub with_entry : List ℕ → ℕ → Entry → List ℕ
with_entry log n e = take (n * record_length) log ++ (entry_bytes e ++ drop record_length (drop (n * record_length) log))

-- ---- the numbers of a record fit the bytes that they are written in
pub record Fits (r : Record) : Type 0 where
  pub letter : r.key.letter < 256
  pub before : (i : Process) → at r.key.before i < 256
  pub after : (i : Process) → at r.key.after i < 256
  pub round : r.round < 65536
  pub rule : r.rule < 65536
  pub short : length r.path ≤ written_places
  pub path : Each (λ (m : ℕ). m < 65536) r.path
  pub steps : r.steps < 2 ^ 24

-- what the readers of record n give are the fields of r
pub record Reads (log : List ℕ) (n : ℕ) (r : Record) : Type 0 where
  pub letter : letter_at log n ≡ r.key.letter
  pub before : before_at log n ≡ r.key.before
  pub after : after_at log n ≡ r.key.after
  pub round : round_at log n ≡ r.round
  pub rule : rule_at log n ≡ r.rule
  pub place : (j : ℕ) → j < written_places → place_at log n j ≡ path_place r.path j
  pub steps : steps_at log n ≡ r.steps
