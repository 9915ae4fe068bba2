-- Document 01: a record's bytes, little-endian: task 1, before 4, after 4, round 2, rule 2, path 2 for each place,
-- steps 3; with the six places of request 2.4 they are 28. How records are written, and how their fields are read from
-- the log's bytes.
use Rattle.std.specs.Prelude.{List, [], ◌∷◌, ◌++◌, ℕ, zero, suc, ◌+◌, ◌*◌, ◌/◌, ◌%◌, get_or}
use Rattle.model.specs.declared.Group.{Group}
use Rattle.model.specs.Lists.{concat_map}
use Rattle.model.specs.Tables.{written_places}
use Rattle.model.specs.Automata.{Transition}
use Rattle.model.specs.Log.{Record, no_number}

abbrev pub record_length : ℕ
record_length = 16 + 2 * written_places

-- a number as so many bytes, the low one first
abbrev pub little_endian : ℕ → ℕ → List ℕ
little_endian zero x = []
little_endian (suc k) x = x % 256 ∷ little_endian k (x / 256)

abbrev pub group_bytes : Group → List ℕ
group_bytes g = g.s0 ∷ g.s1 ∷ g.s2 ∷ g.s3 ∷ []

-- so many path places, FFFF where the path has ended
abbrev pub path_bytes : ℕ → List ℕ → List ℕ
path_bytes zero ns = []
path_bytes (suc k) [] = little_endian 2 no_number ++ path_bytes k []
path_bytes (suc k) (n ∷ ns) = little_endian 2 n ++ path_bytes k ns

unfoldable pub record_bytes : Record → List ℕ
record_bytes r =
    r.key.letter ∷ group_bytes r.key.before ++ group_bytes r.key.after
    ++ little_endian 2 r.round ++ little_endian 2 r.rule ++ path_bytes written_places r.path
    ++ little_endian 3 r.steps

abbrev pub log_bytes : List Record → List ℕ
log_bytes log = concat_map record_bytes log

-- ---- reading
-- the number that so many bytes from an offset on stand for, the low one first
unfoldable pub number_at : ℕ → List ℕ → ℕ → ℕ
number_at zero l i = 0
number_at (suc k) l i = get_or l i 0 + 256 * number_at k l (suc i)

unfoldable pub group_at : List ℕ → ℕ → Group
group_at l i = record { s0 = get_or l i 0; s1 = get_or l (i + 1) 0; s2 = get_or l (i + 2) 0; s3 = get_or l (i + 3) 0 }

unfoldable pub letter_at : List ℕ → ℕ → ℕ
letter_at log n = get_or log (n * record_length) 0

unfoldable pub before_at : List ℕ → ℕ → Group
before_at log n = group_at log (n * record_length + 1)

unfoldable pub after_at : List ℕ → ℕ → Group
after_at log n = group_at log (n * record_length + 5)

-- its transition
abbrev pub key_at : List ℕ → ℕ → Transition
key_at log n = record { letter = letter_at log n; before = before_at log n; after = after_at log n }

unfoldable pub round_at : List ℕ → ℕ → ℕ
round_at log n = number_at 2 log (n * record_length + 9)

unfoldable pub rule_at : List ℕ → ℕ → ℕ
rule_at log n = number_at 2 log (n * record_length + 11)

-- path place j
unfoldable pub place_at : List ℕ → ℕ → ℕ → ℕ
place_at log n j = number_at 2 log (n * record_length + (13 + 2 * j))

unfoldable pub steps_at : List ℕ → ℕ → ℕ
steps_at log n = number_at 3 log (n * record_length + (13 + 2 * written_places))
