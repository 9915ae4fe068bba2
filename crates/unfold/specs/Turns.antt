-- One turn of the unfolding, in terms of the log's bytes: the record on top of the stack goes, and its path takes its
-- place.
use Rattle.std.specs.Prelude.{◌≡◌, cond, List, [], ◌∷◌, ◌++◌, ℕ, zero, suc, ◌+◌, ◌-◌, ◌<◌, ◌≤◌, eqb, leb, length, set}
use Rattle.model.specs.Log.{no_number, longest_run}
use Rattle.model.specs.Tables.{written_places}
use Rattle.model.specs.Records.{round_at, rule_at, place_at, number_at}
use Rattle.records.specs.Entries.{HasRecord}
use Rattle.lengths.specs.Projections.{Lengths, Addable, Added, Countable, Raised, noted, rule_ceiling}
use Rattle.scratch.specs.StackNumbers.{stack_place, stack_of}
use Rattle.unfold.specs.declared.Work.{Work}

-- how many of k path places of record x from place j on stand before the first that has FFFF
unfoldable pub length_from : List ℕ → ℕ → ℕ → ℕ → ℕ
length_from log x j zero = 0
length_from log x j (suc k) = cond (eqb (place_at log x j) no_number) 0 (suc (length_from log x (suc j) k))

abbrev pub path_length : List ℕ → ℕ → ℕ
path_length log x = length_from log x 0 written_places

-- the numbers in k path places from place j on; those of its path
unfoldable pub places_from : List ℕ → ℕ → ℕ → ℕ → List ℕ
places_from log x j zero = []
places_from log x j (suc k) = place_at log x j ∷ places_from log x (suc j) k

abbrev pub places : List ℕ → ℕ → List ℕ
places log x = places_from log x 0 (path_length log x)

-- the number in place j, if that is one of the first n
unfoldable pub place_below : List ℕ → ℕ → ℕ → ℕ → List ℕ
place_below log x j n = cond (leb n j) [] (place_at log x j ∷ [])

-- so many numbers have room in the scratch
abbrev pub StackRoom : List ℕ → ℕ → Type 0
StackRoom s top = stack_place top ≤ length s

-- numbers were put on the stack
pub record Pushed (s : List ℕ) (top : ℕ) (ns : List ℕ) (s' : List ℕ) (top' : ℕ) : Type 0 where
  pub size : length s' ≡ length s
  pub stack : stack_of s' top' ≡ ns ++ stack_of s top

-- record x, which is not of round 0, may be replaced by its path
pub record Replaceable (changes : List Lengths) (log s page : List ℕ) (w : Work) (x : ℕ) : Type 0 where
  pub room : StackRoom s (w.top - 1 + length (places log x))
  pub page_room : w.rules < length page
  pub few : w.rules ≤ longest_run
  pub rule : rule_at log x < rule_ceiling
  pub addable : Addable changes (rule_at log x) w.lengths
  pub countable : Countable w.highest

-- its rule is on the page, and the run has one rule more
pub record Replaced (changes : List Lengths) (log s page : List ℕ) (w : Work) (x : ℕ) (s' page' : List ℕ) (r : Work) : Type 0 where
  pub pushed : Pushed s (w.top - 1) (places log x) s' r.top
  pub emits : page' ≡ set page w.rules (rule_at log x)
  pub rules : r.rules ≡ w.rules + 1
  pub lengths : Added (noted changes (rule_at log x)) w.lengths r.lengths
  pub highest : Raised w.highest r.lengths r.highest

-- the record on top
abbrev pub top_record : List ℕ → Work → ℕ
top_record s w = number_at 2 s (stack_place (w.top - 1))

-- a turn is possible, and what it leaves
pub record Workable (changes : List Lengths) (log s page : List ℕ) (w : Work) : Type 0 where
  pub some : 0 < w.top
  pub room : StackRoom s w.top
  pub has : HasRecord log (top_record s w)
  pub replaceable : (round_at log (top_record s w) ≡ 0 → ⊥) → Replaceable changes log s page w (top_record s w)

pub record Worked (changes : List Lengths) (log s page : List ℕ) (w : Work) (s' page' : List ℕ) (r : Work) : Type 0 where
  pub skipped : round_at log (top_record s w) ≡ 0
      → (s' ≡ s) × (page' ≡ page)
      × (r ≡ record { top = w.top - 1; rules = w.rules; lengths = w.lengths; highest = w.highest })
  pub replaced : (round_at log (top_record s w) ≡ 0 → ⊥) → Replaced changes log s page w (top_record s w) s' page' r
