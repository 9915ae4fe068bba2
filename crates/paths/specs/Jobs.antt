-- A search for what one rule adds, as the code holds it.
use Rattle.std.specs.Prelude.{◌≡◌, Bool, true, false, cond, ◌||◌, List, [], ◌∷◌, ◌++◌, map, ℕ, zero, suc, ◌+◌, ◌*◌, ◌<◌, ◌≤◌, min, eqb, ltb, length, get_or, set, take, drop}
use Rattle.model.specs.declared.Group.{Group}
use Rattle.model.specs.Lists.{Each, sum_over}
use Rattle.model.specs.Groups.{Processes, restrict, merge}
use Rattle.model.specs.Tables.{written_places}
use Rattle.model.specs.Log.{Record, Path, Candidate, added_record, no_number, record_at, steps_cap}
use Rattle.model.specs.Records.{record_length, letter_at, steps_at}
use Rattle.searches.specs.Searches.{fresh_paths}
use Rattle.states.specs.StateNumbers.{state_count, state_number, Over}
use Rattle.states.specs.StateSets.{member, inserted, set_length}
use Rattle.scratch.specs.Regions.{keys_at, passed_at, passed_bit, passed_end, rings_at, seen_at, seen_bit}
use Rattle.records.specs.declared.Entry.{Entry}
use Rattle.records.specs.Entries.{HasRecord, with_entry}
use Rattle.packs.specs.Packs.{mask_of, packed_after, packed_before, processes_in, unpacked}
use Rattle.rings.specs.Rings.{RingRoom, Ringed, Freshened}
use Rattle.keys.specs.Keys.{Indexed, KeyRoom, held_below}
use Rattle.paths.specs.declared.Job.{Job}
use Rattle.paths.specs.declared.Trail.{Trail}
use Rattle.paths.specs.Arrivals.{end_number, hit, stored, taken}

-- ---- the rule
abbrev pub job_word : Job → List ℕ
job_word job = take job.count job.letters

-- the mask at the first place with the letter
abbrev pub look_up : List ℕ → List ℕ → ℕ → ℕ
look_up [] ms a = 0
look_up (l ∷ ls) [] a = 0
look_up (l ∷ ls) (m ∷ ms) a = cond (eqb a l) m (look_up ls ms a)

-- the processes of the written letters, and those of the rule's letter
unfoldable pub job_loc : Job → ℕ → Processes
job_loc job a = processes_in (look_up job.letters job.masks a)

abbrev pub job_processes : Job → Processes
job_processes job = processes_in job.mask

-- what the rule adds for a path with these record numbers that ends in e
abbrev pub made : Job → List ℕ → Group → Candidate
made job ns e =
    record {
      key = record {
        letter = job.letter;
        before = unpacked job.before;
        after = restrict
            (job_processes job) e;
      };
      rule = job.rule;
      path = ns;
    }

-- ---- the log, as far as a search looks at it: transitions and steps
abbrev pub glance : List ℕ → ℕ → Record
glance log n =
    record {
      key = record {
        letter = letter_at log n;
        before = unpacked (packed_before log n);
        after = unpacked
            (packed_after log n);
      };
      round = 0;
      rule = no_number;
      path = [];
      steps = steps_at log n;
    }

abbrev pub glances_from : List ℕ → ℕ → ℕ → List Record
glances_from log n zero = []
glances_from log n (suc k) = glance log n ∷ glances_from log (suc n) k

abbrev pub glances : List ℕ → ℕ → List Record
glances log base = glances_from log 0 base

-- ---- the search
-- the candidates of the paths that read the rest of the word from a state, in order: all of them where a record of the
-- last round is on the way already, else those with such a record
abbrev pub offers : Job → List Record → ℕ → Bool → Group → List ℕ → List Candidate
offers job log level found g pre =
    map (λ (p : Path). made job (pre ++ p.numbers) p.end)
    (fresh_paths (job_loc job) log job.lo found (drop level (job_word job)) g)

-- a letter behind place `level` is read by a record of the last round
abbrev pub later_fresh : Job → ℕ → Bool
later_fresh job level = ltb level job.last

-- the first record number that is tried at a place
abbrev pub first_tried : Job → ℕ → Bool → ℕ
first_tried job level found = cond (found || later_fresh job level) 0 job.lo

-- the ends seen
abbrev pub seen_in : List ℕ → ℕ → Bool
seen_in s x = member s (seen_bit x)

-- the search has come by the state m at this depth, so that it leads to nothing new
unfoldable pub is_passed : List ℕ → ℕ → Bool → ℕ → Bool
is_passed s level found m = member s (passed_bit level true m) || member s (passed_bit level found m)

-- a state's bit at a depth is one of the scratch
pub record Passable (s : List ℕ) (level m : ℕ) : Type 0 where
  pub place : level < written_places
  pub small : m < state_count
  pub room : passed_end ≤ length s

-- all that a state leads to which the search came by has been seen
abbrev pub PassedRight : Job → List Record → List ℕ → Type 0
PassedRight job log s =
    (level : ℕ) (found : Bool) (m : ℕ) → level < job.count → m < state_count → member s (passed_bit level found m) ≡ true
    → (g : Group) → Over (job_processes job) g → state_number g ≡ m
    → Each (λ (c : Candidate). seen_in s (end_number c) ≡ true) (offers job log level found g [])

-- an end that the search came by, or that is held by the log
abbrev pub known : (ℕ → Bool) → List ℕ → ℕ → Bool
known held s x = seen_in s x || held x

-- the ends that the records with the rule's letter and states before have
abbrev pub held_by : Job → List ℕ → ℕ → Bool
held_by job log = held_below log job.letter job.before job.base

-- the keys of the records may be looked up; where none has the rule's letter and states before, none holds an end
pub record Lookable (job : Job) (log s : List ℕ) : Type 0 where
  pub room : KeyRoom log job.base job.n (keys_at job.n) s
  pub indexed : Indexed log job.base job.n (keys_at job.n) s
  pub unheld : job.held ≡ false → (x : ℕ) → held_by job log x ≡ false

-- what does not change during a search
pub record Searchable (job : Job) (log s : List ℕ) : Type 0 where
  pub few : job.count ≤ written_places
  pub letters : length job.letters ≡ written_places
  pub width : length job.masks ≡ written_places
  pub low : job.lo ≤ job.base
  pub holds : job.n * record_length ≤ length log
  pub room : RingRoom log job.base job.n rings_at s
  pub ringed : Ringed log job.base job.n rings_at s
  pub freshened : Freshened log job.lo job.base job.n rings_at s
  pub keys : Lookable job log s
  -- groups of the records are numbers of 32 bits
  pub small : (i : ℕ) → i < job.base → (packed_before log i < 4294967296) × (packed_after log i < 4294967296)
  -- a written letter has the processes of its place, and its transitions lead from states of the rule's processes to
  -- such states
  pub masks : (j : ℕ) → j < job.count → get_or job.masks j 0 ≡ mask_of (job_loc job (get_or job.letters j 0))
  pub shapes : (i j : ℕ) → i < job.base → j < job.count → letter_at log i ≡ get_or job.letters j 0 → (g : Group)
      → Over (job_processes job) g
      → Over (job_processes job) (merge (job_loc job (get_or job.letters j 0)) (unpacked (packed_after log i)) g)
  -- no record of the last round reads a letter behind the last fresh one
  pub stale : (i j : ℕ) → job.lo ≤ i → i < job.base → job.last < j → j < job.count
      → letter_at log i ≡ get_or job.letters j 0 → ⊥
  pub own : job.mask ≡ mask_of (job_processes job)
  pub head : job.before < 4294967296
  pub passed : PassedRight job (glances log job.base) s

-- where the search stands
pub record Standing (job : Job) (log : List ℕ) (level state : ℕ) (trail : Trail) : Type 0 where
  pub within : level ≤ job.count
  pub packed : state < 4294967296
  pub over : Over (job_processes job) (unpacked state)
  pub size : length trail.places ≡ written_places
  pub numbers : Each (λ (m : ℕ). m < job.base) (take level trail.places)
  pub spare : (j : ℕ) → level ≤ j → j < written_places → get_or trail.places j no_number ≡ no_number
  pub steps : trail.steps
      ≡ min (1 + sum_over (λ m. (record_at (glances log job.base) m).steps) (take level trail.places)) steps_cap

-- a search from a state, or an arrival at it, may begin
pub record Begins (job : Job) (level state : ℕ) (trail : Trail) (count : ℕ) (log s : List ℕ) : Type 0 where
  pub ready : Searchable job log s
  pub stands : Standing job log level state trail
  pub low : job.base ≤ count
  pub few : count ≤ job.n + 1

-- record r may be put behind a path
pub record Lengthens (log : List ℕ) (trail : Trail) (level r : ℕ) : Type 0 where
  pub place : level < written_places
  pub number : r < 65536
  pub holds : HasRecord log r
  pub steps : trail.steps ≤ steps_cap

-- what an arrival at, or a search from, some candidates leaves, where these ends are held
pub record Searched (job : Job) (held : ℕ → Bool) (cs : List Candidate) (count : ℕ) (log s : List ℕ) (count' : ℕ)
    (log' s' : List ℕ) : Type 0 where
  -- the number of records, or n + 1 where the log has no room for all
  pub counted : count' ≡ min (count + length (taken (known held s) cs)) (job.n + 1)
  pub written : log'
      ≡ stored job.n log count (map (added_record job.round (glances log job.base)) (taken (known held s) cs))
  pub seen : (x : ℕ) → x < state_count → seen_in s' x ≡ (seen_in s x || hit cs x)
  pub scratch_length : length s' ≡ length s
  -- of the scratch only the ends seen and the states passed behind the first letter change
  pub kept : (i : ℕ) → seen_at + set_length ≤ i → i < passed_at + 2 * set_length → get_or s' i 0 ≡ get_or s i 0
  pub outside : (i : ℕ) → passed_end ≤ i → get_or s' i 0 ≡ get_or s i 0
  pub passed : PassedRight job (glances log job.base) s'

-- ---- the path so far
abbrev pub longer_trail : List ℕ → Trail → ℕ → ℕ → Trail
longer_trail log trail level r = record {
  places = set trail.places level r;
  steps = min (trail.steps + min (steps_at log r) steps_cap) steps_cap;
}

-- ---- an arrival
-- the candidate of a path that ends in the state, if a record of the last round is on it
abbrev pub arrivals : Job → Bool → ℕ → Trail → List Candidate
arrivals job found state trail = cond found (made job (take job.count trail.places) (unpacked state) ∷ []) []

abbrev pub end_entry : Job → ℕ → Trail → Entry
end_entry job after trail = record {
  letter = job.letter;
  before = unpacked job.before;
  after = unpacked after;
  round = job.round;
  rule = job.rule;
  path = trail.places;
  steps = trail.steps;
}

unfoldable pub stored_end : List ℕ → Job → ℕ → Trail → ℕ → List ℕ
stored_end log job after trail count = cond (ltb count job.n) (with_entry log count (end_entry job after trail)) log

-- the end x is noted
abbrev pub with_end : List ℕ → ℕ → List ℕ
with_end s x = cond (seen_in s x) s (inserted s (seen_bit x))
