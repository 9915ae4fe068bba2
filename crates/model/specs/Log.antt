-- Document 01, "Saturation, log, run": the log of each round, its records with their reasons and steps, and the limit.
use Rattle.std.specs.Prelude.{Bool, true, false, cond, ◌&&◌, ◌||◌, List, [], ◌∷◌, ◌++◌, map, ℕ, zero, suc, ◌+◌, ◌^◌, min, max, eqb, ltb, get_or}
use Rattle.model.specs.declared.Group.{Group}
use Rattle.model.specs.Lists.{any_of, is_empty, sum_over}
use Rattle.model.specs.Groups.{Processes, same_group, restrict}
use Rattle.model.specs.Automata.{Transition, move}
use Rattle.model.specs.Systems.{Rule, System}
use Rattle.model.specs.Saturation.{added}

-- A transition of the log with the round that adds it, and its reason: a rule number and a path of record numbers.
pub record Record : Type 0 where
  pub key : Transition
  pub round : ℕ
  pub rule : ℕ
  pub path : List ℕ
  pub steps : ℕ

-- "FFFF is no rule or no path place"
abbrev pub no_number : ℕ
no_number = 65535

-- "above 1,000,000 the figure is 1,000,001": the most steps of a run that is written, and the cap
abbrev pub longest_run : ℕ
longest_run = 1000000

abbrev pub steps_cap : ℕ
steps_cap = longest_run + 1

abbrev pub no_group : Group
no_group = record { s0 = 255; s1 = 255; s2 = 255; s3 = 255 }

-- record n, and past the log's end one that no path uses
abbrev pub no_record : Record
no_record =
    record {
      key = record { letter = 255; before = no_group; after = no_group };
      round = 0;
      rule = no_number;
      path = [];
      steps = 0;
    }

abbrev pub record_at : List Record → ℕ → Record
record_at log n = get_or log n no_record

-- the transitions that a log holds
abbrev pub keys : List Record → List Transition
keys log = map (λ (r : Record). r.key) log

-- ---- paths of the log
-- a path by its record numbers, first letter first, and the global state that it ends in
pub record Path : Type 0 where
  pub numbers : List ℕ
  pub end : Group

abbrev pub push : ℕ → Path → Path
push n p = record { numbers = n ∷ p.numbers; end = p.end }

-- the record's transition reads letter a in the global state g
unfoldable pub reads_at : (ℕ → Processes) → ℕ → Group → Record → Bool
reads_at loc a g r = eqb r.key.letter a && same_group (restrict (loc a) g) r.key.before

-- from g, by each record of the list that reads a, numbered from n on, and then as `rest` says
abbrev pub extend : (ℕ → Processes) → ℕ → Group → (Group → List Path) → List Record → ℕ → List Path
extend loc a g rest [] n = []
extend loc a g rest (r ∷ rs) n =
    cond (reads_at loc a g r) (map (push n) (rest (move loc r.key g))) [] ++ extend loc a g rest rs (suc n)

-- all paths that read w from g, in the order of their record numbers, first letter first
abbrev pub paths : (ℕ → Processes) → List Record → List ℕ → Group → List Path
paths loc log [] g = record { numbers = []; end = g } ∷ []
paths loc log (a ∷ w) g = extend loc a g (λ h. paths loc log w h) log 0

-- ---- what a round adds
-- a transition that a round may add, with the reason
pub record Candidate : Type 0 where
  pub key : Transition
  pub rule : ℕ
  pub path : List ℕ

abbrev pub candidate : (ℕ → Processes) → Rule → ℕ → Path → Candidate
candidate loc r n p = record { key = added loc r p.end; rule = n; path = p.numbers }

-- for each rule, the lowest number first, and each path over the log that starts in its after states and reads its
-- written letters
abbrev pub candidates : (ℕ → Processes) → List Record → List Rule → ℕ → List Candidate
candidates loc log [] n = []
candidates loc log (r ∷ rs) n =
    map (candidate loc r n) (paths loc log r.written r.after) ++ candidates loc log rs (suc n)

-- the order of the records of a round: letter, before, after, groups compared process 0 first
abbrev pub key_digits : Transition → List ℕ
key_digits t =
    t.letter
    ∷ t.before.s0 ∷ t.before.s1 ∷ t.before.s2 ∷ t.before.s3
    ∷ t.after.s0 ∷ t.after.s1 ∷ t.after.s2 ∷ t.after.s3 ∷ []

abbrev pub lex_less : List ℕ → List ℕ → Bool
lex_less [] [] = false
lex_less [] (y ∷ ys) = true
lex_less (x ∷ xs) [] = false
lex_less (x ∷ xs) (y ∷ ys) = ltb x y || (eqb x y && lex_less xs ys)

unfoldable pub key_less : Transition → Transition → Bool
key_less t u = lex_less (key_digits t) (key_digits u)

unfoldable pub same_key : Transition → Transition → Bool
same_key t u = eqb t.letter u.letter && same_group t.before u.before && same_group t.after u.after

abbrev pub in_log : Transition → List Record → Bool
in_log t log = any_of (λ (r : Record). same_key r.key t) log

-- the candidate in its place among the candidates that are there, unless one with its key is
abbrev pub insert : Candidate → List Candidate → List Candidate
insert c [] = c ∷ []
insert c (d ∷ ds) =
    cond (same_key c.key d.key) (d ∷ ds) (cond (key_less c.key d.key) (c ∷ d ∷ ds) (d ∷ insert c ds))

-- Of the candidates whose keys the log lacks, the first one for each key, in the order of the keys. So a record's
-- reason is the lowest rule number that adds it in its first round, and of that rule's paths there that end in its
-- after states the first by record numbers.
abbrev pub collect : List Record → List Candidate → List Candidate → List Candidate
collect log [] got = got
collect log (c ∷ cs) got = collect log cs (cond (in_log c.key log) got (insert c got))

-- what the next round adds to the log
unfoldable pub additions : System → List Record → List Candidate
additions sys log = collect log (candidates sys.loc log sys.rules 0) []

-- ---- the log of each round
-- round 0 holds the automaton's transitions, in order, with no rule, no path and no steps
abbrev pub initial_candidate : Transition → Candidate
initial_candidate t = record { key = t; rule = no_number; path = [] }

abbrev pub initial_record : Candidate → Record
initial_record c = record { key = c.key; round = 0; rule = c.rule; path = c.path; steps = 0 }

-- any other record has 1 step more than its path
abbrev pub added_record : ℕ → List Record → Candidate → Record
added_record k log c = record {
  key = c.key;
  round = k;
  rule = c.rule;
  path = c.path;
  steps = min (1 + sum_over (λ m. (record_at log m).steps) c.path) steps_cap;
}

-- the records of rounds up to k
unfoldable pub log_at : System → ℕ → List Record
log_at sys zero = map initial_record (collect [] (map initial_candidate sys.transitions) [])
log_at sys (suc k) = log_at sys k ++ map (added_record (suc k) (log_at sys k)) (additions sys (log_at sys k))

-- ---- the limit
-- a key has nine bytes, so there are no more rounds that add something
abbrev pub key_bound : ℕ
key_bound = 256 ^ 9

-- the first round at or after k, and before k + fuel, after which the next one adds nothing
unfoldable pub first_saturated : System → ℕ → ℕ → ℕ
first_saturated sys zero k = k
first_saturated sys (suc fuel) k =
    elim (is_empty (additions sys (log_at sys k))) [ true ↦ k | false ↦ first_saturated sys fuel (suc k) ]

unfoldable pub saturated_at : System → ℕ
saturated_at sys = first_saturated sys (key_bound + 1) 0

-- rounds end when one adds nothing; the automaton with every transition of these rounds is the limit automaton
abbrev pub limit : System → List Record
limit sys = log_at sys (saturated_at sys)

-- document 01: rounds, the highest round held, 0 if none
abbrev pub rounds : List Record → ℕ
rounds [] = 0
rounds (r ∷ log) = max r.round (rounds log)
