-- Section 2 of the paper: processes, tuples of local states, their restriction to a set of processes, and the joint
-- tuple.
use Rattle.std.specs.Prelude.{◌≡◌, Bool, ◌&&◌, ◌||◌, cond, false, not, true, List, [], ◌∷◌, ℕ, ◌+◌, ◌*◌, ◌/◌, ◌%◌, max, eqb}
use Rattle.model.specs.declared.Group.{Group}

-- The paper's set P. Document 01: stations 0 to 3.
pub data Process : Type 0 where
  p0 p1 p2 p3 : Process

-- a test that holds at all four processes
abbrev pub every : (Process → Bool) → Bool
every f = f p0 && f p1 && f p2 && f p3

-- the greatest of the numbers at the four processes
unfoldable pub greatest : (Process → ℕ) → ℕ
greatest f = max (max (f p0) (f p1)) (max (f p2) (f p3))

-- what stands at the four processes, in order
abbrev pub at_each : {A : Type 0} → (Process → A) → List A
at_each f = f p0 ∷ f p1 ∷ f p2 ∷ f p3 ∷ []

abbrev pub number_of : Process → ℕ
number_of p0 = 0
number_of p1 = 1
number_of p2 = 2
number_of p3 = 3

-- over the four processes, the last first
abbrev pub fold_each : {A : Type 0} → (Process → A → A) → A → A
fold_each f x = f p0 (f p1 (f p2 (f p3 x)))

-- the local state of a process in a group
abbrev pub at : Group → Process → ℕ
at g p0 = g.s0
at g p1 = g.s1
at g p2 = g.s2
at g p3 = g.s3

abbrev pub build : (Process → ℕ) → Group
build f = record { s0 = f p0; s1 = f p1; s2 = f p2; s3 = f p3 }

unfoldable pub same_group : Group → Group → Bool
same_group g h = every (λ i. eqb (at g i) (at h i))

-- A set of processes: the paper's loc(a). Document 01: the stations of a task.
pub record Processes : Type 0 where
  pub b0 : Bool
  pub b1 : Bool
  pub b2 : Bool
  pub b3 : Bool

abbrev pub has : Processes → Process → Bool
has L p0 = L.b0
has L p1 = L.b1
has L p2 = L.b2
has L p3 = L.b3

-- document 01: station bits, bit 0 is station 0
abbrev pub processes_of : ℕ → Processes
processes_of bits = record {
  b0 = eqb (bits % 2) 1;
  b1 = eqb (bits / 2 % 2) 1;
  b2 = eqb (bits / 4 % 2) 1;
  b3 = eqb (bits / 8 % 2) 1;
}

abbrev pub bit : Bool → ℕ
bit true = 1
bit false = 0

-- the same backwards; request 2.5: a task's stations "as bits, bit 0 for station 0"
unfoldable pub process_bits : Processes → ℕ
process_bits L = bit L.b0 + 2 * bit L.b1 + 4 * bit L.b2 + 8 * bit L.b3

-- no process is in both sets; each process of M is in L
abbrev pub Apart : Processes → Processes → Type 0
Apart L M = (i : Process) → has L i ≡ true → has M i ≡ false

abbrev pub Within : Processes → Processes → Type 0
Within M L = (i : Process) → has M i ≡ true → has L i ≡ true

-- the same as tests
abbrev pub apart_test : Processes → Processes → Bool
apart_test L M = every (λ i. not (has L i) || not (has M i))

abbrev pub within_test : Processes → Processes → Bool
within_test M L = every (λ i. not (has M i) || has L i)

-- the restriction of g to L, with 255 at every other process
unfoldable pub restrict : Processes → Group → Group
restrict L g = build (λ i. cond (has L i) (at g i) 255)

-- the joint tuple: x at the processes of L, g at the others
unfoldable pub merge : Processes → Group → Group → Group
merge L x g = build (λ i. cond (has L i) (at x i) (at g i))
