-- The lengths of the processes' projections, and what a rule makes of them.
use Rattle.std.specs.Prelude.{◌≡◌, List, [], ℕ, ◌+◌, ◌^◌, ◌<◌, ◌≤◌, max, get_or, length}
use Rattle.model.specs.Groups.{Process, Processes, bit, has, number_of}
use Rattle.model.specs.Systems.{Rule}
use Rattle.model.specs.Tables.{ceiling}
use Rattle.model.specs.Words.{project}
use Rattle.table.specs.Reading.{rule_in, system_in}

-- a number for each process; that of one of them
abbrev pub Lengths : Type 0
Lengths = List ℕ

abbrev pub length_at : Lengths → Process → ℕ
length_at l i = get_or l (number_of i) 0

-- none is greater than k
abbrev pub AtMost : ℕ → Lengths → Type 0
AtMost k l = (i : Process) → length_at l i ≤ k

-- one at each process outside L
abbrev pub Rest : Processes → Lengths → Type 0
Rest L r = (i : Process) → length_at r i + bit (has L i) ≡ 1

-- r is l with one letter more, whose processes are L; with the numbers f more
abbrev pub Joined : Lengths → Processes → Lengths → Type 0
Joined l L r = (i : Process) → length_at r i ≡ length_at l i + bit (has L i)

abbrev pub Added : (Process → ℕ) → Lengths → Lengths → Type 0
Added f l r = (i : Process) → length_at r i ≡ length_at l i + f i

-- one more of each is a number of 32 bits; r has the greater of that and l
abbrev pub Countable : Lengths → Type 0
Countable h = (i : Process) → length_at h i + 1 < 2 ^ 32

abbrev pub Raised : Lengths → Lengths → Lengths → Type 0
Raised h l r = (i : Process) → length_at r i ≡ max (length_at h i + 1) (length_at l i)

-- they are the lengths of the projections of w
abbrev pub LengthsOf : (ℕ → Processes) → List ℕ → Lengths → Type 0
LengthsOf loc w l = (i : Process) → length_at l i ≡ length (project loc i w)

-- What rule r makes of each length, counted with the rule itself so that it is not negative: the letter read leaves the
-- projections to its processes, and each written letter joins those to its own.
abbrev pub Change : (ℕ → Processes) → Rule → (Process → ℕ) → Type 0
Change loc r f = (i : Process) → f i + bit (has (loc r.letter) i) ≡ 1 + length (project loc i r.written)

-- ---- the changes of all rules, noted one after the other
abbrev pub rule_ceiling : ℕ
rule_ceiling = ceiling 3

-- process i's change by rule k
abbrev pub noted : List Lengths → ℕ → Process → ℕ
noted changes k = length_at (get_or changes k [])

-- with them the lengths are numbers of 32 bits
abbrev pub Addable : List Lengths → ℕ → Lengths → Type 0
Addable changes k l = (i : Process) → length_at l i + noted changes k i < 2 ^ 32

-- those of the rules below n
pub record ChangesNoted (table : List ℕ) (n : ℕ) (changes : List Lengths) : Type 0 where
  pub rule : (k : ℕ) → k < n → Change (system_in table).loc (rule_in table k) (noted changes k)
