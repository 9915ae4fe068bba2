-- Document 01, "Small tables": the text that the program `line` writes, as a list of bytes.
use Rattle.std.specs.Prelude.{Bool, true, false, cond, List, [], ◌∷◌, ◌++◌, ℕ, zero, suc, ◌+◌, ◌/◌, ◌%◌, ltb, take, Result, Ok, Err}
use Prim.Native.Char.{code}
use Prim.Native.String.{String, [] as end, ◌∷◌ as ◌then◌}
use Rattle.model.specs.declared.Refusal.{Refusal}
use Rattle.model.specs.declared.Run.{Run}
use Rattle.model.specs.declared.Verdict.{Verdict}

-- the bytes of a text in ASCII
abbrev pub ascii : String → List ℕ
ascii end = []
ascii (c then s) = code c ∷ ascii s

-- the decimal digits of a number in ASCII, where 0 is 48, the last one last; the fuel is the number, which has at most
-- one digit more
abbrev pub digits_of : ℕ → ℕ → List ℕ
digits_of zero n = (48 + n % 10) ∷ []
digits_of (suc fuel) n = cond (ltb n 10) ((48 + n) ∷ []) (digits_of fuel (n / 10) ++ ((48 + n % 10) ∷ []))

unfoldable pub decimal : ℕ → List ℕ
decimal n = digits_of n n

-- a line of a head and a number
unfoldable pub line : List ℕ → ℕ → List ℕ
line head n = head ++ decimal n ++ ascii "\n"

-- the verdict, limit records and rounds
unfoldable pub counted : List ℕ → ℕ → ℕ → List ℕ
counted verdict transitions rounds = verdict ++ line (ascii "transitions ") transitions ++ line (ascii "rounds ") rounds

-- "any other refusal is the one line `refused N at P`"
unfoldable pub refused_line : ℕ → ℕ → List ℕ
refused_line number place = ascii "refused " ++ decimal number ++ line (ascii " at ") place

-- "Unreachable ends after rounds"
unfoldable pub answer_lines : Result Verdict Refusal → List ℕ
answer_lines (Ok (Verdict.Reachable transitions rounds steps)) =
    counted (ascii "answer reachable\n") transitions rounds ++ line (ascii "steps ") steps
answer_lines (Ok (Verdict.Unreachable transitions rounds)) = counted (ascii "answer unreachable\n") transitions rounds
answer_lines (Err r) = refused_line r.number r.place

-- rule numbers, each after a space
abbrev pub spaced : List ℕ → List ℕ
spaced [] = []
spaced (rule ∷ rules) = ascii " " ++ decimal rule ++ spaced rules

-- "An empty run writes `run`"
unfoldable pub run_line : List ℕ → List ℕ
run_line rules = ascii "run" ++ spaced rules ++ ascii "\n"

-- the peak and the rule numbers, which stand first on the page, as many as steps; "on refusal 11 `run refused 11`
-- follows steps"
unfoldable pub run_lines : Result Run Refusal → List ℕ → List ℕ
run_lines (Ok run) page = line (ascii "peak ") run.peak ++ run_line (take run.steps page)
run_lines (Err r) page = line (ascii "run refused ") r.number

-- how many rule numbers are listed
abbrev pub listed : Result Run Refusal → ℕ
listed (Ok run) = run.steps
listed (Err r) = 0

-- whether the run's lines follow: behind a reachable answer only
abbrev pub is_reachable : Result Verdict Refusal → Bool
is_reachable (Ok (Verdict.Reachable transitions rounds steps)) = true
is_reachable (Ok (Verdict.Unreachable transitions rounds)) = false
is_reachable (Err r) = false

-- the whole text
unfoldable pub listing : Result Verdict Refusal → Result Run Refusal → List ℕ → List ℕ
listing answered ran page = answer_lines answered ++ cond (is_reachable answered) (run_lines ran page) []
