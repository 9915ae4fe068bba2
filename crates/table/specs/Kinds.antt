-- The kinds of items, which a table's bytes and the definitions name by numbers.
use Rattle.std.specs.Prelude.{ℕ, zero, suc, ◌≡◌, true, Option, None, Some, Result, MatchResult}
use Rattle.model.specs.Tables.{is_stranger}
use Rattle.table.specs.declared.kinds.Kind.{Kind}
use Rattle.table.specs.declared.kinds.Kind.TheVariants.{Process, Letter, Rule, Transition, Accepting, Start, Pile, End}

-- the number of a kind
abbrev pub kind_number : Kind → ℕ
kind_number Process = 1
kind_number Letter = 2
kind_number Rule = 3
kind_number Transition = 4
kind_number Accepting = 5
kind_number Start = 6
kind_number Pile = 7
kind_number End = 8

-- the kind that has the number
abbrev pub kind_of : ℕ → Option Kind
kind_of (suc zero) = Some Process
kind_of (suc (suc zero)) = Some Letter
kind_of (suc (suc (suc zero))) = Some Rule
kind_of (suc (suc (suc (suc zero)))) = Some Transition
kind_of (suc (suc (suc (suc (suc zero))))) = Some Accepting
kind_of (suc (suc (suc (suc (suc (suc zero)))))) = Some Start
kind_of (suc (suc (suc (suc (suc (suc (suc zero))))))) = Some Pile
kind_of (suc (suc (suc (suc (suc (suc (suc (suc zero)))))))) = Some End
kind_of n = None

-- the number of a last kind, 0 where there is none
abbrev pub last_number : Option Kind → ℕ
last_number None = 0
last_number (Some k) = kind_number k

-- the kind of this number, or refusal 2 of a number that no kind has
abbrev pub Decodes : ℕ → Result Kind ℕ → Type 0
Decodes n r = MatchResult r (λ k. kind_number k ≡ n) (λ e. (e ≡ 2) × (is_stranger n ≡ true))
