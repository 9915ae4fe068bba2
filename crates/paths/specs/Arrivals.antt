-- What a search does with the ends that it arrives at. An end is the number of the after states that a rule adds. The
-- first candidate for an end that was not seen before is taken, and its record goes behind those there are, as long as
-- the log has room.
use Rattle.std.specs.Prelude.{Bool, cond, ◌||◌, List, [], ◌∷◌, ℕ, suc, eqb, ltb}
use Rattle.model.specs.Lists.{any_of}
use Rattle.model.specs.Log.{Record, Candidate}
use Rattle.states.specs.StateNumbers.{state_number}
use Rattle.records.specs.Entries.{record_entry, with_entry}

abbrev pub end_number : Candidate → ℕ
end_number c = state_number c.key.after

-- x is the end of one of the candidates
abbrev pub hit : List Candidate → ℕ → Bool
hit cs x = any_of (λ (c : Candidate). eqb x (end_number c)) cs

-- the candidates that are taken, in the order of their arrival
abbrev pub taken : (ℕ → Bool) → List Candidate → List Candidate
taken seen [] = []
taken seen (c ∷ cs) = cond (seen (end_number c)) (taken seen cs) (c ∷ taken (λ x. seen x || eqb x (end_number c)) cs)

-- records written behind the first `count` of a log that can hold n
abbrev pub stored : ℕ → List ℕ → ℕ → List Record → List ℕ
stored n log count [] = log
stored n log count (r ∷ rs) = stored n (cond (ltb count n) (with_entry log count (record_entry r)) log) (suc count) rs
