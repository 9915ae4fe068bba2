-- What is taken of candidates that arrive one after the other, and what the log is then.
use mathlib.Core.Path.{◌≡◌, refl, ap, ap₂, sym, subst, ◌∙◌}
use mathlib.Core.Bool.{Bool, true, false, cond, ◌||◌, true≢false, or_assoc, or-false, or-true}
use mathlib.Core.List.{List, [], ◌∷◌, ◌++◌}
use Prim.Native.Nat.{ℕ, suc, ◌+◌, ◌*◌, ◌<◌, ◌≤◌, min}
use native.Mathlib.Decide.{dec_lt}
use native.Mathlib.Omega.{arith}
use lib.Dec.{eqb, ltb}
use lib.ListN.{drop, length, take, take-append-drop}
use lib.Seq.{append_snoc, length-take-le, take-append-le}
use borrow.Author.Tests.{eq-eqb, eqb-true, le-ltb, ltb-true}
use Rattle.model.specs.Lists.{Each}
use Rattle.model.specs.Log.{Candidate, Record}
use Rattle.model.specs.Records.{record_length}
use Rattle.model.proofs.Tests.{by_test}
use Rattle.states.specs.StateNumbers.{state_count}
use Rattle.states.proofs.StateNumbers.{state_number_below}
use Rattle.records.specs.declared.Entry.{Entry}
use Rattle.records.specs.Entries.{HasRecord, entry_bytes, record_entry, with_entry}
use Rattle.records.proofs.Entries.{length_with}
use Rattle.paths.specs.Arrivals.{end_number, hit, stored, taken}
use Rattle.paths.specs.Jobs.{known, seen_in}

-- ---- hits
pub hit_append : (xs ys : List Candidate) (x : ℕ) → hit (xs ++ ys) x ≡ (hit xs x || hit ys x)
hit_append [] ys x = refl
hit_append (c ∷ xs) ys x = ap (λ (b : Bool). eqb x (end_number c) || b) (hit_append xs ys x) ∙ sym (or_assoc (eqb x (end_number c)) (hit xs x) (hit ys x))

-- ---- what is taken
-- only what is seen of state numbers matters
pub taken_same : (seen seen' : ℕ → Bool) → ((x : ℕ) → x < state_count → seen x ≡ seen' x) → (cs : List Candidate) → taken seen cs ≡ taken seen' cs
taken_same seen seen' e [] = refl
taken_same seen seen' e (c ∷ cs) =
    ap (λ (b : Bool). cond b (taken seen cs) (c ∷ taken (λ x. seen x || eqb x (end_number c)) cs)) (e (end_number c) (state_number_below c.key.after))
    ∙ ap₂ (λ (xs ys : List Candidate). cond (seen' (end_number c)) xs (c ∷ ys)) (taken_same seen seen' e cs) (taken_same (λ x. seen x || eqb x (end_number c)) (λ x. seen' x || eqb x (end_number c)) (λ x h. ap (λ (b : Bool). b || eqb x (end_number c)) (e x h)) cs)

pub taken_none : (seen : ℕ → Bool) (cs : List Candidate) → Each (λ (c : Candidate). seen (end_number c) ≡ true) cs → taken seen cs ≡ []
taken_none seen [] e = refl
taken_none seen (c ∷ cs) e = rw e.0 (taken_none seen cs e.1)

-- an end that was seen before adds nothing
seen_hit : (seen : ℕ → Bool) (c : Candidate) → seen (end_number c) ≡ true → (x : ℕ) → seen x ≡ (seen x || eqb x (end_number c))
seen_hit seen c e x = by_test (seen x) (λ y. rw y) (λ n. rw n (by_test (eqb x (end_number c)) (λ y. absurd_seen y n) (λ m. sym m)))
  where
    absurd_seen : eqb x (end_number c) ≡ true → seen x ≡ false → false ≡ eqb x (end_number c)
    absurd_seen y n = absurd (true≢false (sym e ∙ ap seen (sym (eqb-true x (end_number c) y)) ∙ n))

pub taken_append : (seen : ℕ → Bool) (xs ys : List Candidate) → taken seen (xs ++ ys) ≡ taken seen xs ++ taken (λ x. seen x || hit xs x) ys
taken_append seen [] ys = taken_same seen (λ x. seen x || false) (λ x h. sym (or-false (seen x))) ys
taken_append seen (c ∷ xs) ys = by_test (seen (end_number c))
    (λ y. rw y (taken_append seen xs ys ∙ ap (λ (l : List Candidate). taken seen xs ++ l)
    (taken_same (λ x. seen x || hit xs x) (λ x. seen x || (eqb x (end_number c) || hit xs x)) (λ x h. ap (λ (b : Bool). b || hit xs x) (seen_hit seen c y x) ∙ or_assoc (seen x) (eqb x (end_number c)) (hit xs x)) ys)))
    (λ n. rw n (ap (λ (l : List Candidate). c ∷ l) (taken_append (λ x. seen x || eqb x (end_number c)) xs ys ∙ ap (λ (l : List Candidate). taken (λ x. seen x || eqb x (end_number c)) xs ++ l)
    (taken_same (λ x. (seen x || eqb x (end_number c)) || hit xs x) (λ x. seen x || (eqb x (end_number c) || hit xs x)) (λ x h. or_assoc (seen x) (eqb x (end_number c)) (hit xs x)) ys))))

-- what is known after candidates have arrived: their ends too
pub taken_known : (held : ℕ → Bool) (s s' : List ℕ) (cs : List Candidate) → ((x : ℕ) → x < state_count → seen_in s' x ≡ (seen_in s x || hit cs x)) → (ds : List Candidate)
    → taken (λ x. known held s x || hit cs x) ds ≡ taken (known held s') ds
taken_known held s s' cs seen ds = taken_same (λ x. known held s x || hit cs x) (known held s') (λ x h. swap (seen_in s x) (held x) (hit cs x) ∙ ap (λ (v : Bool). v || held x) (sym (seen x h))) ds
  where
    swap : (a b c : Bool) → ((a || b) || c) ≡ ((a || c) || b)
    swap true b c = refl
    swap false true c = sym (or-true c)
    swap false false c = sym (or-false c)

-- ---- the log
has_record : (count n size : ℕ) → count < n → n * record_length ≤ size → count * record_length + record_length ≤ size
has_record count n size l h = omega arith

-- another record n leaves those before it
with_earlier : (log : List ℕ) (n : ℕ) (e : Entry) (base : ℕ) → base ≤ n → HasRecord log n → take (base * record_length) (with_entry log n e) ≡ take (base * record_length) log
unfolding with_entry
with_earlier log n e base l h =
    let front : length (take (n * record_length) log) ≡ n * record_length = length-take-le (n * record_length) log (omega arith) in
    take-append-le (base * record_length) (take (n * record_length) log) (entry_bytes e ++ drop record_length (drop (n * record_length) log)) (omega arith)
    ∙ sym (take-append-le (base * record_length) (take (n * record_length) log) (drop (n * record_length) log) (omega arith))
    ∙ ap (take (base * record_length)) (take-append-drop (n * record_length) log)

pub stored_append : (n : ℕ) (log : List ℕ) (count : ℕ) (xs ys : List Record) → stored n log count (xs ++ ys) ≡ stored n (stored n log count xs) (count + length xs) ys
stored_append n log count [] ys = ap (λ (k : ℕ). stored n log k ys) (omega arith)
stored_append n log count (r ∷ xs) ys =
    stored_append n (cond (ltb count n) (with_entry log count (record_entry r)) log) (suc count) xs ys
    ∙ ap (λ (k : ℕ). stored n (stored n (cond (ltb count n) (with_entry log count (record_entry r)) log) (suc count) xs) k ys) (omega arith)

-- a full log stays
pub stored_full : (n : ℕ) (log : List ℕ) (count : ℕ) (rs : List Record) → n ≤ count → stored n log count rs ≡ log
stored_full n log count [] h = refl
stored_full n log count (r ∷ rs) h = rw (le-ltb count n h) (stored_full n log (suc count) rs (omega arith))

-- a count past the log's end is as good as another
pub stored_capped : (n : ℕ) (log : List ℕ) (k : ℕ) (rs : List Record) → stored n log (min k (n + 1)) rs ≡ stored n log k rs
stored_capped n log k rs = elim (dec_lt n k) [
  | yes h ↦ stored_full n log (min k (n + 1)) rs (omega arith) ∙ sym (stored_full n log k rs (omega arith))
  | no h ↦ ap (λ (j : ℕ). stored n log j rs) (omega arith)
]

one_length : (n : ℕ) (log : List ℕ) (count : ℕ) (r : Record) → n * record_length ≤ length log → length (cond (ltb count n) (with_entry log count (record_entry r)) log) ≡ length log
one_length n log count r h = by_test (ltb count n) (λ y. rw y (length_with log count (record_entry r) (let l : count < n = ltb-true count n y in has_record count n (length log) l h))) (λ m. rw m refl)

pub stored_length : (n : ℕ) (log : List ℕ) (count : ℕ) (rs : List Record) → n * record_length ≤ length log → length (stored n log count rs) ≡ length log
stored_length n log count [] h = refl
stored_length n log count (r ∷ rs) h =
    let one = one_length n log count r h in
    stored_length n (cond (ltb count n) (with_entry log count (record_entry r)) log) (suc count) rs (subst (λ (k : ℕ). n * record_length ≤ k) (sym one) h) ∙ one

-- the records before stay
pub stored_earlier : (n : ℕ) (log : List ℕ) (count : ℕ) (rs : List Record) (base : ℕ) → base ≤ count → n * record_length ≤ length log → take (base * record_length) (stored n log count rs) ≡ take (base * record_length) log
stored_earlier n log count [] base l h = refl
stored_earlier n log count (r ∷ rs) base l h =
    let one = one_length n log count r h in
    stored_earlier n (cond (ltb count n) (with_entry log count (record_entry r)) log) (suc count) rs base (omega arith) (subst (λ (k : ℕ). n * record_length ≤ k) (sym one) h)
    ∙ by_test (ltb count n) (λ y. rw y (with_earlier log count (record_entry r) base l (let q : count < n = ltb-true count n y in has_record count n (length log) q h))) (λ m. rw m refl)

-- ---- ends that were all seen before
pub hit_seen : (seen : ℕ → Bool) (cs : List Candidate) → Each (λ (c : Candidate). seen (end_number c) ≡ true) cs → (x : ℕ) → seen x ≡ (seen x || hit cs x)
hit_seen seen [] e x = sym (or-false (seen x))
hit_seen seen (c ∷ cs) e x = hit_seen seen cs e.1 x ∙ ap (λ (b : Bool). b || hit cs x) (seen_hit seen c e.0 x) ∙ or_assoc (seen x) (eqb x (end_number c)) (hit cs x)

-- a candidate's own end is hit
pub hit_own : (cs : List Candidate) → Each (λ (c : Candidate). hit cs (end_number c) ≡ true) cs
hit_own cs = hit_within [] cs
  where
    hit_within : (pre post : List Candidate) → Each (λ (c : Candidate). hit (pre ++ post) (end_number c) ≡ true) post
    hit_within pre [] = tt
    hit_within pre (c ∷ post) = (
      hit_append pre (c ∷ post) (end_number c) ∙ rw (eq-eqb (end_number c) (end_number c) refl) (or-true (hit pre (end_number c))),
      subst (λ (l : List Candidate). Each (λ (d : Candidate). hit l (end_number d) ≡ true) post) (append_snoc pre c post) (hit_within (pre ++ (c ∷ [])) post),
    )
