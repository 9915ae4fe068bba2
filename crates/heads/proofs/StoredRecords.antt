-- The bytes of the log with records written behind the first ones, and how bytes and records of a part of the log say the same.
use mathlib.Core.Path.{◌≡◌, refl, ap, ap₂, sym, subst, ◌∙◌}
use mathlib.Core.List.{List, [], ◌∷◌, ◌++◌, append_assoc, append-nil}
use Prim.Native.Nat.{ℕ, suc, ◌+◌, ◌-◌, ◌*◌, ◌<◌, ◌≤◌}
use native.Mathlib.Omega.{arith}
use lib.ListN.{get_or-append, drop, get_or, length, length-append, length-drop, take, take-append-drop}
use lib.Seq.{drop-append-add, drop-drop, ext_get_or, get_or-drop, get_or-take, length-take-le, take-add, take_at}
use borrow.Author.Tests.{lt-ltb}
use Rattle.model.specs.Log.{Record, record_at}
use Rattle.model.specs.Records.{after_at, log_bytes, record_bytes, record_length}
use Rattle.model.proofs.RecordBytes.{from_after, length_record, log_from}
use Rattle.states.specs.StateNumbers.{state_number}
use Rattle.records.specs.Entries.{record_entry, with_entry}
use Rattle.records.proofs.Entries.{entry_bytes_lem, length_with}
use Rattle.packs.specs.Packs.{Bytes, packed_number, packed, packed_after}
use Rattle.packs.proofs.Packs.{pack_group, pack_number}
use Rattle.paths.specs.Arrivals.{stored}
use Rattle.ranks.specs.Ranks.{SameRecord, after_number}
use Rattle.ranks.proofs.Swaps.{same_number}

-- ---- the bytes of the records written
-- one record
with_bytes : (log : List ℕ) (n : ℕ) (r : Record) → with_entry log n (record_entry r) ≡ (take (n * record_length) log ++ record_bytes r) ++ drop (n * record_length + record_length) log
unfolding with_entry
with_bytes log n r =
    ap₂ (λ (es rest : List ℕ). take (n * record_length) log ++ (es ++ rest)) (entry_bytes_lem r) (drop-drop record_length (n * record_length) log)
    ∙ sym (append_assoc (take (n * record_length) log) (record_bytes r) (drop (n * record_length + record_length) log))

pub stored_bytes : (n count : ℕ) (log : List ℕ) (rs : List Record) → count + length rs ≤ n → n * record_length ≤ length log
    → stored n log count rs ≡ take (count * record_length) log ++ (log_bytes rs ++ drop ((count + length rs) * record_length) log)
stored_bytes n count log [] h room =
    let same : count * record_length ≡ (count + 0) * record_length = omega arith in
    sym (take-append-drop (count * record_length) log)
    ∙ ap (λ (k : ℕ). take (count * record_length) log ++ drop k log) same
stored_bytes n count log (r ∷ rs) h room = rw (lt-ltb count n (omega arith)) (
    let front = take (count * record_length) log ++ record_bytes r in
    let behind = drop (count * record_length + record_length) log in
    let log' = with_entry log count (record_entry r) in
    let is : log' ≡ front ++ behind = with_bytes log count r in
    let size : length front ≡ suc count * record_length =
    length-append (take (count * record_length) log) (record_bytes r) ∙ omega (arith, length-take-le (count * record_length) log (omega arith), length_record r) in
    let same : length log' ≡ length log = length_with log count (record_entry r) (omega arith) in
    let far : (suc count + length rs) * record_length ≡ length front + length rs * record_length = omega arith in
    let all : count * record_length + record_length + length rs * record_length ≡ (count + suc (length rs)) * record_length = omega arith in
    let rest : drop ((suc count + length rs) * record_length) log' ≡ drop ((count + suc (length rs)) * record_length) log =
    ap₂ (λ (k : ℕ) (l : List ℕ). drop k l) far is ∙ drop-append-add front behind (length rs * record_length)
    ∙ drop-drop (length rs * record_length) (count * record_length + record_length) log ∙ ap (λ (k : ℕ). drop k log) all in
    stored_bytes n (suc count) log' rs (omega arith) (omega arith)
    ∙ ap₂ (λ (xs ys : List ℕ). xs ++ (log_bytes rs ++ ys)) (ap (take (suc count * record_length)) is ∙ take_at front behind (suc count * record_length) size) rest
    ∙ append_assoc (take (count * record_length) log) (record_bytes r) (log_bytes rs ++ drop ((count + suc (length rs)) * record_length) log)
    ∙ ap (λ (l : List ℕ). take (count * record_length) log ++ l) (sym (append_assoc (record_bytes r) (log_bytes rs) (drop ((count + suc (length rs)) * record_length) log))))

-- ---- records one by one
-- record q of the log has the bytes of r
abbrev pub Holds : List ℕ → ℕ → Record → Type 0
Holds log q r = SameRecord log q (record_bytes r) 0

-- bytes that are those of records are so record by record
pub bytes_hold : (log : List ℕ) (from : ℕ) (rs : List Record) → take (length rs * record_length) (drop (from * record_length) log) ≡ log_bytes rs
    → (i : ℕ) → i < length rs → Holds log (from + i) (record_at rs i)
bytes_hold log from rs e i h j l =
    let r = record_at rs i in
    let rest = drop (length rs * record_length) (drop (from * record_length) log) in
    let more = log_bytes (drop (suc i) rs) ++ rest in
    let split : drop (from * record_length) log ≡ log_bytes rs ++ rest =
    sym (take-append-drop (length rs * record_length) (drop (from * record_length) log)) ∙ ap (λ (xs : List ℕ). xs ++ rest) e in
    let place : (from + i) * record_length + j ≡ from * record_length + (i * record_length + j) = omega arith in
    let byte : j ≡ 0 * record_length + j = omega arith in
    let size : length (record_bytes r) ≡ record_length = length_record r in
    ap (λ (k : ℕ). get_or log k 0) place
    ∙ sym (get_or-drop (from * record_length) log (i * record_length + j) 0)
    ∙ ap (λ (xs : List ℕ). get_or xs (i * record_length + j) 0) split
    ∙ sym (get_or-drop (i * record_length) (log_bytes rs ++ rest) j 0)
    ∙ ap (λ (xs : List ℕ). get_or xs j 0) (log_from rs rest i h)
    ∙ get_or-append (record_bytes r) more 0 j (omega arith)
    ∙ ap (λ (k : ℕ). get_or (record_bytes r) k 0) byte

one_record : (log : List ℕ) (q : ℕ) (r : Record) → q * record_length + record_length ≤ length log → Holds log q r → take record_length (drop (q * record_length) log) ≡ record_bytes r
one_record log q r room h =
    let left : length (drop (q * record_length) log) ≡ length log - q * record_length = length-drop (q * record_length) log in
    let size : length (take record_length (drop (q * record_length) log)) ≡ record_length = length-take-le record_length (drop (q * record_length) log) (omega arith) in
    ext_get_or 0 (take record_length (drop (q * record_length) log)) (record_bytes r) (size ∙ sym (length_record r)) (λ j l.
    let inside : j < record_length = omega arith in
    let byte : 0 * record_length + j ≡ j = omega arith in
    get_or-take record_length (drop (q * record_length) log) j 0 inside ∙ get_or-drop (q * record_length) log j 0 ∙ h j inside ∙ ap (λ (k : ℕ). get_or (record_bytes r) k 0) byte)

-- records one by one are the bytes of all
pub hold_bytes : (log : List ℕ) (from : ℕ) (rs : List Record) → (from + length rs) * record_length ≤ length log → ((i : ℕ) → i < length rs → Holds log (from + i) (record_at rs i))
    → take (length rs * record_length) (drop (from * record_length) log) ≡ log_bytes rs
hold_bytes log from [] room h = refl
hold_bytes log from (r ∷ rs) room h =
    let more : suc (length rs) * record_length ≡ record_length + length rs * record_length = omega arith in
    let next : from * record_length + record_length ≡ suc from * record_length = omega arith in
    let here : from + 0 ≡ from = omega arith in
    ap (λ (k : ℕ). take k (drop (from * record_length) log)) more
    ∙ take-add record_length (length rs * record_length) (drop (from * record_length) log)
    ∙ ap₂ (λ (xs ys : List ℕ). xs ++ take (length rs * record_length) ys)
    (one_record log from r (omega arith) (subst (λ (q : ℕ). Holds log q r) here (h 0 (omega arith))))
    (drop-drop record_length (from * record_length) log ∙ ap (λ (k : ℕ). drop k log) next)
    ∙ ap (λ (xs : List ℕ). record_bytes r ++ xs) (hold_bytes log (suc from) rs (omega arith)
    (λ i l. let step : from + suc i ≡ suc from + i = omega arith in subst (λ (q : ℕ). Holds log q (record_at rs i)) step (h (suc i) (omega arith))))

-- ---- the number of a record's states after
own_number_lem : (r : Record) → packed_after (record_bytes r) 0 ≡ packed r.key.after
unfolding packed_after after_at
own_number_lem r = pack_group (record_bytes r) (0 * record_length + 5) ∙ ap packed (from_after (record_bytes r) 0 r [] (sym (append-nil (record_bytes r))))

pub holds_number : (log : List ℕ) (q : ℕ) (r : Record) → Bytes r.key.after → Holds log q r → after_number log q ≡ state_number r.key.after
holds_number log q r b h = same_number (record_bytes r) log q 0 h ∙ ap packed_number (own_number_lem r) ∙ pack_number r.key.after b
