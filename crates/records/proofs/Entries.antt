-- Laws of the records of the log: what the writer leaves are records, and what the readers give are their fields.
use mathlib.Core.Path.{◌≡◌, refl, ap, ap₂, sym, ◌∙◌}
use mathlib.Core.List.{List, [], ◌∷◌, ◌++◌, append_assoc}
use Prim.Native.Nat.{ℕ, zero, suc, ◌+◌, ◌-◌, ◌*◌, ◌/◌, ◌%◌, ◌<◌}
use native.Mathlib.Omega.{arith}
use lib.ListN.{length, take, drop, get_or, length-append, length-take, length-drop}
use lib.Seq.{drop_at, take_at, ext_get_or}
use Rattle.model.specs.Lists.{Each}
use Rattle.model.specs.Tables.{written_places}
use Rattle.model.specs.Log.{Record, record_at, no_number}
use Rattle.model.specs.Records.{record_length, little_endian, path_bytes, record_bytes, log_bytes, number_at, rule_at, place_at, steps_at}
use Rattle.model.proofs.RecordBytes.{length_path, length_log, log_around, number_drop, number_behind, number_cons, number_back, from_number, from_letter, from_before, from_after, from_round, record_from}
use Rattle.numbers.specs.NumberBytes.{with_number}
use Rattle.records.specs.declared.Entry.{Entry}
use Rattle.records.specs.Entries.{padded, path_place, record_entry, entry_bytes, HasRecord, with_entry, Fits, Reads}
use Rattle.buffers.proofs.Parts.{Front, front_number, part_back, part_rest}

-- ---- the bytes of an entry are those of its record
path_padded : (k : ℕ) (ns : List ℕ) → path_bytes k (padded k ns) ≡ path_bytes k ns
path_padded zero ns = refl
path_padded (suc k) [] = ap (λ (l : List ℕ). little_endian 2 no_number ++ l) (path_padded k [])
path_padded (suc k) (n ∷ ns) = ap (λ (l : List ℕ). little_endian 2 n ++ l) (path_padded k ns)

pub entry_bytes_lem : (r : Record) → entry_bytes (record_entry r) ≡ record_bytes r
unfolding entry_bytes record_entry record_bytes
entry_bytes_lem r = rw (path_padded written_places r.path)

-- ---- places of a path
length_padded : (k : ℕ) (ns : List ℕ) → length (padded k ns) ≡ k
length_padded zero ns = refl
length_padded (suc k) [] = ap suc (length_padded k [])
length_padded (suc k) (n ∷ ns) = ap suc (length_padded k ns)

place_padded : (k : ℕ) (ns : List ℕ) (j : ℕ) → j < k → path_place (padded k ns) j ≡ path_place ns j
place_padded zero ns j h = absurd (omega arith)
place_padded (suc k) [] zero h = refl
place_padded (suc k) [] (suc j) h = place_padded k [] j (omega arith)
place_padded (suc k) (n ∷ ns) zero h = refl
place_padded (suc k) (n ∷ ns) (suc j) h = place_padded k ns j (omega arith)

-- the places are known one by one
pub padded_is : (ns l : List ℕ) → ((j : ℕ) → j < length l → path_place ns j ≡ path_place l j) → padded (length l) ns ≡ l
padded_is ns l e = ext_get_or no_number (padded (length l) ns) l (length_padded (length l) ns) (λ j h. place_padded (length l) ns j (omega (arith, length_padded (length l) ns)) ∙ e j (omega (arith, length_padded (length l) ns)))

path_snoc : (j : ℕ) (ns : List ℕ) → j < length ns → path_bytes j ns ++ little_endian 2 (get_or ns j 0) ≡ path_bytes (suc j) ns
path_snoc j [] h = absurd (omega arith)
path_snoc zero (n ∷ ns) h = refl
path_snoc (suc j) (n ∷ ns) h = ap (λ (l : List ℕ). little_endian 2 n ++ l) (path_snoc j ns (omega arith))

-- one place more is written
pub places_more : (ns out₀ out out' : List ℕ) (j : ℕ) → j < length ns → length out₀ ≡ 2 * length ns → Front (path_bytes j ns) out₀ (2 * j) out → out' ≡ with_number 2 out (2 * j) (get_or ns j 0)
    → Front (path_bytes (j + 1) ns) out₀ (2 * (j + 1)) out'
places_more ns out₀ out out' j h room w e =
    let next : suc j ≡ j + 1 = omega arith in
    let place : 2 * j + 2 ≡ 2 * (j + 1) = omega arith in
    let f = front_number 2 (get_or ns j 0) w (omega arith) e in
    record {
      same = f.same ∙ ap₂ (λ (l : List ℕ) (a : ℕ). l ++ drop a out₀) (path_snoc j ns h ∙ ap (λ (k : ℕ). path_bytes k ns) next) place;
      size = length_path (j + 1) ns;
    }

path_step : (k : ℕ) (ns : List ℕ) → path_bytes (suc k) ns ≡ little_endian 2 (path_place ns 0) ++ path_bytes k (drop 1 ns)
path_step k [] = refl
path_step k (n ∷ ns) = refl

place_step : (ns : List ℕ) (j : ℕ) → path_place (drop 1 ns) j ≡ path_place ns (suc j)
place_step [] j = refl
place_step (n ∷ ns) j = refl

place_fits : (ns : List ℕ) (j : ℕ) → Each (λ (m : ℕ). m < 65536) ns → path_place ns j < 65536
place_fits [] j f = omega arith
place_fits (n ∷ ns) zero f = f.0
place_fits (n ∷ ns) (suc j) f = place_fits ns j f.1

path_fits : (ns : List ℕ) → Each (λ (m : ℕ). m < 65536) ns → Each (λ (m : ℕ). m < 65536) (drop 1 ns)
path_fits [] f = tt
path_fits (n ∷ ns) f = f.1

place_back : (k : ℕ) (ns rest : List ℕ) (j : ℕ) → j < k → Each (λ (m : ℕ). m < 65536) ns → number_at 2 (path_bytes k ns ++ rest) (2 * j) ≡ path_place ns j
place_back zero ns rest j h f = absurd (omega arith)
place_back (suc k) ns rest zero h f =
    ap (λ (l : List ℕ). number_at 2 (l ++ rest) 0) (path_step k ns)
    ∙ number_back 2 (path_place ns 0) (path_bytes k (drop 1 ns) ++ rest) (place_fits ns 0 f)
place_back (suc k) ns rest (suc j) h f =
    let e : 2 * suc j ≡ suc (suc (2 * j)) = omega arith in
    let x = path_place ns 0 in
    let more = path_bytes k (drop 1 ns) ++ rest in
    ap (λ (i : ℕ). number_at 2 (path_bytes (suc k) ns ++ rest) i) e
    ∙ ap (λ (l : List ℕ). number_at 2 (l ++ rest) (suc (suc (2 * j)))) (path_step k ns)
    ∙ number_cons 2 (x % 256) (x / 256 % 256 ∷ more) (suc (2 * j))
    ∙ number_cons 2 (x / 256 % 256) more (2 * j)
    ∙ place_back k (drop 1 ns) rest j (omega arith) (path_fits ns f)
    ∙ place_step ns j

-- ---- what the readers give
module _ (r : Record) (rest : List ℕ) (f : Fits r) where
  front_rule : number_at 2 (record_bytes r ++ rest) 11 ≡ r.rule
  unfolding record_bytes number_at
  front_rule = number_back 2 r.rule [] f.rule

  front_path : drop 13 (record_bytes r ++ rest) ≡ path_bytes written_places r.path ++ (little_endian 3 r.steps ++ rest)
  unfolding record_bytes
  front_path = append_assoc (path_bytes written_places r.path) (little_endian 3 r.steps) rest

  front_place : (j : ℕ) → j < written_places → number_at 2 (record_bytes r ++ rest) (13 + 2 * j) ≡ path_place r.path j
  front_place j h =
      sym (number_drop 2 (record_bytes r ++ rest) 13 (2 * j))
      ∙ ap (λ (l : List ℕ). number_at 2 l (2 * j)) front_path
      ∙ place_back written_places r.path (little_endian 3 r.steps ++ rest) j h f.path

  front_steps : number_at 3 (record_bytes r ++ rest) (13 + 2 * written_places) ≡ r.steps
  front_steps =
      let path = path_bytes written_places r.path in
      let tail = little_endian 3 r.steps ++ rest in
      sym (number_drop 3 (record_bytes r ++ rest) 13 (2 * written_places))
      ∙ ap (λ (l : List ℕ). number_at 3 l (2 * written_places)) front_path
      ∙ number_behind 3 path tail (2 * written_places) (length_path written_places r.path)
      ∙ number_back 3 r.steps rest f.steps

-- a log that begins with the bytes of records whose numbers fit is read record by record
pub log_reads : (records : List Record) (rest log : List ℕ) (n : ℕ) → log ≡ log_bytes records ++ rest → n < length records → Fits (record_at records n)
    → Reads log n (record_at records n)
unfolding rule_at place_at steps_at
log_reads records rest log n e h f =
    let r = record_at records n in
    let tail = log_bytes (drop (suc n) records) ++ rest in
    let here = record_from records rest log n e h in
    record {
      letter = from_letter log n r tail here;
      before = from_before log n r tail here;
      after = from_after log n r tail here;
      round = from_round log n r tail here f.round;
      rule = from_number log n r tail here 2 11 ∙ front_rule r tail f;
      place = λ j l. from_number log n r tail here 2 (13 + 2 * j) ∙ front_place r tail f j l;
      steps = from_number log n r tail here 3 (13 + 2 * written_places) ∙ front_steps r tail f;
    }

pub log_has : (records : List Record) (rest log : List ℕ) (n : ℕ) → log ≡ log_bytes records ++ rest → n < length records → HasRecord log n
log_has records rest log n e h = omega (arith, ap length e, length-append (log_bytes records) rest, length_log records)

-- ---- what the writer leaves
-- lent the log from the offset a of record n on, the writer hands out back
pub with_loan : (log out : List ℕ) (n a : ℕ) (e : Entry) → a ≡ n * record_length → out ≡ entry_bytes e ++ drop record_length (take (length log - a) (drop a log))
    → take a log ++ (out ++ drop (length log - a) (drop a log)) ≡ with_entry log n e
unfolding with_entry
with_loan log out n a e p q = part_back log out a ∙ rw (q, part_rest log a, p)

pub length_with : (log : List ℕ) (n : ℕ) (e : Entry) → HasRecord log n → length (with_entry log n e) ≡ length log
unfolding with_entry entry_bytes
length_with log n e h = simp (length-append, length-take, length-drop) (omega (arith, length_path written_places e.path))

-- one record more, and the bytes behind it stay
pub log_appended : (records : List Record) (r : Record) (rest log : List ℕ) (n : ℕ) → log ≡ log_bytes records ++ rest → n ≡ length records
    → with_entry log n (record_entry r) ≡ log_bytes (records ++ (r ∷ [])) ++ drop record_length rest
unfolding with_entry
log_appended records r rest log n e p =
    let size : length (log_bytes records) ≡ n * record_length = omega (arith, length_log records) in
    rw (e, entry_bytes_lem r, take_at (log_bytes records) rest (n * record_length) size, drop_at (log_bytes records) rest (n * record_length) size) (sym (log_around records r [] (drop record_length rest)))
