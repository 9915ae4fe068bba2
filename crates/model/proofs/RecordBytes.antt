-- The bytes of records: their lengths, where each record begins, and that its transition and its round are read back.
use mathlib.Core.Path.{◌≡◌, refl, ap, sym, ◌∙◌}
use mathlib.Core.List.{List, [], ◌∷◌, ◌++◌, append_assoc}
use Prim.Native.Nat.{ℕ, zero, suc, ◌+◌, ◌*◌, ◌/◌, ◌%◌, ◌^◌, ◌<◌}
use native.Mathlib.Omega.{arith}
use native.Mathlib.Nat.{add-suc, add_assoc, pow-suc}
use lib.ListN.{length, drop, get_or, length-append}
use lib.Seq.{get_or-drop, drop-append-add, drop_at}
use Rattle.model.specs.Log.{Record, record_at}
use Rattle.model.specs.Records.{record_length, little_endian, path_bytes, record_bytes, log_bytes, number_at, group_at, letter_at, before_at, after_at, key_at, round_at}
use Rattle.model.specs.Tables.{written_places}

-- ---- lengths
pub length_path : (k : ℕ) (ns : List ℕ) → length (path_bytes k ns) ≡ 2 * k
length_path zero ns = refl
length_path (suc k) [] = omega (arith, length_path k [])
length_path (suc k) (n ∷ ns) = omega (arith, length_path k ns)

pub length_record : (r : Record) → length (record_bytes r) ≡ record_length
unfolding record_bytes
length_record r = omega (arith, length-append (path_bytes written_places r.path) (little_endian 3 r.steps), length_path written_places r.path)

pub length_log : (rs : List Record) → length (log_bytes rs) ≡ length rs * record_length
length_log [] = refl
length_log (r ∷ rs) = length-append (record_bytes r) (log_bytes rs) ∙ omega (arith, length_record r, length_log rs)

pub log_append : (rs qs : List Record) → log_bytes (rs ++ qs) ≡ log_bytes rs ++ log_bytes qs
log_append [] qs = refl
log_append (r ∷ rs) qs = ap (λ (l : List ℕ). record_bytes r ++ l) (log_append rs qs) ∙ sym (append_assoc (record_bytes r) (log_bytes rs) (log_bytes qs))

-- the bytes of a record among others
pub log_around : (pre : List Record) (r : Record) (post : List Record) (rest : List ℕ)
    → log_bytes (pre ++ r ∷ post) ++ rest ≡ log_bytes pre ++ (record_bytes r ++ (log_bytes post ++ rest))
log_around pre r post rest = rw (log_append pre (r ∷ post)) (simp append_assoc)

-- the log from record n on
pub log_from : (rs : List Record) (rest : List ℕ) (n : ℕ) → n < length rs
    → drop (n * record_length) (log_bytes rs ++ rest) ≡ record_bytes (record_at rs n) ++ (log_bytes (drop (suc n) rs) ++ rest)
log_from [] rest n h = absurd (omega arith)
log_from (r ∷ rs) rest zero h = append_assoc (record_bytes r) (log_bytes rs) rest
log_from (r ∷ rs) rest (suc n) h =
    let e : suc n * record_length ≡ length (record_bytes r) + n * record_length = omega (arith, length_record r) in
    rw (e, append_assoc (record_bytes r) (log_bytes rs) rest, drop-append-add (record_bytes r) (log_bytes rs ++ rest) (n * record_length)) (log_from rs rest n (omega arith))

-- ---- numbers and groups at an offset
pub number_drop : (k : ℕ) (l : List ℕ) (a i : ℕ) → number_at k (drop a l) i ≡ number_at k l (a + i)
unfolding number_at
number_drop zero l a i = refl
number_drop (suc k) l a i = rw (get_or-drop a l i 0, number_drop k l a (suc i), add-suc a i)

pub group_drop : (l : List ℕ) (a i : ℕ) → group_at (drop a l) i ≡ group_at l (a + i)
unfolding group_at
group_drop l a i = rw (get_or-drop a l i 0, get_or-drop a l (i + 1) 0, get_or-drop a l (i + 2) 0, get_or-drop a l (i + 3) 0, add_assoc a i 1, add_assoc a i 2, add_assoc a i 3)

pub number_behind : (k : ℕ) (xs ys : List ℕ) (n : ℕ) → length xs ≡ n → number_at k (xs ++ ys) n ≡ number_at k ys 0
number_behind k xs ys n e =
    let z : n ≡ n + 0 = omega arith in
    ap (λ (i : ℕ). number_at k (xs ++ ys) i) z ∙ sym (number_drop k (xs ++ ys) n 0) ∙ ap (λ (l : List ℕ). number_at k l 0) (drop_at xs ys n e)

pub number_cons : (k x : ℕ) (l : List ℕ) (i : ℕ) → number_at k (x ∷ l) (suc i) ≡ number_at k l i
unfolding number_at
number_cons zero x l i = refl
number_cons (suc k) x l i = ap (λ (y : ℕ). get_or l i 0 + 256 * y) (number_cons k x l (suc i))

-- a number that was written is read back
pub number_back : (k x : ℕ) (rest : List ℕ) → x < 256 ^ k → number_at k (little_endian k x ++ rest) 0 ≡ x
unfolding number_at
number_back zero x rest h = omega arith
number_back (suc k) x rest h =
    let back = number_back k (x / 256) rest (omega (arith, pow-suc 256 k)) in
    rw (number_cons k (x % 256) (little_endian k (x / 256) ++ rest) 0, back) (omega arith)

-- ---- a record at the front of a list
module _ (r : Record) (rest : List ℕ) where
  front_letter : get_or (record_bytes r ++ rest) 0 0 ≡ r.key.letter
  unfolding record_bytes
  front_letter = refl

  front_before : group_at (record_bytes r ++ rest) 1 ≡ r.key.before
  unfolding record_bytes group_at
  front_before = refl

  front_after : group_at (record_bytes r ++ rest) 5 ≡ r.key.after
  unfolding record_bytes group_at
  front_after = refl

  front_round : r.round < 65536 → number_at 2 (record_bytes r ++ rest) 9 ≡ r.round
  unfolding record_bytes number_at
  front_round h = number_back 2 r.round [] h

-- ---- record n of a list of bytes
module _ (log : List ℕ) (n : ℕ) (r : Record) (rest : List ℕ) (e : drop (n * record_length) log ≡ record_bytes r ++ rest) where
  pub from_number : (k i : ℕ) → number_at k log (n * record_length + i) ≡ number_at k (record_bytes r ++ rest) i
  from_number k i = sym (number_drop k log (n * record_length) i) ∙ ap (λ (l : List ℕ). number_at k l i) e

  from_group : (i : ℕ) → group_at log (n * record_length + i) ≡ group_at (record_bytes r ++ rest) i
  from_group i = sym (group_drop log (n * record_length) i) ∙ ap (λ (l : List ℕ). group_at l i) e

  pub from_letter : letter_at log n ≡ r.key.letter
  unfolding letter_at
  from_letter =
      let z : n * record_length ≡ n * record_length + 0 = omega arith in
      ap (λ (i : ℕ). get_or log i 0) z ∙ sym (get_or-drop (n * record_length) log 0 0) ∙ ap (λ (l : List ℕ). get_or l 0 0) e ∙ front_letter r rest

  pub from_before : before_at log n ≡ r.key.before
  unfolding before_at
  from_before = from_group 1 ∙ front_before r rest

  pub from_after : after_at log n ≡ r.key.after
  unfolding after_at
  from_after = from_group 5 ∙ front_after r rest

  pub from_key : key_at log n ≡ r.key
  from_key = λ i. record { letter = from_letter i; before = from_before i; after = from_after i }

  pub from_round : r.round < 65536 → round_at log n ≡ r.round
  unfolding round_at
  from_round h = from_number 2 9 ∙ front_round r rest h

-- record n of a log that begins with the bytes of records
pub record_from : (records : List Record) (rest log : List ℕ) (n : ℕ) → log ≡ log_bytes records ++ rest → n < length records
    → drop (n * record_length) log ≡ record_bytes (record_at records n) ++ (log_bytes (drop (suc n) records) ++ rest)
record_from records rest log n e h = ap (λ (l : List ℕ). drop (n * record_length) l) e ∙ log_from records rest n h
