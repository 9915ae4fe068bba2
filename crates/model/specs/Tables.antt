-- Document 01, "Table bytes": which bytes are a table, the refusals 1 to 9, and the system that an accepted table
-- describes.
use Rattle.std.specs.Prelude.{Bool, true, false, cond, not, ◌&&◌, ◌||◌, List, [], ◌∷◌, ◌++◌, map, ℕ, zero, suc, ◌+◌, ◌*◌, ◌^◌, eqb, ltb, leb, length, get_or, take, drop}
use Rattle.model.specs.declared.Group.{Group}
use Rattle.model.specs.Lists.{all_of, any_of, sum_over}
use Rattle.model.specs.Groups.{Process, every, at, Processes, has, processes_of, within_test, number_of}
use Rattle.model.specs.Automata.{Transition}
use Rattle.model.specs.Systems.{Rule, System}
use Rattle.model.specs.Copies.{leaves_control, with_copy}

-- ---- items
-- one byte of kind, then a body whose length the kind fixes
pub record Item : Type 0 where
  pub kind : ℕ
  pub body : List ℕ

-- request 2.4: the places for written letters in a rule
abbrev pub written_places : ℕ
written_places = 6

abbrev pub body_length : ℕ → ℕ
body_length k = get_or (0 ∷ 2 ∷ 1 ∷ (10 + written_places) ∷ 9 ∷ 4 ∷ 4 ∷ 1 ∷ 0 ∷ []) k 0

-- "The ceilings belong to the table"
abbrev pub ceiling : ℕ → ℕ
ceiling k = get_or (0 ∷ 4 ∷ 32 ∷ 200 ∷ 200 ∷ 64 ∷ 1 ∷ 64 ∷ 1 ∷ []) k 0

-- the bytes of so many items of each kind, without the end, and of the longest table
abbrev pub bytes_of : (ℕ → ℕ) → ℕ
bytes_of n = sum_over (λ k. n k * (1 + body_length k)) (1 ∷ 2 ∷ 3 ∷ 4 ∷ 5 ∷ 6 ∷ 7 ∷ [])

abbrev pub longest : ℕ
longest = bytes_of ceiling + 1

-- the bodies of the items of one kind; numbering starts at 0 in order of appearance
abbrev pub bodies : ℕ → List Item → List (List ℕ)
bodies k [] = []
bodies k (x ∷ items) = cond (eqb x.kind k) (x.body ∷ bodies k items) (bodies k items)

abbrev pub count : ℕ → List Item → ℕ
count k items = length (bodies k items)

abbrev pub last_kind : List Item → ℕ
last_kind [] = 0
last_kind (x ∷ []) = x.kind
last_kind (x ∷ y ∷ items) = last_kind (y ∷ items)

-- ---- what bodies say. `ps` are the bodies of the processes (kind 1), `ls` those of the letters (kind 2)
abbrev pub byte_of : List ℕ → ℕ → ℕ
byte_of body i = get_or body i 0

-- a state group has four bytes, stations 0 to 3
abbrev pub group_of : List ℕ → ℕ → Group
group_of body i = record {
  s0 = byte_of body i;
  s1 = byte_of body (i + 1);
  s2 = byte_of body (i + 2);
  s3 = byte_of body (i + 3);
}

-- The states of a process are the numbers below its s, the control states those below its q. A process that the table
-- lacks stays at 255, its one state: its bounds are 256.
abbrev pub absent : List ℕ
absent = 256 ∷ 256 ∷ []

abbrev pub controls_of : List (List ℕ) → Process → ℕ
controls_of ps i = byte_of (get_or ps (number_of i) absent) 0

abbrev pub states_of : List (List ℕ) → Process → ℕ
states_of ps i = byte_of (get_or ps (number_of i) absent) 1

-- all processes of the table
abbrev pub present : List (List ℕ) → Processes
present ps = record { b0 = ltb 0 (length ps); b1 = ltb 1 (length ps); b2 = ltb 2 (length ps); b3 = ltb 3 (length ps) }

-- the processes of a letter. A number that is no letter counts as one of all processes: an accepted table names none.
abbrev pub loc_of : List (List ℕ) → ℕ → Processes
loc_of ls a = processes_of (byte_of (get_or ls a (15 ∷ [])) 0)

abbrev pub rule_of : List ℕ → Rule
rule_of body = record {
  letter = byte_of body 0;
  before = group_of body 1;
  after = group_of body 5;
  written = take (byte_of body 9) (drop 10 body);
}

abbrev pub transition_of : List ℕ → Transition
transition_of body = record { letter = byte_of body 0; before = group_of body 1; after = group_of body 5 }

-- ---- the checks of one item, after the items before it
-- refusal 2, stranger
abbrev pub is_stranger : ℕ → Bool
is_stranger k = eqb k 0 || ltb 8 k

-- refusal 3, turn: the kind falls, second 6, no station before another kind, 7 or 8 without 6
unfoldable pub is_out_of_turn : List Item → ℕ → Bool
is_out_of_turn items k =
    ltb k (last_kind items) || (eqb k 6 && ltb 0 (count 6 items)) || (eqb (count 1 items) 0 && ltb 1 k)
    || (ltb 6 k && eqb (count 6 items) 0)

-- the group has a state below the bound at each process of L, and 255 elsewhere
unfoldable pub group_fits : Processes → (Process → ℕ) → Group → Bool
group_fits L bound g = every (λ i. cond (has L i) (ltb (at g i) (bound i)) (eqb (at g i) 255))

-- the letter is one of the table's, and both groups fit it
unfoldable pub transition_fits : List (List ℕ) → (Process → ℕ) → Transition → Bool
transition_fits ls bound t =
    ltb t.letter (length ls) && group_fits (loc_of ls t.letter) bound t.before
    && group_fits (loc_of ls t.letter) bound t.after

-- there are as many places as the count says, which have letters of the table, and the spare ones have 255
unfoldable pub written_fit : List (List ℕ) → ℕ → List ℕ → Bool
written_fit ls n places =
    leb n written_places && all_of (λ a. ltb a (length ls)) (take n places) && all_of (λ a. eqb a 255) (drop n places)

-- what check 5 asks of a body
unfoldable pub value_fits : List (List ℕ) → List (List ℕ) → ℕ → List ℕ → Bool
value_fits ps ls k body =
    get_or (
    true
    ∷ (leb 1 (byte_of body 0) && leb (byte_of body 0) (byte_of body 1) && leb (byte_of body 1) 8)
    ∷ (leb 1 (byte_of body 0) && ltb (byte_of body 0) (2 ^ length ps))
    ∷ (transition_fits ls (controls_of ps) (transition_of body) && written_fit ls (byte_of body 9) (drop 10 body))
    ∷ transition_fits ls (states_of ps) (transition_of body)
    ∷ group_fits (present ps) (states_of ps) (group_of body 0)
    ∷ group_fits (present ps) (controls_of ps) (group_of body 0)
    ∷ ltb (byte_of body 0) (length ls)
    ∷ []
    ) k true

-- Cooperation: every station of a written task is a station of the rule's task.
unfoldable pub cooperates : (ℕ → Processes) → Rule → Bool
cooperates loc r = all_of (λ a. within_test (loc a) (loc r.letter)) r.written

-- every process has at most 4 states, so that with their copies they are numbers below 8
unfoldable pub is_narrow : List (List ℕ) → Bool
is_narrow ps = all_of (λ body. leb (byte_of body 1) 4) ps

-- refusal 7, re_entry; request 2.6: "re_entry with s above 4 at some station"
unfoldable pub is_reentry : List (List ℕ) → List (List ℕ) → ℕ → List ℕ → Bool
is_reentry ps ls k body =
    eqb k 4 && not (leaves_control (loc_of ls) (controls_of ps) (transition_of body)) && not (is_narrow ps)

abbrev pub same_bytes : List ℕ → List ℕ → Bool
same_bytes [] [] = true
same_bytes [] (y ∷ ys) = false
same_bytes (x ∷ xs) [] = false
same_bytes (x ∷ xs) (y ∷ ys) = eqb x y && same_bytes xs ys

-- refusal 8, twin: body seen before in kinds 3, 4, 5
unfoldable pub is_twin : List Item → ℕ → List ℕ → Bool
is_twin items k body = leb 3 k && leb k 5 && any_of (same_bytes body) (bodies k items)

-- The number of the first check that the item does not pass, in the order 2, 3, 4, 1, 5, 6, 7, 8, or 0. A body that is
-- shorter than its kind asks is cut.
unfoldable pub refusal : List Item → ℕ → List ℕ → ℕ
refusal items k body =
    cond (is_stranger k) 2
    (cond (is_out_of_turn items k) 3
    (cond (leb (ceiling k) (count k items)) 4
    (cond (ltb (length body) (body_length k)) 1
    (cond (not (value_fits (bodies 1 items) (bodies 2 items) k body)) 5
    (cond (eqb k 3 && not (cooperates (loc_of (bodies 2 items)) (rule_of body))) 6
    (cond (is_reentry (bodies 1 items) (bodies 2 items) k body) 7
    (cond (is_twin items k body) 8 0)))))))

-- ---- the whole file
-- the items of an accepted table, without the end; or the number and the place of the refusal
pub data Reading : Type 0 where
  accepted : List Item → Reading
  refused : ℕ → ℕ → Reading

-- refusal 9, leftover: bytes after kind 8, placed at the first of them
abbrev pub ending : List Item → List ℕ → ℕ → Reading
ending items [] place = accepted items
ending items (x ∷ rest) place = refused 9 place

-- a check that did not pass refuses at the item's first byte
abbrev pub unless_refused : ℕ → ℕ → Reading → Reading
unless_refused zero place reading = reading
unless_refused (suc n) place reading = refused (suc n) place

-- Items are checked in file order. `rest` are the bytes from `place` on; `fuel` is above their number. A file that ends
-- before kind 8 is cut at its length.
unfoldable pub read_from : ℕ → List Item → List ℕ → ℕ → Reading
read_from zero items rest place = refused 1 place
read_from (suc fuel) items [] place = refused 1 place
read_from (suc fuel) items (k ∷ rest) place =
    unless_refused (refusal items k (take (body_length k) rest)) place
    (cond (eqb k 8) (ending items rest (place + 1))
    (read_from fuel (items ++ (record { kind = k; body = take (body_length k) rest } ∷ [])) (drop (body_length k) rest)
    (place + 1 + body_length k)))

unfoldable pub read : List ℕ → Reading
read bytes = read_from (length bytes + 1) [] bytes 0

-- ---- the system of an accepted table, and the one whose automaton is saturated
unfoldable pub system_of : List Item → System
system_of items = record {
  loc = loc_of (bodies 2 items);
  processes = present (bodies 1 items);
  controls = controls_of (bodies 1 items);
  states = states_of (bodies 1 items);
  rules = map rule_of (bodies 3 items);
  transitions = map transition_of (bodies 4 items);
  accepting = map (λ body. group_of body 0) (bodies 5 items);
  start = record {
    states = group_of (get_or (bodies 6 items) 0 []) 0;
    word = map (λ body. byte_of body 0)
        (bodies 7 items);
  };
}

abbrev pub saturated_of : List Item → System
saturated_of items = with_copy (system_of items)
