-- The filter of check 8: a set of marks in bits. Each body of the kinds 3, 4 and 5 that was read has its mark in it, so
-- a body whose bit is not set was not seen. Which mark a body has is of no matter: equal bodies have equal marks.
use Rattle.std.specs.Prelude.{Bool, true, cond, ◌&&◌, List, ◌≡◌, ℕ, ◌+◌, ◌-◌, ◌*◌, ◌%◌, ◌≤◌, ◌<◌, leb, ltb, length, Result, MatchResult, OnOk}
use Rattle.std.specs.declared.ops.ControlFlow.{ControlFlow}
use Rattle.std.specs.declared.ops.ControlFlow.TheVariants.{Continue}
use Rattle.model.specs.Records.{number_at}
use Rattle.model.specs.Tables.{Item, body_length, ceiling, is_twin}
use Rattle.states.specs.StateSets.{member, inserted}
use Rattle.table.specs.Kinds.{last_number}
use Rattle.table.specs.Places.{body_at, counts_at, items_before, Passed, Whole}
use Rattle.table.specs.Reading.{out_of_turn, Stepped}
use Rattle.table.specs.declared.Cursor.{Cursor}
use Rattle.table.specs.declared.Table.{Table}
use Rattle.model.specs.declared.Refusal.{Refusal}

-- how many bytes the filter has
abbrev pub filter_length : ℕ
filter_length = 512

-- the kinds of which check 8 asks
abbrev pub has_twins : ℕ → Bool
has_twins k = leb 3 k && leb k 5

-- the mark of a body: by its first eight bytes and its last eight, or by its first four where it has not eight
unfoldable pub mark_of : List ℕ → ℕ
mark_of body =
    cond (ltb (length body) 8) (number_at 4 body 0 % 4021)
    ((number_at 8 body 0 % 4021 + number_at 8 body (length body - 8) % 4001) % (8 * filter_length))

-- the filter behind an item of kind k
unfoldable pub with_mark : List ℕ → ℕ → List ℕ → List ℕ
with_mark seen k body = cond (has_twins k) (inserted seen (mark_of body)) seen

-- the filter of the items: what would be a twin of one of them has its bit set
pub record Marked (items : List Item) (seen : List ℕ) : Type 0 where
  pub size : length seen ≡ filter_length
  pub each : (k : ℕ) (body : List ℕ) → is_twin items k body ≡ true → member seen (mark_of body) ≡ true

-- ---- what the functions need and leave
-- an item at the cursor, in its turn and whole, and the filter of the items before it
pub record ItemAt (bytes seen : List ℕ) (c : Cursor) (k : ℕ) (body : List ℕ) : Type 0 where
  pub passed : Passed bytes c
  pub turn : last_number c.last ≤ k
  pub inside : c.at + 1 + body_length k ≤ length bytes
  pub same : body ≡ body_at bytes (body_length k) c.at
  pub whole : Whole bytes c.table k body
  pub filter : Marked (items_before bytes c) seen

-- the checks 3, 4 and 1 of an item of kind k at the cursor, from which on so many bytes are left
abbrev pub place_refusal : Cursor → ℕ → ℕ → ℕ
place_refusal c k left =
    cond (out_of_turn c k) 3 (cond (leb (ceiling k) (counts_at c k)) 4 (cond (leb left (body_length k)) 1 0))

-- checks whose definition gives n, the number of the first that fails, or 0
abbrev pub Checked : {A : Type 0} → ℕ → Result A ℕ → Type 0
Checked n r = MatchResult r (λ _. n ≡ 0) (λ e. (e ≡ n) × (0 < e))

-- what the checks of an item behind these items give; an item that passes them is in the filter
pub record ItemChecked {A : Type 0} (checks : List Item → ℕ → List ℕ → ℕ) (items : List Item) (k : ℕ) (body : List ℕ) (r : Result A ℕ)
    (before after : List ℕ) : Type 0 where
  pub same : Checked (checks items k body) r
  pub filter : OnOk r (after ≡ with_mark before k body)

-- what one item leads to; the filter is that of the items before the next cursor
pub record ItemStepped (bytes : List ℕ) (c : Cursor) (r : ControlFlow (Result Table Refusal) Cursor) (seen : List ℕ) : Type 0 where
  pub stepped : Stepped bytes c r
  pub filter : (d : Cursor) → r ≡ Continue d → Marked (items_before bytes d) seen
