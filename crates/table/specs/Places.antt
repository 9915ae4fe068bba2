-- Where the items of a table stand. Kinds never fall and a kind fixes its body's length, so the counts alone place
-- every item.
use Rattle.std.specs.Prelude.{cond, List, [], ◌∷◌, ◌++◌, map, ◌≡◌, ℕ, zero, suc, ◌+◌, ◌*◌, ◌≤◌, ◌<◌, eqb, length, get_or, take, drop}
use Rattle.model.specs.Groups.{Process, number_of}
use Rattle.model.specs.Tables.{Item, body_length, ceiling, last_kind, absent, byte_of}
use Rattle.table.specs.Kinds.{kind_of, last_number}
use Rattle.table.specs.declared.Cursor.{Cursor}
use Rattle.table.specs.declared.Table.{Table}

-- the body, of `size` bytes, of the item whose kind stands at `place`
abbrev pub body_at : List ℕ → ℕ → ℕ → List ℕ
body_at bytes size place = take size (drop (place + 1) bytes)

-- the bodies of n items of one kind, one behind the other from `place` on
unfoldable pub bodies_at : List ℕ → ℕ → ℕ → ℕ → List (List ℕ)
bodies_at bytes size place zero = []
bodies_at bytes size place (suc n) = body_at bytes size place ∷ bodies_at bytes size (place + 1 + size) n

-- ---- `n k` is the number of items of kind k
-- the place behind the items of the kinds below k
unfoldable pub offset : (ℕ → ℕ) → ℕ → ℕ
offset n zero = 0
offset n (suc k) = offset n k + n k * (1 + body_length k)

-- item j of kind k: its place and its body
abbrev pub place_of : (ℕ → ℕ) → ℕ → ℕ → ℕ
place_of n k j = offset n k + j * (1 + body_length k)

abbrev pub body_of : List ℕ → (ℕ → ℕ) → ℕ → ℕ → List ℕ
body_of bytes n k j = body_at bytes (body_length k) (place_of n k j)

-- the items of the kinds below k
unfoldable pub items_below : List ℕ → (ℕ → ℕ) → ℕ → List Item
items_below bytes n zero = []
items_below bytes n (suc k) =
    items_below bytes n k
    ++ map (λ (body : List ℕ). record { kind = k; body = body }) (bodies_at bytes (body_length k) (offset n k) (n k))

-- ---- a table, and a cursor behind its items
-- the number of items of each kind; kind 8 is never before a cursor
abbrev pub counts : Table → ℕ → ℕ → ℕ
counts t starts k =
    get_or (0 ∷ t.processes ∷ t.letters ∷ t.rules ∷ t.transitions ∷ t.accepting ∷ starts ∷ t.pile ∷ 0 ∷ []) k 0

abbrev pub counts_at : Cursor → ℕ → ℕ
counts_at c = counts c.table c.starts

abbrev pub items_before : List ℕ → Cursor → List Item
items_before bytes c = items_below bytes (counts_at c) 8

-- the bodies of the processes and of the letters
abbrev pub processes_in : List ℕ → Table → List (List ℕ)
processes_in bytes t = bodies_at bytes 2 0 t.processes

abbrev pub letters_in : List ℕ → Table → List (List ℕ)
letters_in bytes t = bodies_at bytes 1 (3 * t.processes) t.letters

-- the bounds of the states of each process: of its control states in field 0, of all its states in field 1
abbrev pub bound_in : List ℕ → Table → ℕ → Process → ℕ
bound_in bytes t field i = byte_of (get_or (processes_in bytes t) (number_of i) absent) field

-- the counts are at most the ceilings
pub record Modest (t : Table) : Type 0 where
  pub processes : t.processes ≤ 4
  pub letters : t.letters ≤ 32
  pub rules : t.rules ≤ 200
  pub transitions : t.transitions ≤ 200
  pub accepting : t.accepting ≤ 64
  pub pile : t.pile ≤ 64

-- the cursor behind one item more, of kind k
unfoldable pub advanced : Cursor → ℕ → ℕ → Cursor
advanced c k next =
    record {
      at = next;
      last = kind_of k;
      starts = c.starts + cond (eqb k 6) 1 0;
      table = record {
        processes = c.table.processes + cond (eqb k 1) 1 0;
        letters = c.table.letters + cond (eqb k 2) 1 0;
        rules = c.table.rules + cond (eqb k 3) 1 0;
        transitions = c.table.transitions + cond (eqb k 4) 1 0;
        accepting = c.table.accepting + cond (eqb k 5) 1 0;
        pile = c.table.pile + cond (eqb k 7) 1 0;
      };
    }

-- the processes and the letters of the table stand in the bytes
pub record Heads (bytes : List ℕ) (t : Table) : Type 0 where
  pub processes : t.processes ≤ 4
  pub letters : t.letters ≤ 32
  pub inside : 3 * t.processes + 2 * t.letters ≤ length bytes

-- the body is that of an item of the kind, whole
pub record Whole (bytes : List ℕ) (t : Table) (k : ℕ) (body : List ℕ) : Type 0 where
  pub heads : Heads bytes t
  pub some : 0 < k
  pub known : k < 9
  pub size : length body ≡ body_length k

-- the items before the cursor passed the checks 2 to 4, and they are whole
pub record Passed (bytes : List ℕ) (c : Cursor) : Type 0 where
  pub place : c.at ≡ offset (counts_at c) 8
  pub within : c.at ≤ length bytes
  pub last : last_kind (items_before bytes c) ≡ last_number c.last
  pub above : (k : ℕ) → last_number c.last < k → counts_at c k ≡ 0
  pub ceilings : (k : ℕ) → counts_at c k ≤ ceiling k
