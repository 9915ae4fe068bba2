-- What reading a table gives, and the system that an accepted table describes.
use Rattle.std.specs.declared.ops.ControlFlow.{ControlFlow}
use Rattle.std.specs.declared.ops.ControlFlow.TheVariants.{Continue, Break}
use Rattle.std.specs.Prelude.{Bool, cond, not, ◌&&◌, ◌||◌, List, [], ◌≡◌, ℕ, zero, suc, ◌<◌, ◌≤◌, eqb, ltb, get_or, drop, Result, Ok}
use Rattle.model.specs.Automata.{Transition}
use Rattle.model.specs.Calls.{refuse}
use Rattle.model.specs.Copies.{with_copy}
use Rattle.model.specs.Groups.{Process, p0, p1, p2, p3, Processes, processes_of}
use Rattle.model.specs.Systems.{Rule, System}
use Rattle.model.specs.Tables.{Item, bodies, count, group_of, loc_of, rule_of, transition_of, value_fits, cooperates}
use Rattle.model.specs.Tables.{is_reentry, is_twin, Reading, accepted, refused, read_from, read, system_of}
use Rattle.model.specs.declared.Group.{Group}
use Rattle.table.specs.Kinds.{last_number}
use Rattle.table.specs.Places.{items_before, Passed}
use Rattle.table.specs.declared.Cursor.{Cursor}
use Rattle.model.specs.declared.Refusal.{Refusal}
use Rattle.table.specs.declared.Table.{Table}

-- ---- what `read` gives
-- the number of items of each kind, besides the start
abbrev pub counts_of : List Item → Table
counts_of items = record {
  processes = count 1 items;
  letters = count 2 items;
  rules = count 3 items;
  transitions = count 4 items;
  accepting = count 5 items;
  pile = count 7 items;
}

-- the counts of an accepted table, or why it is refused
abbrev pub parsed : Reading → Result Table Refusal
parsed (accepted items) = Ok (counts_of items)
parsed (refused number place) = refuse number place

-- the bytes are an accepted table, and t has its counts: what `read` gave
pub record Holds (bytes : List ℕ) (t : Table) : Type 0 where
  pub reading : parsed (read bytes) ≡ Ok t

-- ---- what an accepted table describes
abbrev pub items_of : Reading → List Item
items_of (accepted items) = items
items_of (refused number place) = []

unfoldable pub items_in : List ℕ → List Item
items_in bytes = items_of (read bytes)

unfoldable pub system_in : List ℕ → System
system_in bytes = system_of (items_in bytes)

-- the system whose automaton is saturated
abbrev pub saturated_in : List ℕ → System
saturated_in bytes = with_copy (system_in bytes)

-- its parts by their numbers
abbrev pub rule_in : List ℕ → ℕ → Rule
rule_in bytes k = get_or (system_in bytes).rules k (rule_of [])

abbrev pub transition_in : List ℕ → ℕ → Transition
transition_in bytes k = get_or (system_in bytes).transitions k (transition_of [])

abbrev pub accepting_in : List ℕ → ℕ → Group
accepting_in bytes k = get_or (system_in bytes).accepting k (group_of [] 0)

abbrev pub pile_in : List ℕ → ℕ → ℕ
pile_in bytes k = get_or (system_in bytes).start.word k 0

-- process i, for i below 4
abbrev pub process_at : ℕ → Process
process_at zero = p0
process_at (suc zero) = p1
process_at (suc (suc zero)) = p2
process_at (suc (suc (suc i))) = p3

-- bits that stand for a set of processes
pub record BitsOf (L : Processes) (bits : ℕ) : Type 0 where
  pub same : processes_of bits ≡ L
  pub small : bits ≤ 15

-- ---- one item
-- check 3 by what a cursor carries
unfoldable pub out_of_turn : Cursor → ℕ → Bool
out_of_turn c k =
    ltb k (last_number c.last) || (eqb k 6 && ltb 0 c.starts) || (eqb c.table.processes 0 && ltb 1 k)
    || (ltb 6 k && eqb c.starts 0)

-- the checks 5 to 8
unfoldable pub body_refusal : List Item → ℕ → List ℕ → ℕ
body_refusal items k body =
    cond (not (value_fits (bodies 1 items) (bodies 2 items) k body)) 5
    (cond (eqb k 3 && not (cooperates (loc_of (bodies 2 items)) (rule_of body))) 6
    (cond (is_reentry (bodies 1 items) (bodies 2 items) k body) 7
    (cond (is_twin items k body) 8 0)))

-- the reading from a cursor on
abbrev pub read_on : List ℕ → Cursor → ℕ → Reading
read_on bytes c fuel = read_from fuel (items_before bytes c) (drop c.at bytes) c.at

-- the reading from c on is the one from d on, further in the bytes
pub record Onward (bytes : List ℕ) (c d : Cursor) : Type 0 where
  pub passed : Passed bytes d
  pub ahead : c.at < d.at
  pub same : (fuel : ℕ) → read_on bytes c (suc fuel) ≡ read_on bytes d fuel

-- what one item leads to: the next cursor, or the end
pub record Stepped (bytes : List ℕ) (c : Cursor) (r : ControlFlow (Result Table Refusal) Cursor) : Type 0 where
  pub next : (d : Cursor) → r ≡ Continue d → Onward bytes c d
  pub done : (p : Result Table Refusal) → r ≡ Break p → (fuel : ℕ) → parsed (read_on bytes c (suc fuel)) ≡ p
