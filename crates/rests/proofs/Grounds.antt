-- What an accepted table gives the search: its states are numbered, every record leads from one to another, and a state from which a word is accepted is below
-- what the table says of each process, since the states before every transition are.
use mathlib.Core.Path.{◌≡◌, ap, sym, subst, ◌∙◌}
use mathlib.Core.Bool.{true, false}
use mathlib.Core.Option.{some}
use mathlib.Core.List.{List, Memᴰ, [], ◌∷◌}
use Prim.Native.Nat.{ℕ, ◌<◌, ◌≤◌}
use native.Mathlib.Omega.{arith}
use lib.ListN.{get_elem?, length, drop}
use Rattle.model.specs.declared.Group.{Group}
use Rattle.model.specs.Automata.{Along, Transition, move}
use Rattle.model.specs.Groups.{Process, Processes, at, has, Within}
use Rattle.model.specs.Lists.{Each}
use Rattle.model.specs.Log.{Record, keys, log_at, record_at}
use Rattle.model.specs.Systems.{InAutomaton, Rule, System, accepts}
use Rattle.model.specs.Tables.{bodies, present, system_of}
use Rattle.model.proofs.Acceptance.{accepts_true}
use Rattle.model.proofs.AcceptedTables.{accepted_cooperating}
use Rattle.model.proofs.CheckedItems.{Complete}
use Rattle.model.proofs.CopiedTables.{saturated_copyable, saturated_eight}
use Rattle.model.proofs.Copies.{Copyable}
use Rattle.model.proofs.Groups.{at_merge, at_restrict}
use Rattle.model.proofs.Lists.{each_get, each_map, each_of_map, mem_each}
use Rattle.model.proofs.Soundness.{ControlOn}
use Rattle.model.proofs.TableProcesses.{ranged_at}
use Rattle.model.proofs.Tests.{by_test}
use Rattle.model.proofs.Validity.{each_at}
use Rattle.states.specs.StateNumbers.{Over}
use Rattle.table.specs.declared.Table.{Table}
use Rattle.table.specs.Reading.{Holds, items_in, pile_in, saturated_in, system_in}
use Rattle.table.proofs.Layouts.{count_in, pile_letter_in}
use Rattle.table.proofs.Readings.{holds_complete}
use Rattle.table.specs.Present.{processes_below}
use Rattle.table.proofs.Configurations.{loc_within, start_over}
use Rattle.logs.proofs.Logs.{each_round, Keyed, merge_over, log_over}
use Rattle.rests.specs.Rests.{first_processes, processes_of_table, accepts_from}

-- the transition's states before are below q at its letter's processes
abbrev pub From : (ℕ → Processes) → (Process → ℕ) → Transition → Type 0
From loc q t = ControlOn q (loc t.letter) t.before

pub record Rooted (sys : System) (q : Process → ℕ) : Type 0 where
  pub rules : (n : ℕ) (r : Rule) → get_elem? sys.rules n ≡ some r → ControlOn q (sys.loc r.letter) r.before
  pub automaton : (t : Transition) → InAutomaton sys t → From sys.loc q t

-- ---- every transition of the log
pub log_from : (sys : System) (q : Process → ℕ) → Rooted sys q → (k : ℕ) → Each (From sys.loc q) (keys (log_at sys k))
log_from sys q b k = each_of_map (From sys.loc q) (λ (x : Record). x.key) (log_at sys k) (each_round sys (λ k x. From sys.loc q x.key) b.automaton (λ k x p. p)
    (λ k e c ρ. rw ρ.key_is (b.rules c.rule ρ.rule ρ.is)) k)

-- ---- back along a path
module _ (loc : ℕ → Processes) (q : Process → ℕ) (i : Process) where
  along_from : (ts : List Transition) (g f : Group) → Each (From loc q) ts → Along loc g ts f → at f i < q i → at g i < q i
  along_from [] g f e p l = subst (λ (h : Group). at h i < q i) (sym p) l
  along_from (t ∷ ts) g f e p l = by_test (has (loc t.letter) i)
      (λ m. let same : at g i ≡ at t.before i = sym (at_restrict (loc t.letter) g i ∙ rw m) ∙ ap (λ (h : Group). at h i) p.0 in subst (λ (n : ℕ). n < q i) (sym same) (e.0 i m))
      (λ m. let same : at (move loc t g) i ≡ at g i = at_merge (loc t.letter) t.after g i ∙ rw m in subst (λ (n : ℕ). n < q i) same (along_from ts (move loc t g) f e.1 p.1 l))

  pub accepts_from_lem : (ts : List Transition) (acc : List Group) (w : List ℕ) (g : Group) → Each (From loc q) ts → Each (λ (f : Group). at f i < q i) acc
      → accepts loc ts acc w g ≡ true → at g i < q i
  accepts_from_lem ts acc w g e a y =
      let p = accepts_true loc ts acc w g y in
      along_from p.path g p.end (each_map (λ (t : Transition). Memᴰ t ts) (From loc q) (λ t m. each_get (From loc q) t ts e m) p.path p.goods) p.along
      (each_get (λ (f : Group). at f i < q i) p.end acc a p.accepting)

-- ---- what an accepted table gives; the states of the automaton that is saturated are counted with their copies
pub record Grounds (table : List ℕ) (t : Table) : Type 0 where
  pub states : (i : Process) → has (processes_of_table t) i ≡ true → (0 < (saturated_in table).states i) × ((saturated_in table).states i ≤ 8)
  pub accepted : (round k : ℕ) (g : Group) → accepts_from table round k g ≡ true → (i : Process) → at g i < (saturated_in table).states i
  pub letters : (i : ℕ) → i < t.pile → Within ((system_in table).loc (pile_in table i)) (processes_of_table t)
  pub moves : (round r : ℕ) → r < length (log_at (saturated_in table) round) → (g : Group) → Over (processes_of_table t) g
      → Over (processes_of_table t) (move (system_in table).loc (record_at (log_at (saturated_in table) round) r).key g)
  pub start : Over (processes_of_table t) (system_in table).start.states
  pub accepting : Each (Over (processes_of_table t)) (saturated_in table).accepting

module _ (table : List ℕ) (t : Table) (h : Holds table t) where
  complete : Complete (items_in table)
  complete = holds_complete table t h

  fitting : Copyable (saturated_in table)
  unfolding system_in
  fitting = saturated_copyable (items_in table) complete

  processes_are : present (bodies 1 (items_in table)) ≡ processes_of_table t
  processes_are = ap first_processes (count_in table t h 1 (omega arith))

  states_range : (i : Process) → has (processes_of_table t) i ≡ true → (0 < (saturated_in table).states i) × ((saturated_in table).states i ≤ 8)
  unfolding system_in system_of
  states_range i m =
      let there : has (present (bodies 1 (items_in table))) i ≡ true = subst (λ (L : Processes). has L i ≡ true) (sym processes_are) m in
      (omega (arith, (ranged_at complete.checked i there).some, fitting.controls i), saturated_eight (items_in table) complete i there)

  -- the processes of a letter are processes of the table
  letter_within : (a : ℕ) → a < t.letters → Within ((system_in table).loc a) (processes_of_table t)
  unfolding processes_below
  letter_within = loc_within table t h

  rooted : Rooted (saturated_in table) (saturated_in table).states
  unfolding system_in
  rooted = record {
    rules = λ n r is i m. omega (arith, ((accepted_cooperating (items_in table) complete).rules_control n r is).0 i m, fitting.controls i);
    automaton = λ u m. (fitting.automaton u m).before;
  }

  accepting_over : Each (Over (processes_of_table t)) (saturated_in table).accepting
  unfolding system_in system_of
  accepting_over = mem_each (saturated_in table).accepting (Over (processes_of_table t)) (λ g m.
      let f = fitting.accepting g m in
      record {
        inside = λ i y. omega (arith, f.states i, (states_range i y).1);
        outside = λ i n. f.outside i (subst (λ (L : Processes). has L i ≡ false) (sym processes_are) n);
      })

  pub grounds : Grounds table t
  unfolding processes_below
  grounds = record {
    states = states_range;
    accepted = λ round k g y i. accepts_from_lem (system_in table).loc (saturated_in table).states i (keys (log_at (saturated_in table) round)) (saturated_in table).accepting (drop k (system_in table).start.word) g
        (log_from (saturated_in table) (saturated_in table).states rooted round)
        (mem_each (saturated_in table).accepting (λ (f : Group). at f i < (saturated_in table).states i) (λ f m. (fitting.accepting f m).states i)) y;
    letters = λ i l. letter_within (pile_in table i) (pile_letter_in table t h i l);
    moves = λ round r l g o.
        let x = (record_at (log_at (saturated_in table) round) r).key in
        let w = each_at (λ r. Keyed table t r.key) (log_at (saturated_in table) round) (log_over table t h round) r l in
        merge_over (processes_of_table t) ((system_in table).loc x.letter) x.after g (letter_within x.letter w.0) w.2 o;
    start = start_over table t h;
    accepting = accepting_over;
  }
