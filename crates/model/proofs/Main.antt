-- The mission's demands, of the definitions that the contracts of the calls are equations with: the top statements alone, in their order.
use mathlib.Core.Path.{◌≡◌, subst}
use mathlib.Core.Bool.{false, true}
use mathlib.Core.Logic.{◌↔◌}
use mathlib.Core.Option.{some}
use mathlib.Core.List.{List, []}
use Prim.Native.Nat.{◌<◌, ◌≤◌, ℕ}
use lib.ListN.{get_or}
use Rattle.model.specs.declared.Group.{Group}
use Rattle.model.specs.Automata.{Transition}
use Rattle.model.specs.Calls.{answer_call, changes_nothing, refused_by, run_call, walk_call, walk_figures, zeros}
use Rattle.model.specs.Copies.{mixed, reenters, copy_from}
use Rattle.model.specs.Demands.{Demand2Walk, Demand3, LogHolds, Tells, TookPart, Writes}
use Rattle.model.specs.Groups.{Process, Processes, Within, at, has}
use Rattle.model.specs.Systems.{Accepted, Accepting, Configuration, InAutomaton, PeakIs, System, peak, walk}
use Rattle.model.specs.Tables.{Item, accepted, bodies, present, read, saturated_of, system_of}
use Rattle.model.specs.Words.{project}
use Rattle.model.proofs.AbsentProcesses.{absent_empty}
use Rattle.model.proofs.AcceptedTables.{accepted_copyable}
use Rattle.model.proofs.CheckedItems.{read_complete}
use Rattle.model.proofs.Closing.{answer_closes, run_closes, walk_closes}
use Rattle.model.proofs.CopiedTables.{accepted_well_formed}
use Rattle.model.proofs.Copies.{mixed_accepts, own_automaton, same_accepted, Copied, copied_has, copied_only}
use Rattle.model.proofs.Demands.{calls_decide}
use Rattle.model.proofs.LogDemand.{answer_log, run_log}
use Rattle.model.proofs.Meanings.{answer_tells, run_writes}
use Rattle.model.proofs.Peak.{peak_is}
use Rattle.model.proofs.WalkDemand.{walk_counts_lem, walk_demand}
use lib.Dec.{leb}
use Rattle.model.specs.Lists.{filter}
use Rattle.model.specs.Log.{Record, limit, log_at}
use Rattle.model.proofs.Theorems.{rounds_of_limit}

-- ---- demand 1: what a call gives and leaves is its definition in Calls, whole. Of its buffers: refusals 1 to 9 and 15 change none; later the scratch is
-- left zero.
pub demand_1_answer : (table log scratch : List ℕ)
    → (changes_nothing (refused_by (answer_call table log scratch).answer) ≡ true → ((answer_call table log scratch).log ≡ log) × ((answer_call table log scratch).scratch ≡ scratch))
    × (changes_nothing (refused_by (answer_call table log scratch).answer) ≡ false → (answer_call table log scratch).scratch ≡ zeros scratch)
demand_1_answer = answer_closes

pub demand_1_run : (table log scratch page : List ℕ)
    → (changes_nothing (refused_by (run_call table log scratch page).answer) ≡ true
    → ((run_call table log scratch page).log ≡ log) × ((run_call table log scratch page).scratch ≡ scratch) × ((run_call table log scratch page).page ≡ page))
    × (changes_nothing (refused_by (run_call table log scratch page).answer) ≡ false → (run_call table log scratch page).scratch ≡ zeros scratch)
demand_1_run = run_closes

pub demand_1_walk : (table list pile scratch : List ℕ)
    → (changes_nothing (refused_by (walk_call table list pile scratch).answer) ≡ true → ((walk_call table list pile scratch).pile ≡ pile) × ((walk_call table list pile scratch).scratch ≡ scratch))
    × (changes_nothing (refused_by (walk_call table list pile scratch).answer) ≡ false → (walk_call table list pile scratch).scratch ≡ zeros scratch)
demand_1_walk = walk_closes

-- ---- demand 2: the finished log holds the limit automaton's transitions, each in the round in which the paper first adds it; a walk moves exactly as
-- the paper's systems step, and watched is acceptance
pub demand_2_answer : (table log scratch : List ℕ) → LogHolds table (refused_by (answer_call table log scratch).answer) (answer_call table log scratch).log
demand_2_answer = answer_log

pub demand_2_run : (table log scratch page : List ℕ) → LogHolds table (refused_by (run_call table log scratch page).answer) (run_call table log scratch page).log
demand_2_run = run_log

pub demand_2_walk : (table list pile scratch : List ℕ) → Demand2Walk table list scratch (walk_figures (walk_call table list pile scratch).answer) (walk_call table list pile scratch).pile
demand_2_walk = walk_demand

-- ---- demand 3: "unreachable" exactly when no run joins the start and the watched set, and else a run that does
pub demand_3 : (table log scratch page : List ℕ)
    → Demand3 table log scratch page (answer_call table log scratch).answer (run_call table log scratch page).answer (run_call table log scratch page).page
demand_3 = calls_decide

-- the word alone, with no premise; with a run its peak
pub demand_3_answer : (table log scratch : List ℕ) → Tells table (answer_call table log scratch).answer
demand_3_answer = answer_tells

pub demand_3_run : (table log scratch page : List ℕ) → Writes table (run_call table log scratch page).page (run_call table log scratch page).answer
demand_3_run = run_writes

-- ---- request 2.2: the peak is the greatest length of any process's projection along the run, start included
pub peak_greatest : (sys : System) (ns : List ℕ) (c end : Configuration) → walk sys ns c ≡ some end → PeakIs sys ns c (peak sys ns c)
peak_greatest = peak_is

-- of all processes of the table, that is: the projection to a process which the table lacks is empty
pub absent_projection : (table : List ℕ) (items : List Item) → read table ≡ accepted items → (i : Process) → has (present (bodies 1 items)) i ≡ false
    → (ns : List ℕ) (d : Configuration) → walk (system_of items) ns (system_of items).start ≡ some d → project (system_of items).loc i d.word ≡ []
absent_projection = absent_empty

-- ---- request 2.5: a walk gives for each process the number of steps that it took part in; refused at a step, of those before it
pub took_part : (table list pile scratch : List ℕ) → let o = walk_call table list pile scratch in TookPart table list (get_or (walk_figures o.answer) 0 0) (get_or (walk_figures o.answer) 1 0) o.counts
took_part = walk_counts_lem

-- ---- request 2.6, the copy of Lemma 10: the automaton that is saturated accepts a configuration of control states exactly if the table's own does
pub lemma_10 : (table : List ℕ) (items : List Item) → read table ≡ accepted items → (c : Configuration) → ((i : Process) → at c.states i < (system_of items).controls i)
    → Accepted (system_of items) c ↔ Accepted (saturated_of items) c
lemma_10 table items e = same_accepted (system_of items) (accepted_copyable items (read_complete table items e))

-- and none of its transitions enters a control state
pub enters_no_control : (table : List ℕ) (items : List Item) → read table ≡ accepted items → (t : Transition) → InAutomaton (saturated_of items) t
    → (i : Process) → has ((system_of items).loc t.letter) i ≡ true → (system_of items).controls i ≤ at t.after i
enters_no_control table items e = (accepted_well_formed items (read_complete table items e)).no_entry

-- "A transition goes from plain or copied states, in every mixture over its task's stations, to copied ones only": the copy has these and no others
pub copied_transitions : (items : List Item) → reenters (system_of items) ≡ true → (u : Transition)
    → let sys = system_of items in InAutomaton (saturated_of items) u
    ↔ ((t : Transition) × InAutomaton sys t × (M : Processes) × Within M (sys.loc t.letter) × (copy_from sys.loc sys.states t (mixed sys.states M t.before) ≡ u))
copied_transitions items y u = rw y (
  (λ m. let c = copied_only (system_of items) u m in (c.plain, c.is, c.mixture, c.within, c.makes)),
  (λ (t, is, M, w, e). subst (Copied (system_of items)) e (copied_has (system_of items) t M is w)),
)

-- "A group, plain, copied or mixed, accepts exactly if its plain version does."
pub accepts_as_plain : (table : List ℕ) (items : List Item) → read table ≡ accepted items → reenters (system_of items) ≡ true
    → (M : Processes) (g : Group) → Within M (system_of items).processes → ((i : Process) → at g i < (system_of items).states i)
    → Accepting (saturated_of items) (mixed (system_of items).states M g) ↔ Accepting (system_of items) g
accepts_as_plain table items e y M g w low = rw y (mixed_accepts (system_of items) (accepted_copyable items (read_complete table items e)) M g w low)

-- where no transition of the table enters a control state, the automaton that is saturated is its own
pub no_copy : (items : List Item) → reenters (system_of items) ≡ false → saturated_of items ≡ system_of items
no_copy items = own_automaton (system_of items)

-- ---- request 2.3, "the limit's records of rounds up to k": the log of rounds up to k has exactly the limit's records of a round at most k
pub limit_rounds : (table : List ℕ) (items : List Item) → read table ≡ accepted items → (k : ℕ) → log_at (saturated_of items) k ≡ filter (λ (r : Record). leb r.round k) (limit (saturated_of items))
limit_rounds table items e = rounds_of_limit table items e
