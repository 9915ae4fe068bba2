-- Whether there is a path: by the attempt, or by the sets; and what the search then gives.
use mathlib.Core.Path.{◌≡◌, refl, ap, ap₂, sym, subst, ◌∙◌}
use mathlib.Core.Bool.{true, false, true≢false}
use mathlib.Core.List.{List, [], ◌∷◌}
use mathlib.Core.Logic.{inl}
use mathlib.Core.Option.{Option, map, none, some}
use Prim.Native.Nat.{ℕ, ◌+◌, ◌-◌, ◌<◌, ◌≤◌, min}
use native.Mathlib.Omega.{arith}
use lib.ListN.{length, drop}
use Rattle.model.specs.declared.Group.{Group}
use Rattle.model.specs.Lists.{Each, sum_over}
use Rattle.model.specs.Log.{Path, record_at, steps_cap, log_at}
use Rattle.model.specs.Records.{steps_at}
use Rattle.model.specs.Unfolding.{accepting_path, path_steps}
use Rattle.model.proofs.Lists.{each_map}
use Rattle.model.proofs.Reachability.{accepting_path_found}
use Rattle.states.specs.StateNumbers.{Over}
use Rattle.states.specs.StateSets.{member}
use Rattle.records.specs.Entries.{HasRecord}
use Rattle.scratch.specs.Regions.{links_end, stack_at}
use Rattle.scratch.specs.StackNumbers.{stack_place, numbers_down, stack_of}
use Rattle.table.specs.declared.Table.{Table}
use Rattle.table.specs.Reading.{Holds, saturated_in, system_in}
use Rattle.table.proofs.Layouts.{table_modest}
use Rattle.logs.specs.RoundLogs.{RoundLog, SomeRound, EachRound}
use Rattle.logs.proofs.RoundLogs.{round_has, round_reads}
use Rattle.leaders.specs.Leaders.{Linked}
use Rattle.leaders.proofs.Chains.{linked_outside}
use Rattle.rings.specs.Rings.{OutsideSame}
use Rattle.rings.proofs.Links.{outside_none}
use Rattle.rests.specs.declared.Scope.{Scope}
use Rattle.rests.specs.Rests.{processes_of_table, own_number, set_at, accepts_from, path_from, prepend, SetRight}
use Rattle.rests.proofs.GreedyPath.{is_some, accepts_is, prepend_none}
use Rattle.rests.proofs.Grounds.{grounds}
use Rattle.rests.proofs.Sets.{linked_same, set_bytes, right_kept}
use Rattle.restsets.specs.Sets.{OnlySet}
use Rattle.restsets.specs.Filling.{WordChained}
use Rattle.attempts.specs.declared.Tried.TheVariants.{Found, Nothing}
use Rattle.attempts.specs.Attempts.{Leading, Attempted, Ready, state_along, trail}
use Rattle.std.specs.Prelude.{Some, None}
use Rattle.start.specs.Search.{set_place, whole_word, RightAt, Begun, BegunLed, SetsReady, start_in, round_path, PathOn, start_found, Sought}
use Rattle.start.proofs.Tracing.{start_right, path_whole}

-- ---- where the search begins
pub begun_start : {table : List ℕ} {t : Table} {log : List ℕ} {n count : ℕ} {s u : List ℕ} → SomeRound table t log count × Linked log count n s × (links_end n ≤ length s)
    → OnlySet (set_place t.pile) s u × ((round : ℕ) → SetRight table t round (set_at u (set_place t.pile)) t.pile) → Begun table t log (record { n = n; count = count; limit = count }) u
begun_start {table} {t} p filled =
    let few : t.pile ≤ 64 = (table_modest table t p.0.1.holds).pile in
    record {
      scoped = record { some = p.0; linked = linked_same (omega arith) filled.0 p.1; limited = omega arith };
      room = omega (arith, p.2, filled.0.size);
      last = λ round lent. filled.1 round;
    }

-- ---- no path
no_some : (o : Option Path) → is_some o ≡ false → o ≡ none
no_some none e = refl
no_some (some p) e = absurd (true≢false e)

path_none : (table : List ℕ) (round k : ℕ) (g : Group) → accepts_from table round k g ≡ false → path_from table round k g ≡ none
unfolding accepting_path
path_none table round k g e =
    let sys = saturated_in table in
    no_some (path_from table round k g) (sym (accepts_is sys.loc (log_at sys round) sys.accepting (drop k sys.start.word) g) ∙ e)

-- the first set tells it
pub sets_none : {table : List ℕ} {t : Table} {log : List ℕ} {c : Scope} {s : List ℕ} → SetsReady table t log c s → start_in table t s ≡ false
    → EachRound table t log c.limit (λ (round : ℕ). round_path table round ≡ none)
sets_none {table} {s = s} p e round lent = path_none table round 0 (system_in table).start.states (sym (start_right s (p.right 0 (omega arith)) round lent) ∙ e)

-- ---- the attempt
module _ {table : List ℕ} {t : Table} {log : List ℕ} {c : Scope} {s : List ℕ} (p : Begun table t log c s) where
  holds : Holds table t
  holds = p.scoped.some.1.holds

  few : t.pile ≤ 64
  few = (table_modest table t holds).pile

  pub attempt_ready : 0 < t.pile → {g : Group} → g ≡ (system_in table).start.states → Ready table t log c (whole_word t) g s
  attempt_ready h e = record {
    scoped = p.scoped;
    some = h;
    inside = omega arith;
    apart = omega (arith, few);
    right = p.last;
    over = subst (Over (processes_of_table t)) (sym e) (grounds table t holds).start;
  }

  -- the empty word: the first set is the last
  module _ (empty : t.pile ≡ 0) where
    told : EachRound table t log c.limit (λ (round : ℕ). start_in table t s ≡ accepts_from table round 0 (system_in table).start.states)
    told = start_right s (subst (RightAt table t log c.limit s) empty p.last)

    pub empty_found : start_in table t s ≡ true → Attempted table t log c (whole_word t) (system_in table).start.states s s Found
    unfolding numbers_down
    empty_found y =
        let g = (system_in table).start.states in
        let none : trail t 0 t.pile s ≡ [] = let e : t.pile - 0 ≡ 0 = omega arith in ap (numbers_down s (stack_place (t.pile - t.pile))) e in
        record {
          same = outside_none 128 stack_at s;
          shown = subst (Leading table t log c (whole_word t) g) (sym none) (record {
            over = (grounds table t holds).start;
            accepted = λ round lent. ap (λ (k : ℕ). accepts_from table round k g) empty ∙ sym (told round lent) ∙ y;
            first = λ round lent. prepend_none (path_from table round 0 g) ∙ ap (λ (k : ℕ). map (prepend []) (path_from table round k g)) (sym empty);
          });
        }

    pub empty_nothing : start_in table t s ≡ false → Attempted table t log c (whole_word t) (system_in table).start.states s s Nothing
    empty_nothing n = record {
      same = outside_none 128 stack_at s;
      shown = λ round lent. path_none table round 0 (system_in table).start.states (sym (told round lent) ∙ n);
    }

-- what an attempt found is the path
pub attempt_found : {table : List ℕ} {t : Table} {log : List ℕ} {c : Scope} {s : List ℕ} → Leading table t log c (whole_word t) (system_in table).start.states (trail t 0 t.pile s)
    → EachRound table t log c.limit (λ (round : ℕ). PathOn table t round s)
attempt_found {table} {t} {log} {s = s} w round lent =
    let g = state_along table log 0 (trail t 0 t.pile s) (system_in table).start.states in
    let all : trail t 0 t.pile s ≡ stack_of s t.pile = (let base : stack_place (t.pile - t.pile) ≡ stack_at = omega arith in let e : t.pile - 0 ≡ t.pile = omega arith in ap₂ (λ (b k : ℕ). numbers_down s b k) base e) in
    path_whole {s = s} g lent.holds (w.accepted round lent) (w.first round lent ∙ ap (λ (ns : List ℕ). map (prepend ns) (path_from table round t.pile g)) all)

-- an attempt that gave up changed nothing but the stack
pub begun_kept : {table : List ℕ} {t : Table} {log : List ℕ} {c : Scope} {s u : List ℕ} → Begun table t log c s → OutsideSame 128 stack_at s u → Begun table t log c u
begun_kept {table} {t} p o =
    let few : t.pile ≤ 64 = (table_modest table t p.scoped.some.1.holds).pile in
    record {
      scoped = record { some = p.scoped.some; linked = linked_same (omega arith) o p.scoped.linked; limited = p.scoped.limited };
      room = omega (arith, p.room, o.size);
      last = right_kept (set_place t.pile) t.pile (omega (arith, p.room)) (inl (omega arith)) o p.last;
    }

-- ---- the leaders of the word's letters
pub begun_led : {table : List ℕ} {t : Table} {log : List ℕ} {c : Scope} {s u : List ℕ} → Begun table t log c s → WordChained table t log c.count c.n s u → BegunLed table t log c u
begun_led {table} {t} {log} {c} {s} {u} p w =
    let few : t.pile ≤ 64 = (table_modest table t p.scoped.some.1.holds).pile in
    let same : set_at u (set_place t.pile) ≡ set_at s (set_place t.pile) = set_bytes s u (set_place t.pile) (omega (arith, p.room)) w.outside.size (λ i a b. w.outside.before i (omega arith)) in
    record {
      begun = record {
        scoped = record { some = p.scoped.some; linked = linked_outside w.outside p.scoped.linked; limited = p.scoped.limited };
        room = omega (arith, p.room, w.outside.size);
        last = λ round lent g o. ap (λ (l : List ℕ). member l (own_number (processes_of_table t) g)) same ∙ p.last round lent g o;
      };
      led = w.led;
    }

-- ---- the steps of the path
module _ {table : List ℕ} {t : Table} {round : ℕ} {log : List ℕ} {count : ℕ} (lent : RoundLog table t round log count) {s : List ℕ} (w : PathOn table t round s) where
  numbers_inside : Each (λ (n : ℕ). n < count) (stack_of s t.pile)
  numbers_inside =
      let sys = saturated_in table in
      let found = (accepting_path_found sys (log_at sys round) sys.start w.path w.is).0 in
      subst (Each (λ (n : ℕ). n < count)) (sym w.stack)
      (each_map (λ (n : ℕ). n < length (log_at sys round)) (λ (n : ℕ). n < count) (λ n h. omega (arith, lent.size)) w.path.numbers found.inside)

  pub stack_records : Each (HasRecord log) (stack_of s t.pile)
  stack_records = each_map (λ (n : ℕ). n < count) (HasRecord log) (λ n h. round_has lent n h) (stack_of s t.pile) numbers_inside

  steps_same : (ns : List ℕ) → Each (λ (n : ℕ). n < count) ns → sum_over (steps_at log) ns ≡ sum_over (λ m. (record_at (log_at (saturated_in table) round) m).steps) ns
  steps_same [] e = refl
  steps_same (n ∷ ns) e = ap₂ (λ (a b : ℕ). a + b) (round_reads lent n e.0).steps (steps_same ns e.1)

  pub sought_path : {steps : ℕ} → steps ≡ min (sum_over (steps_at log) (stack_of s t.pile)) steps_cap → Sought table t round (Some steps) s
  sought_path e = record {
    given = ap Some (e ∙ ap (λ (k : ℕ). min k steps_cap) (steps_same (stack_of s t.pile) numbers_inside) ∙ ap (path_steps (log_at (saturated_in table) round)) w.stack)
        ∙ sym (ap (start_found (log_at (saturated_in table) round)) w.is);
    stack = λ p is. let same : w.path ≡ p = one w.path p (sym w.is ∙ is) in w.stack ∙ ap (λ (q : Path). q.numbers) same;
  }
    where
      one : (p q : Path) → some p ≡ some q → p ≡ q
      one p q e = cc

pub sought_none : {table : List ℕ} {t : Table} {round : ℕ} {s : List ℕ} → round_path table round ≡ none → Sought table t round None s
sought_none {table} {t} {round} e = record { given = sym (ap (start_found (log_at (saturated_in table) round)) e); stack = λ p is. absurd (clash p (sym e ∙ is)) }
  where
    clash : (p : Path) → none ≡ some p → ⊥
    clash p q = let z : ◌≡◌ {A = ℕ} 0 1 = cc in omega arith
