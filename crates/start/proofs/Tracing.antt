-- Laws of the path from the start: at each letter the lowest record that leads on is the path's next record.
use mathlib.Core.Path.{◌≡◌, refl, ap, ap₂, sym, subst, ◌∙◌}
use mathlib.Core.Bool.{Bool, true, false, cond, ◌&&◌}
use mathlib.Core.Logic.{inl, inr}
use mathlib.Core.Option.{Option, map, none, some}
use mathlib.Core.List.{List, [], ◌∷◌, ◌++◌, append-nil}
use Prim.Native.Nat.{ℕ, zero, suc, ◌+◌, ◌-◌, ◌<◌, ◌≤◌}
use native.Mathlib.Nat.{not-suc-le-zero}
use native.Mathlib.Numerals.{add-one}
use native.Mathlib.Omega.{arith}
use lib.Dec.{ltb}
use lib.ListN.{length, drop, drop_of_length-le}
use borrow.Author.Tests.{ltb-true}
use Rattle.model.specs.declared.Group.{Group}
use Rattle.model.specs.Automata.{move}
use Rattle.model.specs.Groups.{processes_of, merge}
use Rattle.model.specs.Log.{Record, Path, push, record_at, reads_at, keys, log_at}
use Rattle.model.specs.Systems.{System, accepts, is_accepting}
use Rattle.model.specs.Unfolding.{accepting_path}
use Rattle.model.specs.Records.{after_at}
use Rattle.model.proofs.Tests.{and_left, and_right}
use Rattle.numbers.specs.NumberBytes.{with_number}
use Rattle.numbers.proofs.NumberBytes.{byte_kept, length_number}
use Rattle.states.specs.StateNumbers.{Over}
use Rattle.states.proofs.StateSets.{First, first_at}
use Rattle.scratch.specs.Regions.{stack_at}
use Rattle.scratch.specs.StackNumbers.{stack_place, numbers_down, stack_of}
use Rattle.scratch.proofs.StackNumbers.{down_more}
use Rattle.rings.specs.Rings.{OutsideSame}
use Rattle.rings.proofs.Links.{outside_none, outside_join}
use Rattle.table.specs.declared.Table.{Table}
use Rattle.table.specs.Reading.{Holds, saturated_in, system_in, pile_in}
use Rattle.table.proofs.Layouts.{table_modest, pile_count}
use Rattle.logs.specs.RoundLogs.{RoundLog, EachRound}
use Rattle.rests.specs.declared.Letter.{Letter}
use Rattle.rests.specs.declared.Scope.{Scope}
use Rattle.rests.specs.Rests.{processes_of_table, zeroed_group, set_at, LetterAt, first_lead, accepts_from, path_from, prepend, SetRight}
use Rattle.rests.proofs.GreedyPath.{pick_from, greedy, accepting_path_greedy, prepend_none, prepend_more}
use Rattle.rests.proofs.Grounds.{grounds}
use Rattle.rests.proofs.RestRight.{goes_on, word_from, target_is, first_is_lead, lead_accepts}
use Rattle.rests.proofs.Sets.{linked_same, right_kept}
use Rattle.start.specs.Search.{set_place, round_path, OnPath, Underway, Advanced, RightAt, SetsReady, start_in, PathOn}

-- ---- the lowest record that leads on
pick_first : (sys : System) (b : ℕ) (g : Group) (ok : Group → Bool) (next : Group → Option Path) (rs : List Record) (n j : ℕ) → j < length rs
    → ((k : ℕ) → k < j → (reads_at sys.loc b g (record_at rs k) && ok (move sys.loc (record_at rs k).key g)) ≡ false)
    → (reads_at sys.loc b g (record_at rs j) && ok (move sys.loc (record_at rs j).key g)) ≡ true
    → pick_from sys.loc b g ok next rs n ≡ map (push (n + j)) (next (move sys.loc (record_at rs j).key g))
pick_first sys b g ok next [] n j h f y = absurd (not-suc-le-zero h)
pick_first sys b g ok next (r ∷ rs) n zero h f y = rw y (ap (λ (k : ℕ). map (push k) (next (move sys.loc r.key g))) (omega arith))
pick_first sys b g ok next (r ∷ rs) n (suc j) h f y =
    rw (f 0 (omega arith)) (pick_first sys b g ok next rs (suc n) j (omega arith) (λ k l. f (suc k) (omega arith)) y
    ∙ ap (λ (k : ℕ). map (push k) (next (move sys.loc (record_at rs j).key g))) (omega arith))

-- what is known of the record that the code takes for letter i, and of the state g' that it leads to
pub record NextRecord (table : List ℕ) (t : Table) (round i : ℕ) (g : Group) (count r : ℕ) (g' : Group) : Type 0 where
  pub inside : r < count
  pub over : Over (processes_of_table t) g'
  pub accepted : accepts_from table round (i + 1) g' ≡ true
  pub first : path_from table round i g ≡ map (push r) (path_from table round (i + 1) g')

module _ {table : List ℕ} {t : Table} {round : ℕ} {log : List ℕ} {count : ℕ} (lent : RoundLog table t round log count) (i : ℕ) (inside : i < t.pile) (a : Letter) (letter : LetterAt table i a)
    (members : List ℕ) (next : SetRight table t round members (i + 1)) (g : Group) (o : Over (processes_of_table t) g) (good : accepts_from table round i g ≡ true) where
  abbrev sys : System
  sys = saturated_in table

  abbrev records : List Record
  records = log_at (saturated_in table) round

  abbrev rest : List ℕ
  rest = drop (i + 1) (system_in table).start.word

  module _ (r : ℕ) (is : r ≡ first_lead log count members a (zeroed_group (processes_of_table t) g)) where
    pub lead_inside : r < count
    lead_inside = ltb-true r count (ap (λ (k : ℕ). ltb k count) is ∙ lead_accepts lent i inside a letter members next g o ∙ good)

    found : First (goes_on (saturated_in table) (log_at (saturated_in table) round) (pile_in table i) (drop (i + 1) (system_in table).start.word) g) 0 (length (log_at (saturated_in table) round)) r
    found = first_at (goes_on sys records (pile_in table i) rest g) 0 (length records) r (is ∙ first_is_lead lent i inside a letter members next g o)

    goes : goes_on (saturated_in table) (log_at (saturated_in table) round) (pile_in table i) (drop (i + 1) (system_in table).start.word) g r ≡ true
    goes = found.passes (omega (arith, lead_inside, lent.size))

    reads : reads_at (system_in table).loc (pile_in table i) g (record_at (log_at (saturated_in table) round) r) ≡ true
    reads = and_left (reads_at sys.loc (pile_in table i) g (record_at records r)) (accepts sys.loc (keys records) sys.accepting rest (move sys.loc (record_at records r).key g)) goes

    path_step : path_from table round i g ≡ map (push r) (path_from table round (i + 1) (move (system_in table).loc (record_at (log_at (saturated_in table) round) r).key g))
    path_step =
        let h = move sys.loc (record_at records r).key g in
        accepting_path_greedy sys records (record { states = g; word = drop i sys.start.word })
        ∙ ap (λ (w : List ℕ). greedy sys.loc records sys.accepting w g) (word_from lent i inside a letter)
        ∙ pick_first sys (pile_in table i) g (λ h. accepts sys.loc (keys records) sys.accepting rest h) (λ h. greedy sys.loc records sys.accepting rest h) records 0 r
        (omega (arith, lead_inside, lent.size)) (λ k l. found.fails k (omega arith) l) goes
        ∙ ap₂ (λ (k : ℕ) (p : Option Path). map (push k) p) (omega arith) (sym (accepting_path_greedy sys records (record { states = h; word = rest })))

    pub next_record : (g' : Group) → g' ≡ merge (processes_of a.bits) (after_at log r) g → NextRecord table t round i g count r g'
    next_record g' e = subst (NextRecord table t round i g count r) (sym (e ∙ target_is lent i inside a letter g r lead_inside reads)) (record {
      inside = lead_inside;
      over = (grounds table t lent.holds).moves round r (omega (arith, lead_inside, lent.size)) g o;
      accepted = and_right (reads_at sys.loc (pile_in table i) g (record_at records r)) (accepts sys.loc (keys records) sys.accepting rest (move sys.loc (record_at records r).key g)) goes;
      first = path_step;
    })

-- the step that the code makes, for every round whose log this is
module _ {table : List ℕ} {t : Table} {log : List ℕ} {c : Scope} {s : List ℕ} {i : ℕ} {g : Group} (u : Underway table t log c s i g) {a : Letter} (letter : LetterAt table i a)
    {z : Group} (zeroed : z ≡ zeroed_group (processes_of_table t) g) {r : ℕ} (is : r ≡ first_lead log c.limit (set_at s (set_place (i + 1))) a z) where
  lead : r ≡ first_lead log c.limit (set_at s (set_place (i + 1))) a (zeroed_group (processes_of_table t) g)
  lead = is ∙ ap (first_lead log c.limit (set_at s (set_place (i + 1))) a) zeroed

  pub step_inside : r < c.limit
  step_inside =
      let lent = u.scoped.some.1 in
      lead_inside lent i u.inside a letter (set_at s (set_place (i + 1))) (u.next _ lent) g u.on_path.over (u.on_path.accepted _ lent) r lead

  pub advanced : (s' : List ℕ) (h : Group) → s' ≡ with_number 2 s (stack_place (t.pile - 1 - i)) r → h ≡ merge (processes_of a.bits) (after_at log r) g → Advanced table t log c i g s s' h
  advanced s' h written state = record {
    number = r;
    small = omega (arith, step_inside, u.scoped.some.1.short);
    first = λ round lent. (next round lent).first;
    on_path = record { over = (next _ u.scoped.some.1).over; accepted = λ round lent. (next round lent).accepted };
    written = written;
  }
    where
      next : EachRound table t log c.limit (λ (round : ℕ). NextRecord table t round i g c.limit r h)
      next round lent = next_record lent i u.inside a letter (set_at s (set_place (i + 1))) (u.next round lent) g u.on_path.over (u.on_path.accepted round lent) r lead h state

-- ---- the path so far
-- the numbers of the first i records, in their places on the stack
abbrev pub so_far : Table → ℕ → List ℕ → List ℕ
so_far t i s = numbers_down s (stack_place (t.pile - i)) i

pub record Tracing (table : List ℕ) (t : Table) (log : List ℕ) (limit : ℕ) (s : List ℕ) (i : ℕ) (s' : List ℕ) (g : Group) : Type 0 where
  pub few : i ≤ t.pile
  pub same : OutsideSame 128 stack_at s s'
  pub on_path : OnPath table t log limit i g
  pub path : EachRound table t log limit (λ (round : ℕ). round_path table round ≡ map (prepend (so_far t i s')) (path_from table round i g))

-- what the first set tells of the start
pub start_right : {table : List ℕ} {t : Table} {log : List ℕ} {limit : ℕ} (s : List ℕ) → RightAt table t log limit s 0
    → EachRound table t log limit (λ (round : ℕ). start_in table t s ≡ accepts_from table round 0 (system_in table).start.states)
start_right {table} {t} s right round lent = right round lent (system_in table).start.states (grounds table t lent.holds).start

-- what the path by the sets asks where it begins
abbrev Startable : List ℕ → Table → List ℕ → Scope → List ℕ → Type 0
Startable table t log c s = SetsReady table t log c s × (start_in table t s ≡ true)

pub tracing_start : {table : List ℕ} {t : Table} {log : List ℕ} {c : Scope} {s : List ℕ} {g : Group} → Startable table t log c s → g ≡ (system_in table).start.states → Tracing table t log c.limit s 0 s g
unfolding numbers_down
tracing_start {table} {t} {s = s} p e = record {
  few = omega arith;
  same = outside_none 128 stack_at s;
  on_path = record {
    over = subst (Over (processes_of_table t)) (sym e) (grounds table t p.0.scoped.some.1.holds).start;
    accepted = λ round lent. ap (accepts_from table round 0) e ∙ sym (start_right s (p.0.right 0 (omega arith)) round lent) ∙ p.1;
  };
  path = λ round lent. prepend_none (round_path table round) ∙ ap (λ (g : Group). map (prepend []) (path_from table round 0 g)) (sym e);
}

module _ {table : List ℕ} {t : Table} {log : List ℕ} {c : Scope} {s s' : List ℕ} {i : ℕ} {g : Group} (p : Startable table t log c s) (inside : i < t.pile) (w : Tracing table t log c.limit s i s' g) where
  few : t.pile ≤ 64
  few = (table_modest table t p.0.scoped.some.1.holds).pile

  pub tracing_underway : Underway table t log c s' i g
  tracing_underway = record {
    scoped = record { some = p.0.scoped.some; linked = linked_same (omega arith) w.same p.0.scoped.linked; limited = p.0.scoped.limited };
    inside = inside;
    next = right_kept (set_place (i + 1)) (i + 1) (omega (arith, few, p.0.scoped.linked.room.room)) (inl (omega (arith, few))) w.same (p.0.right (i + 1) (omega arith));
    on_path = w.on_path;
  }

  module _ {s'' : List ℕ} {h : Group} (v : Advanced table t log c i g s' s'' h) where
    abbrev place : ℕ
    place = stack_place (t.pile - 1 - i)

    more : so_far t (i + 1) s'' ≡ so_far t i s' ++ (v.number ∷ [])
    more =
        let same : stack_place (t.pile - (i + 1)) ≡ place = ap stack_place (omega arith) in
        let above : place + 2 ≡ stack_place (t.pile - i) = omega arith in
        ap₂ (λ (b k : ℕ). numbers_down s'' b k) same (add-one i)
        ∙ ap (λ (l : List ℕ). numbers_down l place (suc i)) v.written
        ∙ down_more s' place i v.number (omega (arith, few, w.same.size, p.0.scoped.linked.room.room)) v.small
        ∙ ap (λ (b : ℕ). numbers_down s' b i ++ (v.number ∷ [])) above

    written_only : OutsideSame 128 stack_at s' (with_number 2 s' (stack_place (t.pile - 1 - i)) v.number)
    written_only = record {
      size = length_number 2 s' place v.number;
      before = λ i b. byte_kept 2 s' place v.number i (inl (omega arith));
      behind = λ i b. byte_kept 2 s' place v.number i (inr (omega (arith, few)));
    }

    pub tracing_turn : Tracing table t log c.limit s (i + 1) s'' h
    tracing_turn = record {
      few = omega arith;
      same = outside_join w.same (subst (OutsideSame 128 stack_at s') (sym v.written) written_only);
      on_path = v.on_path;
      path = λ round lent. w.path round lent ∙ ap (λ (o : Option Path). map (prepend (so_far t i s')) o) (v.first round lent)
          ∙ prepend_more (so_far t i s') v.number (path_from table round (i + 1) h)
          ∙ ap (λ (l : List ℕ). map (prepend l) (path_from table round (i + 1) h)) (sym more);
    }

-- at the word's end the path ends in an accepting group
path_end : (sys : System) (log : List Record) (w : List ℕ) (g : Group) → w ≡ [] → accepts sys.loc (keys log) sys.accepting w g ≡ true
    → accepting_path sys log (record { states = g; word = w }) ≡ some (record { numbers = []; end = g })
path_end sys log w g e y =
    let yes : is_accepting g sys.accepting ≡ true = sym (ap (λ (v : List ℕ). accepts sys.loc (keys log) sys.accepting v g) e) ∙ y in
    accepting_path_greedy sys log (record { states = g; word = w })
    ∙ ap (λ (v : List ℕ). greedy sys.loc log sys.accepting v g) e
    ∙ ap (λ (b : Bool). cond b (some (record { numbers = []; end = g })) none) yes

-- the numbers of all letters are the path's
pub path_whole : {table : List ℕ} {t : Table} {round : ℕ} {s : List ℕ} (g : Group) → Holds table t → accepts_from table round t.pile g ≡ true
    → round_path table round ≡ map (prepend (stack_of s t.pile)) (path_from table round t.pile g) → PathOn table t round s
path_whole {table} {t} {round} {s} g holds good first =
    let ns = stack_of s t.pile in
    let last = path_end (saturated_in table) (log_at (saturated_in table) round) (drop t.pile (system_in table).start.word) g
    (drop_of_length-le (system_in table).start.word {i = t.pile} (omega (arith, pile_count table t holds))) good in
    record {
      path = record { numbers = ns; end = g };
      is = first ∙ ap (λ (o : Option Path). map (prepend ns) o) last ∙ ap (λ (l : List ℕ). some (record { numbers = l; end = g })) (append-nil ns);
      stack = refl;
    }

pub tracing_end : {table : List ℕ} {t : Table} {log : List ℕ} {limit : ℕ} {s s' : List ℕ} {i : ℕ} {g : Group} → t.pile ≤ i
    → Tracing table t log limit s i s' g → EachRound table t log limit (λ (round : ℕ). PathOn table t round s')
tracing_end {table} {t} {s' = s'} {i = i} {g = g} h w round lent =
    let e : i ≡ t.pile = omega (arith, w.few) in
    let base : stack_place (t.pile - i) ≡ stack_at = omega arith in
    let all : so_far t i s' ≡ stack_of s' t.pile = ap₂ (λ (b k : ℕ). numbers_down s' b k) base e in
    path_whole {s = s'} g lent.holds (subst (λ (k : ℕ). accepts_from table round k g ≡ true) e (w.on_path.accepted round lent))
    (w.path round lent ∙ ap₂ (λ (ns : List ℕ) (k : ℕ). map (prepend ns) (path_from table round k g)) all e)
