-- The last set has the accepting groups of the automaton that is saturated: the table's, in every mixture where it is copied.
use mathlib.Core.Path.{◌≡◌, ap, sym, subst, ◌∙◌, refl, ap₂}
use mathlib.Core.Bool.{Bool, ◌||◌, cond, true, false}
use mathlib.Core.List.{List, [], ◌∷◌, ◌++◌, map}
use Prim.Native.Nat.{ℕ, suc, ◌+◌, ◌-◌, ◌<◌, ◌≤◌, ◌%◌}
use native.Mathlib.Omega.{arith}
use lib.Dec.{eqb}
use lib.ListN.{length, drop, drop_of_length-le}
use lib.Seq.{drop-cons}
use borrow.Author.Tests.{eq-eqb, eqb-true}
use Rattle.model.specs.declared.Group.{Group}
use Rattle.model.specs.Tables.{group_of, system_of}
use Rattle.model.specs.Groups.{Process, Processes, Within, at, has, process_bits, processes_of, same_group, within_test}
use Rattle.model.specs.Lists.{Each, any_of, concat_map}
use Rattle.model.specs.Log.{keys, log_at}
use Rattle.model.specs.Systems.{accepts}
use Rattle.model.proofs.AcceptedTables.{accepted_copyable}
use Rattle.model.proofs.Groups.{bits_back, ext, same_group_true, same_group_of}
use Rattle.model.proofs.Lists.{each_any, each_map, each_of_map, get_d_mem, map_append}
use Rattle.model.proofs.Tests.{by_test, same_test}
use Rattle.states.specs.StateNumbers.{state_count, digit, Over}
use Rattle.states.specs.StateSets.{set_length, member}
use Rattle.states.proofs.StateSets.{member_inserted}
use Rattle.table.specs.declared.Table.{Table}
use Rattle.table.specs.Reading.{Holds, accepting_in, items_in, saturated_in, system_in}
use Rattle.table.proofs.Readings.{holds_complete}
use Rattle.table.proofs.Layouts.{accepting_count, count_in, pile_count}
use Rattle.copies.specs.declared.Copying.{Copying}
use Rattle.copies.specs.declared.Mixed.{Mixed}
use Rattle.copies.specs.CopyingOf.{CopyingOf}
use Rattle.copies.specs.Mixing.{MixedOf, mixture_of, mixtures_below, mixtures_in, sets_in}
use Rattle.table.specs.Present.{present_in, processes_below}
use Rattle.copies.proofs.Groups.{copies_room}
use Rattle.copies.proofs.Mixing.{accepting_mixed, mixtures_all, mixtures_more, mixtures_none, mixtures_same}
use Rattle.rests.specs.Rests.{first_processes, processes_of_table, own_number, set_at, SetRight}
use Rattle.rests.proofs.Grounds.{grounds}
use Rattle.rests.proofs.RestRight.{any_map}
use Rattle.rests.proofs.Sets.{length_set_at}
use Rattle.rings.proofs.Links.{outside_none, outside_join}
use Rattle.restsets.specs.Sets.{with_state, with_states, EmptySet, OnlySet}
use Rattle.restsets.proofs.ScratchRegions.{set_state, only_state}
use Rattle.restsets.proofs.OwnGroups.{own_below, own_digit}

-- set k has the states that pass the test, and nothing else has changed
pub record HasStates (test : ℕ → Bool) (k : ℕ) (s t : List ℕ) : Type 0 where
  pub same : OnlySet k s t
  pub members : (x : ℕ) → x < state_count → member (set_at t k) x ≡ test x

-- x is the number of one of the groups at the processes L
unfoldable pub is_number_of : Processes → List Group → ℕ → Bool
is_number_of L groups x = any_of (λ (g : Group). eqb x (own_number L g)) groups

-- a state put into set k
pub member_state : (s : List ℕ) (k x y : ℕ) → k + set_length ≤ length s → x < state_count → member (set_at (with_state s k x) k) y ≡ eqb y x || member (set_at s k) y
member_state s k x y room h =
    ap (λ (l : List ℕ). member l y) (set_state s k x room) ∙ member_inserted (set_at s k) x y (omega (arith, length_set_at s k room))

-- several states put into set k
states_more : (s : List ℕ) (k : ℕ) (xs : List ℕ) (y : ℕ) → with_states s k (xs ++ y ∷ []) ≡ with_state (with_states s k xs) k y
states_more s k [] y = refl
states_more s k (x ∷ xs) y = states_more (with_state s k x) k xs y

size_state : (s : List ℕ) (k x : ℕ) → k + set_length ≤ length s → length (with_state s k x) ≡ length s
size_state s k x room = (only_state s k x room).size

pub only_states : (s : List ℕ) (k : ℕ) (xs : List ℕ) → k + set_length ≤ length s → OnlySet k s (with_states s k xs)
only_states s k [] room = outside_none set_length k s
only_states s k (x ∷ xs) room = outside_join (only_state s k x room) (only_states (with_state s k x) k xs (omega (arith, size_state s k x room)))

member_states : (s : List ℕ) (k : ℕ) (xs : List ℕ) (y : ℕ) → k + set_length ≤ length s → Each (λ (x : ℕ). x < state_count) xs → member (set_at (with_states s k xs) k) y ≡ any_of (eqb y) xs || member (set_at s k) y
member_states s k [] y room e = refl
member_states s k (x ∷ xs) y room e =
    member_states (with_state s k x) k xs y (omega (arith, size_state s k x room)) e.1 ∙ ap (λ (b : Bool). any_of (eqb y) xs || b) (member_state s k x y room e.0) ∙ regroup (eqb y x) (any_of (eqb y) xs) (member (set_at s k) y)
  where
    regroup : (a b c : Bool) → (b || (a || c)) ≡ (a || b || c)
    regroup true true c = refl
    regroup true false c = refl
    regroup false true c = refl
    regroup false false c = refl

-- ---- the mixtures of one accepting group, set of processes by set of processes
module _ (t : Table) (place : ℕ) (x : Mixed) where
  -- those for the sets below m are in
  abbrev pub with_mixtures : List ℕ → ℕ → List ℕ
  with_mixtures s m = with_states s place (map (own_number (processes_of_table t)) (mixtures_below x m))

  pub mixture_added : (s u v : List ℕ) (m : ℕ) → u ≡ with_mixtures s m
      → v ≡ cond (within_test (processes_of m) (processes_of x.bits)) (with_state u place (own_number (processes_of_table t) (mixture_of x (processes_of m)))) u → v ≡ with_mixtures s (m + 1)
  mixture_added s u v m e q = by_test (within_test (processes_of m) (processes_of x.bits))
      (λ y.
      let number = own_number (processes_of_table t) in
      let more : map number (mixtures_below x (m + 1)) ≡ map number (mixtures_below x m) ++ number (mixture_of x (processes_of m)) ∷ [] =
      ap (map number) (mixtures_more x m y) ∙ map_append number (mixtures_below x m) (mixture_of x (processes_of m) ∷ []) in
      (rw y at q) ∙ ap (λ (l : List ℕ). with_state l place (number (mixture_of x (processes_of m)))) e
      ∙ sym (ap (with_states s place) more ∙ states_more s place (map number (mixtures_below x m)) (number (mixture_of x (processes_of m)))))
      (λ n. (rw n at q) ∙ e ∙ ap (λ (gs : List Group). with_states s place (map (own_number (processes_of_table t)) gs)) (sym (mixtures_same x m n)))

  pub mixtures_only : (s : List ℕ) (m : ℕ) → place + set_length ≤ length s → OnlySet place s (with_mixtures s m)
  mixtures_only s m room = only_states s place (map (own_number (processes_of_table t)) (mixtures_below x m)) room

  pub mixtures_start : (s : List ℕ) → s ≡ with_mixtures s 0
  mixtures_start s = ap (λ (gs : List Group). with_states s place (map (own_number (processes_of_table t)) gs)) (sym (mixtures_none x))

module _ (table : List ℕ) (t : Table) (holds : Holds table t) (c : Copying) (copying : CopyingOf table t c) (j : ℕ) (inside : j < t.accepting) (bits : ℕ) (all : bits ≡ process_bits (present_in t)) where
  bits_are : processes_of bits ≡ present_in t
  bits_are = ap processes_of all ∙ bits_back (present_in t)

  within : Within (processes_of bits) (present_in t)
  within i m = subst (λ (L : Processes). has L i ≡ true) bits_are m

  -- its copies fit a byte
  pub accepting_room : (g : Group) → g ≡ accepting_in table j → c.made ≡ true → (i : Process) → has (processes_of bits) i ≡ true → at c.states i + at g i < 256
  unfolding system_in
  accepting_room g e made i m = subst (λ (h : Group). at c.states i + at h i < 256) (sym e) (copies_room table t holds c copying (processes_of bits) within (accepting_in table j)
      (λ k y. ((accepted_copyable (items_in table) (holds_complete table t holds)).accepting (accepting_in table j) (get_d_mem (system_in table).accepting j (group_of [] 0) (omega (arith, accepting_count table t holds)))).states k) i m)

  -- all of them are in
  pub mixtures_end : (g : Group) (x : Mixed) → g ≡ accepting_in table j → MixedOf c bits g x → (sets m : ℕ) → sets ≡ cond c.made 16 1 → m ≤ sets → sets ≤ m → (place : ℕ) (s u : List ℕ) → u ≡ with_mixtures t place x s m
      → u ≡ with_states s place (map (own_number (processes_of_table t)) (mixtures_in table (processes_of_table t) (accepting_in table j)))
  unfolding processes_below
  mixtures_end g x e is sets m count a b place s u q =
      let whole : m ≡ sets_in table = (let z : m ≡ sets = omega arith in z) ∙ count ∙ ap (λ (made : Bool). cond made 16 1) copying.made in
      let groups : mixtures_below x m ≡ mixtures_in table (processes_of_table t) (accepting_in table j) =
      ap (mixtures_below x) whole ∙ mixtures_all table t holds c copying bits within g x is ∙ ap₂ (λ (L : Processes) (h : Group). mixtures_in table L h) bits_are e in
      q ∙ ap (λ (gs : List Group). with_states s place (map (own_number (processes_of_table t)) gs)) groups

-- ---- all accepting groups
-- the last first: those from j on are in
pub record Numbering (table : List ℕ) (t : Table) (place j : ℕ) (s u : List ℕ) : Type 0 where
  pub few : j ≤ t.accepting
  pub same : OnlySet place s u
  pub members : (x : ℕ) → x < state_count → member (set_at u place) x ≡ is_number_of (processes_of_table t) (concat_map (mixtures_in table (processes_of_table t)) (drop j (system_in table).accepting)) x

any_append : {A : Type 0} (f : A → Bool) (xs ys : List A) → any_of f (xs ++ ys) ≡ any_of f xs || any_of f ys
any_append f [] ys = refl
any_append f (x ∷ xs) ys = ap (λ (b : Bool). f x || b) (any_append f xs ys) ∙ regroup (f x) (any_of f xs) (any_of f ys)
  where
    regroup : (a b c : Bool) → (a || (b || c)) ≡ (a || b || c)
    regroup true b c = refl
    regroup false b c = refl

module _ {table : List ℕ} {t : Table} (holds : Holds table t) where
  pub numbering_start : {place : ℕ} (s : List ℕ) → EmptySet s place → Numbering table t place t.accepting s s
  unfolding is_number_of
  numbering_start {place} s empty = record {
    few = omega arith;
    same = outside_none set_length place s;
    members = λ x h. empty x ∙ sym (ap (λ (l : List Group). is_number_of (processes_of_table t) (concat_map (mixtures_in table (processes_of_table t)) l) x)
        (drop_of_length-le (system_in table).accepting {i = t.accepting} (omega (arith, accepting_count table t holds))));
  }

  pub numbering_turn : {place j : ℕ} {s u v : List ℕ} → place + set_length ≤ length s → 0 < j → Numbering table t place j s u
      → v ≡ with_states u place (map (own_number (processes_of_table t)) (mixtures_in table (processes_of_table t) (accepting_in table (j - 1)))) → Numbering table t place (j - 1) s v
  unfolding is_number_of
  numbering_turn {place} {j} {s} {u} room h f is =
      let L = processes_of_table t in
      let made = mixtures_in table L (accepting_in table (j - 1)) in
      let rest = concat_map (mixtures_in table L) (drop j (system_in table).accepting) in
      let room-u : place + set_length ≤ length u = omega (arith, f.same.size) in
      let e : suc (j - 1) ≡ j = omega arith in
      let split : drop (j - 1) (system_in table).accepting ≡ accepting_in table (j - 1) ∷ drop j (system_in table).accepting =
      drop-cons (system_in table).accepting (j - 1) (group_of [] 0) (omega (arith, f.few, accepting_count table t holds))
      ∙ ap (λ (i : ℕ). accepting_in table (j - 1) ∷ drop i (system_in table).accepting) e in
      subst (Numbering table t place (j - 1) s) (sym is) (record {
        few = omega (arith, f.few);
        same = outside_join f.same (only_states u place (map (own_number L) made) room-u);
        members = λ x l.
            member_states u place (map (own_number L) made) x room-u (each_of_map (λ (y : ℕ). y < state_count) (own_number L) made (each_any (λ (g : Group). own_number L g < state_count) (own_below L) made))
            ∙ ap₂ (λ (a b : Bool). a || b) (any_map (eqb x) (own_number L) made) (f.members x l)
            ∙ sym (ap (λ (gs : List Group). is_number_of L (concat_map (mixtures_in table L) gs) x) split ∙ any_append (λ (g : Group). eqb x (own_number L g)) made rest);
      })

-- the accepting groups of the automaton that is saturated
accepting_all : (table : List ℕ) (t : Table) → Holds table t → (saturated_in table).accepting ≡ concat_map (mixtures_in table (processes_of_table t)) (system_in table).accepting
unfolding system_in system_of
accepting_all table t holds = accepting_mixed table (processes_of_table t) (ap first_processes (count_in table t holds 1 (omega arith)))

pub numbering_end : {table : List ℕ} {t : Table} {place j : ℕ} {s u : List ℕ} → Holds table t → j ≤ 0 → Numbering table t place j s u
    → HasStates (is_number_of (processes_of_table t) (saturated_in table).accepting) place s u
numbering_end {table} {t} {place} {j} holds h f =
    let e : j ≡ 0 = omega arith in
    record {
      same = f.same;
      members = λ x l. f.members x l ∙ ap (λ (i : ℕ). is_number_of (processes_of_table t) (concat_map (mixtures_in table (processes_of_table t)) (drop i (system_in table).accepting)) x) e
          ∙ ap (λ (gs : List Group). is_number_of (processes_of_table t) gs x) (sym (accepting_all table t holds));
    }

any_agree : {A : Type 0} (f h : A → Bool) (xs : List A) → Each (λ (x : A). f x ≡ h x) xs → any_of f xs ≡ any_of h xs
any_agree f h [] e = refl
any_agree f h (x ∷ xs) e = ap₂ (λ (a b : Bool). a || b) e.0 (any_agree f h xs e.1)

-- ---- the last set
own_injective : (L : Processes) (g h : Group) → Over L g → Over L h → own_number L g ≡ own_number L h → g ≡ h
own_injective L g h o q e = ext (λ i. by_test (has L i)
    (λ m. let same : at g i % 8 ≡ at h i % 8 = sym (own_digit L g i ∙ rw m) ∙ ap (λ (x : ℕ). digit x i) e ∙ own_digit L h i ∙ rw m in omega (arith, o.inside i m, q.inside i m))
    (λ n. o.outside i n ∙ sym (q.outside i n)))

number_same : (L : Processes) (g h : Group) → Over L g → Over L h → eqb (own_number L g) (own_number L h) ≡ same_group g h
number_same L g h o q = same_test (eqb (own_number L g) (own_number L h)) (same_group g h)
    (λ t. same_group_of g h (own_injective L g h o q (eqb-true (own_number L g) (own_number L h) t)))
    (λ t. eq-eqb (own_number L g) (own_number L h) (ap (own_number L) (same_group_true g h t)))

pub set_last : {table : List ℕ} {t : Table} {place : ℕ} → Holds table t → (round : ℕ) (s s' : List ℕ)
    → HasStates (is_number_of (processes_of_table t) (saturated_in table).accepting) place s s' → SetRight table t round (set_at s' place) t.pile
unfolding is_number_of
set_last {table} {t} holds round s s' f g o =
    let L = processes_of_table t in
    f.members (own_number L g) (own_below L g)
    ∙ any_agree (λ (h : Group). eqb (own_number L g) (own_number L h)) (same_group g) (saturated_in table).accepting
    (each_map (Over L) (λ (h : Group). eqb (own_number L g) (own_number L h) ≡ same_group g h) (λ h q. number_same L g h o q) (saturated_in table).accepting
    (grounds table t holds).accepting)
    ∙ sym (ap (λ (w : List ℕ). accepts (system_in table).loc (keys (log_at (saturated_in table) round)) (saturated_in table).accepting w g)
    (drop_of_length-le (system_in table).start.word {i = t.pile} (omega (arith, pile_count table t holds))))
