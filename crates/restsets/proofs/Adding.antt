-- Laws of the loops that put the states into a set from which a letter leads into the next one.
use mathlib.Core.Path.{◌≡◌, refl, ap, sym, subst, ◌∙◌}
use mathlib.Core.Bool.{Bool, true, false, cond, ◌&&◌, ◌||◌, true≢false}
use mathlib.Core.Logic.{◌⊎◌, inl, inr, ⊎_elim}
use mathlib.Core.List.{List}
use Prim.Native.Nat.{ℕ, ◌+◌, ◌-◌, ◌*◌, ◌/◌, ◌%◌, ◌<◌, ◌≤◌}
use native.Mathlib.Decide.{ℕ_discrete, dec_lt}
use native.Mathlib.Omega.{arith}
use lib.Dec.{eqb}
use borrow.Author.Tests.{eqb-true, eq-eqb}
use Rattle.model.specs.declared.Group.{Group}
use Rattle.model.specs.Groups.{Process, Processes, at, has, processes_of, restrict, merge}
use Rattle.model.specs.Records.{record_length, letter_at, before_at, after_at}
use Rattle.model.proofs.Groups.{at_restrict}
use Rattle.model.proofs.Tests.{by_test, or_true_right}
use Rattle.states.specs.StateNumbers.{state_count, state_number, digit, Over}
use Rattle.states.specs.StateSets.{set_length, member, first_from}
use Rattle.states.proofs.StateNumbers.{state_number_below, digit_number}
use Rattle.states.proofs.StateSets.{first_at}
use Rattle.packs.specs.Packs.{packed, Bytes, packed_before}
use Rattle.packs.proofs.Packs.{pack_group, packed_same}
use Rattle.logs.proofs.Logs.{over_byte}
use Rattle.wordsets.specs.WordSets.{has_bit, in_set, gains, in_block, OutsideSet, SetsApart, RecordAdded, BlockFits}
use Rattle.rings.specs.Rings.{record_reads, link_at}
use Rattle.rings.proofs.Links.{reads_parts, outside_none, outside_join}
use Rattle.scratch.specs.Regions.{keys_at, leaders_at}
use Rattle.leaders.specs.Leaders.{Linked, is_leader, leader_of, among, FirstBelow, Chained}
use Rattle.leaders.proofs.Chains.{chained_same}
use Rattle.leaders.proofs.Leaders.{leader_parts, first_leads}
use Rattle.rests.specs.declared.Letter.{Letter}
use Rattle.rests.specs.declared.Scope.{Scope}
use Rattle.rests.specs.Rests.{own_number, leads, first_lead, some_lead, set_at}
use Rattle.rests.proofs.Leading.{lead_not, lead_reads, some_lead_lem, the_lead}
use Rattle.rests.proofs.Sets.{byte_set, linked_same, set_same}
use Rattle.restsets.specs.declared.Frame.{Frame}
use Rattle.restsets.specs.Sets.{OnlySet, with_state}
use Rattle.restsets.specs.OwnGroups.{Numbered, InFrame, Single, Addable, LetterChained, Added}
use Rattle.restsets.proofs.OwnGroups.{own_below, own_digit, own_fits, own_place, gains_lead, gains_own, own_restrict, restrict_own, single_number, single_target}
use Rattle.restsets.proofs.ScratchRegions.{only_state}
use Rattle.restsets.proofs.LastSet.{member_state}

or_cases : (b c : Bool) → (b || c) ≡ true → (b ≡ true) ⊎ (c ≡ true)
or_cases true c e = inl refl
or_cases false c e = inr e

-- ---- sets in words
in_set_lem : (s : List ℕ) (at n : ℕ) → n < state_count → in_set s at n ≡ member (set_at s at) n
unfolding in_set has_bit member
in_set_lem s at n h = rw (byte_set s at (n / 8) (omega arith))

only_outside : {at : ℕ} {s t : List ℕ} → OutsideSet at s t → OnlySet at s t
only_outside o = record { size = o.size; before = o.before; behind = o.behind }

-- what a change of the set at `to` alone leaves
module _ {log : List ℕ} {c : Scope} {a : Letter} {f : Frame} {next to : ℕ} {s t : List ℕ} (p : Addable log c a f next to s) (o : OnlySet to s t) where
  next_same : set_at t next ≡ set_at s next
  next_same = set_same next p.apart.from_room (⊎_elim inl inr p.apart.apart) o

  pub addable_kept : Addable log c a f next to t
  addable_kept = record {
    linked = linked_same (omega (arith, p.low)) o p.linked;
    limited = p.limited;
    shaped = p.shaped;
    apart = record { apart = p.apart.apart; from_room = omega (arith, p.apart.from_room, o.size); to_room = omega (arith, p.apart.to_room, o.size) };
    low = p.low;
    framed = p.framed;
  }

none_added : {log : List ℕ} {limit : ℕ} {members : List ℕ} {a : Letter} {f : Frame} {to : ℕ} (test : Group → Type 0) → ((g : Group) → test g → some_lead log limit members a g ≡ true → ⊥) → (s : List ℕ)
    → Added log limit members a f test to s s
none_added {to = to} test never s = record {
  same = outside_none set_length to s;
  kept = λ n h m. m;
  sound = λ g h m. inl m;
  complete = λ g w z y. absurd (never g z y);
}

-- ---- one leader
-- the states that a record reads in: those of the leader
abbrev pub Alike : List ℕ → Letter → ℕ → Group → Type 0
Alike log a leader g = restrict (processes_of a.bits) g ≡ before_at log leader

-- The records with the leader's states before in turn: those below r are taken.
pub record Taking (log : List ℕ) (c : Scope) (members : List ℕ) (a : Letter) (f : Frame) (to leader before r : ℕ) (s t : List ℕ) : Type 0 where
  pub states : before ≡ packed (before_at log leader)
  pub reading : r < c.count → record_reads log a.number before r ≡ true
  pub added : Added log c.limit members a f (λ (g : Group). ⊥) to s t
  pub taken : (g : Group) → InFrame (processes_of a.bits) f g → Alike log a leader g → (q : ℕ) → q < r → leads log members a g q ≡ true
      → member (set_at t to) (state_number g) ≡ true

-- a record reads the letter in such a state exactly if it has the leader's states before
reads_alike : (log : List ℕ) (a : Letter) (leader before : ℕ) → before ≡ packed (before_at log leader) → (g : Group) → Alike log a leader g → (r : ℕ)
    → record_reads log a.number (packed (restrict (processes_of a.bits) g)) r ≡ record_reads log a.number before r
reads_alike log a leader before b g e r = ap (λ (d : ℕ). record_reads log a.number d r) (ap packed e ∙ sym b)

module _ {log : List ℕ} {c : Scope} {members : List ℕ} {a : Letter} {f : Frame} {to : ℕ} where
  -- the leader is the first record that reads so
  pub taking_start : {leader before : ℕ} (s : List ℕ) → before ≡ packed (before_at log leader) → leader ≡ first_from (record_reads log a.number before) 0 c.count → Taking log c members a f to leader before leader s s
  taking_start {leader} {before} s b e =
      let w = first_at (record_reads log a.number before) 0 c.count leader e in
      record {
        states = b;
        reading = λ h. w.passes (omega arith);
        added = none_added (λ g. ⊥) (λ g z y. z) s;
        taken = λ g i is q h t. absurd (true≢false (sym t ∙ lead_not log members a g q (reads_alike log a leader before b g is q ∙ w.fails q (omega arith) h)));
      }

  pub taking_end : {leader before r : ℕ} {s t : List ℕ} → c.limit ≤ r → Taking log c members a f to leader before r s t → Added log c.limit members a f (Alike log a leader) to s t
  taking_end h w = record {
    same = w.added.same;
    kept = w.added.kept;
    sound = w.added.sound;
    complete = λ g i e y. let l = the_lead log members a g c.limit y in w.taken g i e (first_lead log c.limit members a g) (omega (arith, l.0)) l.1;
  }

-- one record more, with the own numbers x before and y after it
module _ {log : List ℕ} {c : Scope} {a : Letter} {f : Frame} {next to leader before r : ℕ} {s t : List ℕ} (p : Addable log c a f next to s) (o : Over (processes_of a.bits) (before_at log leader))
    (w : Taking log c (set_at s next) a f to leader before r s t) {x y : ℕ} (x_is : x ≡ own_number (processes_of a.bits) (before_at log leader))
    (y-is : y ≡ own_number (processes_of a.bits) (after_at log r)) where
  abbrev L : Processes
  L = processes_of a.bits

  pub taking_fits : SetsApart t next to × BlockFits y x f.rows f.words
  taking_fits = ((addable_kept p w.added.same).apart, rw y-is (own_fits L f p.framed x (before_at log leader) x_is (after_at log r)))

  module _ {u : List ℕ} {common : ℕ} (h : r < c.limit) (call : RecordAdded next to y x f.rest f.rows f.words t u common) where
    d : RecordAdded next to (own_number (processes_of a.bits) (after_at log r)) x f.rest f.rows f.words t u common
    d = subst (λ (z : ℕ). RecordAdded next to z x f.rest f.rows f.words t u common) y-is call

    abbrev gained : ℕ → Bool
    gained m = in_block x f.rows f.words m && gains t next (own_number L (after_at log r)) x f.rest m

    now : (m : ℕ) → m < state_count → member (set_at u to) m ≡ member (set_at t to) m || gained m
    now m l = sym (in_set_lem u to m l) ∙ d.members m l ∙ ap (λ (b : Bool). b || gained m) (in_set_lem t to m l)

    -- where record r leads
    leads_is : (g : Group) → Alike log a leader g → leads log (set_at s next) a g r ≡ in_set t next (state_number (merge (processes_of a.bits) (after_at log r) g))
    leads_is g e =
        let m = state_number (merge L (after_at log r) g) in
        lead_reads log (set_at s next) a g r (reads_alike log a leader before w.states g e r ∙ w.reading (omega (arith, p.limited)))
        ∙ sym (in_set_lem t next m (state_number_below (merge L (after_at log r) g)) ∙ ap (λ (l : List ℕ). member l m) (next_same p w.added.same))

    gained_leads : (g : Group) → Numbered (processes_of a.bits) g → gained (state_number g) ≡ true → some_lead log c.limit (set_at s next) a g ≡ true
    gained_leads g i y =
        let q = gains_own L f p.framed x (before_at log leader) x_is (after_at log r) t next g y in
        some_lead_lem log (set_at s next) a g c.limit r h (leads_is g (own_restrict L g (before_at log leader) i o (q.0 ∙ x_is)) ∙ q.1)

    own_is : (g : Group) → Alike log a leader g → own_number (processes_of a.bits) g ≡ x
    own_is g e = restrict_own L g (before_at log leader) o e ∙ sym x_is

    leads_gained : (g : Group) → InFrame (processes_of a.bits) f g → Alike log a leader g → leads log (set_at s next) a g r ≡ true → gained (state_number g) ≡ true
    leads_gained g i e y = gains_lead L f p.framed x (before_at log leader) x_is (after_at log r) t next g i (own_is g e) ∙ sym (leads_is g e) ∙ y

    kept_now : (m : ℕ) → m < state_count → member (set_at t to) m ≡ true → member (set_at u to) m ≡ true
    kept_now m l y = now m l ∙ rw y

    joined : Added log c.limit (set_at s next) a f (λ (g : Group). ⊥) to s u
    joined = record {
      same = outside_join w.added.same (only_outside d.outside);
      kept = λ m l y. kept_now m l (w.added.kept m l y);
      sound = λ g i y. ⊎_elim (w.added.sound g i) (λ z. inr (gained_leads g i z))
          (or_cases (member (set_at t to) (state_number g)) (gained (state_number g)) (sym (now (state_number g) (state_number_below g)) ∙ y));
      complete = λ g i z y. absurd z;
    }

    pub taking_linked : Linked log c.count c.n u
    taking_linked = (addable_kept p joined.same).linked

    pub taking_turn : {q : ℕ} → q ≡ first_from (record_reads log a.number before) (r + 1) (c.count - (r + 1)) → Taking log c (set_at s next) a f to leader before q s u
    taking_turn {q} n =
        let first = first_at (record_reads log a.number before) (r + 1) (c.count - (r + 1)) q n in
        record {
          states = w.states;
          reading = λ l. first.passes (omega arith);
          added = joined;
          taken = λ g i e k l y. elim (dec_lt k r) [
            | yes less ↦ kept_now (state_number g) (state_number_below g) (w.taken g i e k less y)
            | no later ↦ elim (ℕ_discrete k r) [
              | yes is ↦ now (state_number g) (state_number_below g) ∙ or_true_right (member (set_at t to) (state_number g)) (gained (state_number g))
                  (leads_gained g i e (sym (ap (leads log (set_at s next) a g) is) ∙ y))
              | no ne ↦ absurd (true≢false (sym y ∙ lead_not log (set_at s next) a g k
                  (reads_alike log a leader before w.states g e k ∙ first.fails k (omega arith) l)))
            ]
          ];
        }

    -- all states with the leader's states are in
    pub taking_full : common ≡ f.rest → Added log c.limit (set_at s next) a f (Alike log a leader) to s u
    taking_full all = record {
      same = joined.same;
      kept = joined.kept;
      sound = joined.sound;
      complete = λ g i e y.
          let q = own_place L f p.framed x (before_at log leader) x_is (after_at log r) t next g i (own_is g e) in
          sym (in_set_lem u to (state_number g) (state_number_below g)) ∙ ap (λ (m : ℕ). in_set u to m) q.is
          ∙ d.shared q.bit q.row q.word (ap (λ (m : ℕ). has_bit m q.bit) all ∙ q.has_bit_lem) q.inside q.in_rows q.in_words;
    }

-- ---- one leader, and a single state
-- The records with the leader's states before in turn: none below r leads into the set.
pub record Passing (log : List ℕ) (c : Scope) (members : List ℕ) (a : Letter) (leader before r : ℕ) : Type 0 where
  pub states : before ≡ packed (before_at log leader)
  pub reading : r < c.count → record_reads log a.number before r ≡ true
  pub fails : (q : ℕ) → q < r → record_reads log a.number before q ≡ true → member members (own_number (processes_of a.bits) (after_at log q)) ≡ false

-- such a state, 0 at every other process
module _ (log : List ℕ) (a : Letter) (leader before : ℕ) (states : before ≡ packed (before_at log leader)) (g : Group) (e : Alike log a leader g)
    (none : (i : Process) → has (processes_of a.bits) i ≡ false → at g i % 8 ≡ 0) (members : List ℕ) where
  single_leads : (q : ℕ) → record_reads log a.number before q ≡ true → leads log members a g q ≡ member members (own_number (processes_of a.bits) (after_at log q))
  single_leads q y = lead_reads log members a g q (reads_alike log a leader before states g e q ∙ y) ∙ ap (member members) (single_target (processes_of a.bits) g none (after_at log q))

module _ {log : List ℕ} {c : Scope} {members : List ℕ} {a : Letter} {leader before : ℕ} where
  pub passing_start : before ≡ packed (before_at log leader) → leader ≡ first_from (record_reads log a.number before) 0 c.count → Passing log c members a leader before leader
  passing_start b e =
      let w = first_at (record_reads log a.number before) 0 c.count leader e in
      record { states = b; reading = λ h. w.passes (omega arith); fails = λ q h y. absurd (true≢false (sym y ∙ w.fails q (omega arith) h)) }

  pub passing_turn : {r q : ℕ} → Passing log c members a leader before r → member members (own_number (processes_of a.bits) (after_at log r)) ≡ false
      → q ≡ first_from (record_reads log a.number before) (r + 1) (c.count - (r + 1)) → Passing log c members a leader before q
  passing_turn {r} {q} w not n =
      let first = first_at (record_reads log a.number before) (r + 1) (c.count - (r + 1)) q n in
      record {
        states = w.states;
        reading = λ l. first.passes (omega arith);
        fails = λ k h y. elim (dec_lt k r) [
          | yes less ↦ w.fails k less y
          | no later ↦ elim (ℕ_discrete k r) [
            | yes is ↦ ap (λ (j : ℕ). member members (own_number (processes_of a.bits) (after_at log j))) is ∙ not
            | no ne ↦ absurd (true≢false (sym y ∙ first.fails k (omega arith) h))
          ]
        ];
      }

module _ {log : List ℕ} {c : Scope} {a : Letter} {f : Frame} {next to leader before r : ℕ} {s : List ℕ} (p : Addable log c a f next to s) (single : Single f)
    (w : Passing log c (set_at s next) a leader before r) where
  -- a state that is gone through is 0 at every other process
  inside_none : (g : Group) → InFrame (processes_of a.bits) f g → (i : Process) → has (processes_of a.bits) i ≡ false → at g i % 8 ≡ 0
  inside_none g o i n = omega (arith, o.others i n, single i)

  pub passing_end : c.limit ≤ r → Added log c.limit (set_at s next) a f (Alike log a leader) to s s
  passing_end h = record {
    same = outside_none set_length to s;
    kept = λ n l m. m;
    sound = λ g i m. inl m;
    complete = λ g o e y.
        let l = the_lead log (set_at s next) a g c.limit y in
        let q = first_lead log c.limit (set_at s next) a g in
        absurd (by_test (record_reads log a.number before q)
        (λ t. true≢false (sym l.1 ∙ single_leads log a leader before w.states g e (inside_none g o) (set_at s next) q t ∙ w.fails q (omega (arith, l.0)) t))
        (λ n. true≢false (sym l.1 ∙ lead_not log (set_at s next) a g q (reads_alike log a leader before w.states g e q ∙ n))));
  }

  -- record r leads on: the state is put in
  pub passing_found : Over (processes_of a.bits) (before_at log leader) → r < c.limit → member (set_at s next) (own_number (processes_of a.bits) (after_at log r)) ≡ true
      → {x : ℕ} {u : List ℕ} → x ≡ own_number (processes_of a.bits) (before_at log leader) → u ≡ with_state s to x → Added log c.limit (set_at s next) a f (Alike log a leader) to s u
  passing_found o h y {x} {u} x_is is = record {
    same = subst (OnlySet to s) (sym is) (only_state s to x p.apart.to_room);
    kept = λ n l m. now n ∙ or_true_right (eqb n x) (member (set_at s to) n) m;
    sound = λ g i m. ⊎_elim (λ t. inr (leads_on g i (eqb-true (state_number g) x t))) inl (or_cases (eqb (state_number g) x) (member (set_at s to) (state_number g)) (sym (now (state_number g)) ∙ m));
    complete = λ g i e z. now (state_number g) ∙ ap (λ (b : Bool). b || member (set_at s to) (state_number g)) (eq-eqb (state_number g) x (single_number (processes_of a.bits) g (inside_none g i) ∙ restrict_own (processes_of a.bits) g (before_at log leader) o e ∙ sym x_is));
  }
    where
      now : (n : ℕ) → member (set_at u to) n ≡ eqb n x || member (set_at s to) n
      now n = ap (λ (l : List ℕ). member (set_at l to) n) is ∙ member_state s to x n p.apart.to_room (omega (arith, own_below (processes_of a.bits) (before_at log leader)))

      leads_on : (g : Group) → Numbered (processes_of a.bits) g → state_number g ≡ x → some_lead log c.limit (set_at s next) a g ≡ true
      leads_on g i e =
          let none : (j : Process) → has (processes_of a.bits) j ≡ false → at g j % 8 ≡ 0 = λ j n. sym (digit_number g j) ∙ ap (λ (m : ℕ). digit m j) (e ∙ x_is) ∙ own_digit (processes_of a.bits) (before_at log leader) j ∙ ap (λ (b : Bool). cond b (at (before_at log leader) j % 8) 0) n in
          let alike : Alike log a leader g = own_restrict (processes_of a.bits) g (before_at log leader) i o (sym (single_number (processes_of a.bits) g none) ∙ e ∙ x_is) in
          some_lead_lem log (set_at s next) a g c.limit r h (single_leads log a leader before w.states g alike none (set_at s next) r (w.reading (omega (arith, p.limited))) ∙ y)

-- ---- all leaders of the letter
numbered_bytes : (L : Processes) (g : Group) → Numbered L g → Bytes (restrict L g)
numbered_bytes L g h i = rw (at_restrict L g i) (by_test (has L i) (λ m. rw m (omega (arith, h i m))) (λ n. rw n (omega arith)))

-- the first record that reads the letter in g
abbrev first_reading : List ℕ → ℕ → Letter → Group → ℕ
first_reading log limit a g = first_from (record_reads log a.number (packed (restrict (processes_of a.bits) g))) 0 limit

-- Leader by leader: the states whose first record is below r are done, and r is the next leader.
pub record Going (log : List ℕ) (c : Scope) (members : List ℕ) (a : Letter) (f : Frame) (to r : ℕ) (s t : List ℕ) : Type 0 where
  pub leader : r < c.count → leader_of log a.number r ≡ true
  pub added : Added log c.limit members a f (λ (g : Group). first_reading log c.limit a g < r) to s t

-- where a record leads on, the first one that reads the same is a leader below the limit
module _ (log : List ℕ) (limit : ℕ) (members : List ℕ) (a : Letter) (g : Group) (y : some_lead log limit members a g ≡ true) where
  reading_below : first_reading log limit a g < limit
  reading_below =
      let test = record_reads log a.number (packed (restrict (processes_of a.bits) g)) in
      let l = the_lead log members a g limit y in
      elim (dec_lt (first_reading log limit a g) limit) [
        | yes h ↦ h
        | no h ↦ absurd (true≢false (sym l.1 ∙ lead_not log members a g (first_lead log limit members a g)
            ((first_at test 0 limit (first_reading log limit a g) refl).fails (first_lead log limit members a g) (omega arith) (omega (arith, l.0)))))
      ]

  reading_leader : leader_of log a.number (first_reading log limit a g) ≡ true
  reading_leader = first_leads log a.number (packed (restrict (processes_of a.bits) g)) refl reading_below

module _ {log : List ℕ} {c : Scope} {a : Letter} {f : Frame} {next to : ℕ} {s : List ℕ} (p : Addable log c a f next to s) (chain : LetterChained log c a.number s) where
  -- the chain's first link
  pub going_start : {r : ℕ} → r ≡ link_at s leaders_at a.number → Going log c (set_at s next) a f to r s s
  going_start {r} e =
      let first = subst (FirstBelow (leader_of log a.number) 0 c.count) (sym e) (chain.chained.first a.number chain.byte chain.inside) in
      record {
        leader = first.passes;
        added = none_added (λ g. first_reading log c.limit a g < r) (λ g h y. true≢false (sym (reading_leader log c.limit (set_at s next) a g y) ∙ first.before (first_reading log c.limit a g) (omega arith) h (omega (arith, reading_below log c.limit (set_at s next) a g y, p.limited)))) s;
      }

  module _ {r : ℕ} {t : List ℕ} (w : Going log c (set_at s next) a f to r s t) where
    pub going_addable : Addable log c a f next to t
    going_addable = addable_kept p w.added.same

    module _ {u : List ℕ} {q : ℕ} (h : r < c.limit) (call : Added log c.limit (set_at t next) a f (Alike log a r) to t u) (e : q ≡ link_at u (keys_at c.n) r) where
      added_here : Added log c.limit (set_at s next) a f (Alike log a r) to t u
      added_here = subst (λ (members : List ℕ). Added log c.limit members a f (Alike log a r) to t u) (next_same p w.added.same) call

      only : OnlySet to s u
      only = outside_join w.added.same added_here.same

      chained_now : Chained log chain.letters 0 c.count c.n u
      chained_now = chained_same p.linked.room.fits (λ i a b. only.behind i (omega (arith, p.low))) (λ i a b. only.behind i (omega (arith, p.low))) chain.chained

      is_leader_lem : (letter_at log r ≡ a.number) × (is_leader log r ≡ true)
      is_leader_lem = leader_parts log a.number r (w.leader (omega (arith, p.limited)))

      following : FirstBelow (leader_of log a.number) (r + 1) c.count q
      following = rw (← is_leader_lem.0, e) (chained_now.next r (omega arith) (omega (arith, p.limited)) is_leader_lem.1 (ap (among chain.letters) is_leader_lem.0 ∙ chain.inside))

      -- the states whose first record is r
      alike : (g : Group) → InFrame (processes_of a.bits) f g → first_reading log c.limit a g ≡ r → Alike log a r g
      unfolding packed_before before_at
      alike g i e =
          let L = processes_of a.bits in
          let test = record_reads log a.number (packed (restrict L g)) in
          let parts = reads_parts log a.number (packed (restrict L g)) r ((first_at test 0 c.limit r (sym e)).passes (omega arith)) in
          packed_same (restrict L g) (before_at log r) (numbered_bytes L g i.states) (over_byte L (before_at log r) (p.shaped r h parts.0))
          (sym parts.1 ∙ pack_group log (r * record_length + 1))

      pub going_later : r < q
      going_later = elim (dec_lt q c.count) [
        | yes l ↦ omega (arith, following.low l)
        | no l ↦ omega (arith, p.limited)
      ]

      pub going_turn : Going log c (set_at s next) a f to q s u
      going_turn = record {
        leader = following.passes;
        added = record {
          same = only;
          kept = λ m l y. added_here.kept m l (w.added.kept m l y);
          sound = λ g i y. ⊎_elim (w.added.sound g i) inr (added_here.sound g i y);
          complete = λ g i l y.
              let m = first_reading log c.limit a g in
              elim (dec_lt m r) [
                | yes b ↦ added_here.kept (state_number g) (state_number_below g) (w.added.complete g i b y)
                | no b ↦ elim (ℕ_discrete m r) [
                  | yes e ↦ added_here.complete g i (alike g i e) y
                  | no e ↦ absurd (true≢false (sym (reading_leader log c.limit (set_at s next) a g y) ∙ following.before m (omega arith) l (omega (arith, reading_below log c.limit (set_at s next) a g y, p.limited))))
                ]
              ];
        };
      }

    pub going_end : c.limit ≤ r → Added log c.limit (set_at s next) a f (λ (g : Group). Unit {0}) to s t
    going_end h = record {
      same = w.added.same;
      kept = w.added.kept;
      sound = w.added.sound;
      complete = λ g i z y. w.added.complete g i (omega (arith, reading_below log c.limit (set_at s next) a g y)) y;
    }
