-- A set is right: a state is in it exactly if the records accept the rest of the start word from letter i on.
use mathlib.Core.Path.{◌≡◌, ap, sym, subst, ◌∙◌}
use mathlib.Core.Bool.{Bool, true, ◌||◌, true≢false}
use mathlib.Core.List.{List}
use mathlib.Core.Logic.{⊎_elim}
use Prim.Native.Nat.{ℕ, ◌+◌, ◌-◌, ◌*◌, ◌<◌, ◌≤◌, ◌/◌, ◌%◌, ◌^◌}
use native.Mathlib.Omega.{arith}
use native.Mathlib.Decide.{dec_lt}
use lib.Bits.{bit_or}
use lib.Pow.{shl_exact, shl-shr}
use borrow.Author.Tests.{eq-eqb}
use Rattle.model.specs.declared.Group.{Group}
use Rattle.model.specs.Groups.{Process, Processes, at, has, build, processes_of}
use Rattle.model.specs.Log.{log_at, record_at}
use Rattle.model.proofs.Groups.{at_build, at_merge}
use Rattle.model.proofs.Tests.{by_test, same_test, or_true_right}
use Rattle.model.proofs.Validity.{each_at}
use Rattle.states.specs.StateNumbers.{state_number, Over}
use Rattle.states.specs.StateSets.{set_length, member}
use Rattle.scratch.specs.Regions.{leaders_at}
use Rattle.wordsets.specs.WordSets.{has_bit}
use Rattle.wordsets.proofs.Bits.{bit_or_lem}
use Rattle.table.specs.declared.Table.{Table}
use Rattle.table.proofs.Layouts.{pile_letter_in, table_modest}
use Rattle.table.specs.Reading.{pile_in, saturated_in, system_in}
use Rattle.logs.specs.RoundLogs.{RoundLog}
use Rattle.logs.proofs.Logs.{Keyed, log_over}
use Rattle.logs.proofs.RoundLogs.{round_reads}
use Rattle.rings.proofs.Links.{outside_join}
use Rattle.leaders.proofs.Chains.{chained_same}
use Rattle.rests.specs.declared.Letter.{Letter}
use Rattle.rests.specs.declared.Scope.{Scope}
use Rattle.rests.specs.Rests.{processes_of_table, own_number, no_states, zeroed_group, LetterAt, accepts_from, set_at, Scoped, SetRight}
use Rattle.rests.proofs.RestRight.{ground, own_within, lead_accepts}
use Rattle.rests.proofs.Sets.{linked_same, right_kept}
use Rattle.restsets.specs.declared.Frame.{Frame}
use Rattle.restsets.specs.Sets.{EmptySet, OnlySet}
use Rattle.restsets.specs.OwnGroups.{last_states, Numbered, Shaped, FrameTo, Addable, LetterChained, Added}
use Rattle.restsets.specs.Filling.{LettersIn, Led, Fillable, Filled}

-- ---- the letters of the word
-- one letter more has its bit
own_bit : (m : ℕ) → m < 32 → has_bit (1 * 2 ^ m % 2 ^ 32) m ≡ true
unfolding has_bit
own_bit m h =
    let one : 1 * 2 ^ m % 2 ^ 32 / 2 ^ m ≡ 1 = ap (λ (x : ℕ). x / 2 ^ m) (shl_exact {a = 1} 1 m 32 (omega arith) (omega arith)) ∙ shl-shr 1 m in
    eq-eqb (1 * 2 ^ m % 2 ^ 32 / 2 ^ m % 2) 1 (ap (λ (x : ℕ). x % 2) one)

pub letters_more : (table : List ℕ) (i letters letter : ℕ) → LettersIn table i letters → letter ≡ pile_in table i → LettersIn table (i + 1) (bit_or letters (1 * 2 ^ (letter % 32) % 2 ^ 32))
letters_more table i letters letter w e k h =
    let new = 1 * 2 ^ (letter % 32) % 2 ^ 32 in
    bit_or_lem letters new (pile_in table k % 32) ∙ elim (dec_lt k i) [
      | yes l ↦ ap (λ (b : Bool). b || has_bit new (pile_in table k % 32)) (w k l)
      | no l ↦
          let is : k ≡ i = omega arith in
          let here : pile_in table k % 32 ≡ letter % 32 = ap (λ (j : ℕ). pile_in table j % 32) is ∙ ap (λ (x : ℕ). x % 32) (sym e) in
          or_true_right (has_bit letters (pile_in table k % 32)) (has_bit new (pile_in table k % 32)) (ap (has_bit new) here ∙ own_bit (letter % 32) (omega arith))
    ]

-- ---- one letter
module _ {table : List ℕ} {t : Table} {round : ℕ} {log : List ℕ} {limit : ℕ} (lent : RoundLog table t round log limit) (i : ℕ) (inside : i < t.pile) (a : Letter) (letter : LetterAt table i a) where
  pub letter_shaped : Shaped log limit a
  letter_shaped r h e =
      let x = (record_at (log_at (saturated_in table) round) r).key in
      let reads = round_reads lent r h in
      let q = each_at (λ r. Keyed table t r.key) (log_at (saturated_in table) round) (log_over table t lent.holds round) r (omega (arith, lent.size)) in
      let same : (system_in table).loc x.letter ≡ processes_of a.bits = ap (system_in table).loc (sym reads.letter ∙ e ∙ letter.number) ∙ sym letter.bits.same in
      rw reads.before (subst (λ (L : Processes). Over L x.before) same q.1)

  own_states : (g : Group) → Over (processes_of_table t) g → Numbered (processes_of a.bits) (zeroed_group (processes_of_table t) g)
  own_states g o j m =
      let there = own_within lent i inside a letter j m in
      rw (at_merge (processes_of_table t) g no_states j, there) (o.inside j there)

  under_last : (g : Group) → accepts_from table round i g ≡ true → (j : Process) → at (zeroed_group (processes_of_table t) g) j % 8 ≤ at (last_states table t) j % 8
  unfolding last_states
  under_last g y j =
      let L = processes_of_table t in
      let last : Process → ℕ = λ j. (saturated_in table).states j - 1 in
      let known = ground lent i inside a letter in
      rw (at_merge L g no_states j, at_merge L (build last) no_states j, at_build last j) (by_test (has L j)
      (λ m. rw m (omega (arith, known.accepted round i g y j, (known.states j m).0, (known.states j m).1)))
      (λ n. rw n (omega arith)))

  -- the set of this rest from that of the next
  set_before : (next to : ℕ) (s s' : List ℕ) (f : Frame) → SetRight table t round (set_at s next) (i + 1) → EmptySet s to → FrameTo (processes_of a.bits) (last_states table t) f
      → Added log limit (set_at s next) a f (λ (g : Group). Unit {0}) to s s' → SetRight table t round (set_at s' to) i
  unfolding own_number
  set_before next to s s' f right empty reach d g o =
      let h = zeroed_group (processes_of_table t) g in
      let leads_on = lead_accepts lent i inside a letter (set_at s next) right g o in
      same_test (member (set_at s' to) (state_number h)) (accepts_from table round i g)
      (λ y. sym leads_on ∙ ⊎_elim (λ m. absurd (true≢false (sym m ∙ empty (state_number h)))) (λ z. z) (d.sound h (own_states g o) y))
      (λ y. d.complete h (reach.reaches h (own_states g o) (under_last g y)) tt (leads_on ∙ y))

-- ---- the set is cleared, then filled
pub led_kept : {table : List ℕ} {t : Table} {log : List ℕ} {count n to : ℕ} {s u : List ℕ} → count ≤ n → to + set_length ≤ leaders_at → OnlySet to s u → Led table t log count n s → Led table t log count n u
led_kept fits low o w = record {
  letters = w.letters;
  inside = w.inside;
  chained = chained_same fits (λ i a b. o.behind i (omega arith)) (λ i a b. o.behind i (omega arith)) w.chained;
  room = omega (arith, w.room, o.size);
}

pub scoped_kept : {table : List ℕ} {t : Table} {log : List ℕ} {c : Scope} {to : ℕ} {s u : List ℕ} → to + set_length ≤ leaders_at → OnlySet to s u → Scoped table t log c s → Scoped table t log c u
scoped_kept low o w = record { some = w.some; linked = linked_same (omega arith) o w.linked; limited = w.limited }

module _ {table : List ℕ} {t : Table} {log : List ℕ} {c : Scope} {i next to : ℕ} {last : Group} {s u : List ℕ} (p : Fillable table t log c i next to last s) {a : Letter} (letter : LetterAt table i a)
    (cleared : OnlySet to s u × EmptySet u to) {f : Frame} (frame : FrameTo (processes_of a.bits) last f) where
  pub filling_addable : Addable log c a f next to u
  filling_addable = record {
    linked = linked_same (omega (arith, p.low)) cleared.0 p.scoped.linked;
    limited = p.scoped.limited;
    shaped = letter_shaped p.scoped.some.1 i p.inside a letter;
    apart = record { apart = p.apart.apart; from_room = omega (arith, p.apart.from_room, cleared.0.size); to_room = omega (arith, p.apart.to_room, cleared.0.size) };
    low = p.low;
    framed = frame.framed;
  }

  pub filling_chained : LetterChained log c a.number u
  filling_chained =
      let led = led_kept p.scoped.linked.room.fits p.low cleared.0 p.led in
      let small : t.letters ≤ 32 = (table_modest table t p.scoped.some.1.holds).letters in
      record { byte = omega (arith, letter.number, pile_letter_in table t p.scoped.some.1.holds i p.inside); letters = led.letters; inside = rw letter.number (led.inside i p.inside); chained = led.chained; room = led.room }

  pub filling_end : {v : List ℕ} → Added log c.limit (set_at u next) a f (λ (g : Group). Unit {0}) to u v → Filled table t log c.limit i to s v
  filling_end d = record {
    only = outside_join cleared.0 d.same;
    right = λ round lent. set_before lent i p.inside a letter next to _ _ f
        (right_kept next (i + 1) p.apart.from_room p.apart.apart cleared.0 p.next_right round lent) cleared.1
        (subst (λ (g : Group). FrameTo (processes_of a.bits) g f) p.states frame) d;
  }
