-- The search of a head: its active rules one after the other, from its first active position on.
use mathlib.Core.Path.{◌∙◌, ◌≡◌, ap, ap₂, refl, subst, sym}
use mathlib.Core.Bool.{Bool, ◌&&◌, ◌||◌, false, true, true≢false, or_assoc, or-false}
use mathlib.Core.List.{List, [], ◌++◌, append_assoc, append-nil, map}
use Prim.Native.Nat.{◌*◌, ◌+◌, ◌-◌, ◌<◌, ◌≤◌, suc, zero, ℕ}
use native.Mathlib.Decide.{dec_lt, ℕ_discrete}
use native.Mathlib.Omega.{arith}
use lib.Dec.{eqb, ltb}
use lib.ListN.{length, length-append, length-map, take}
use borrow.Author.Tests.{eqb-true, lt-ltb, ltb-true}
use Rattle.model.specs.declared.Group.{Group}
use Rattle.model.specs.Groups.{Processes, same_group}
use Rattle.model.specs.Log.{Candidate, Record, added_record}
use Rattle.model.specs.Records.{record_length}
use Rattle.model.specs.Systems.{Rule}
use Rattle.model.specs.Tables.{rule_of}
use Rattle.model.specs.Lists.{filter}
use Rattle.searches.specs.Searches.{is_head}
use Rattle.model.proofs.Lists.{filter_append, map_append}
use Rattle.model.proofs.Groups.{same_group_true}
use Rattle.searches.proofs.RoundHeads.{is_head_of, is_head_true}
use Rattle.model.proofs.Tests.{and_left, and_right}
use Rattle.states.specs.StateSets.{first_from}
use Rattle.states.proofs.StateSets.{First, first_at}
use Rattle.scratch.specs.Regions.{active_at, keys_at}
use Rattle.packs.specs.Packs.{Bytes, packed}
use Rattle.packs.proofs.Packs.{same_bits}
use Rattle.keys.specs.Keys.{Indexed, held_below}
use Rattle.table.specs.declared.Table.{Table}
use Rattle.table.specs.Reading.{BitsOf, Holds, rule_in, system_in}
use Rattle.table.proofs.Layouts.{table_modest}
use Rattle.logs.proofs.Rules.{rule_over}
use Rattle.logs.proofs.Logs.{over_byte}
use Rattle.rules.specs.Regions.{has_position, position_ceiling}
use Rattle.rules.specs.Rules.{ordered_rule}
use Rattle.rules.proofs.HeadRuns.{head_candidates_lem, offers_of, run_offers}
use Rattle.rules.proofs.RuleOrder.{same_between}
use Rattle.paths.specs.Arrivals.{hit, stored, taken}
use Rattle.paths.specs.Jobs.{known, seen_in}
use Rattle.paths.proofs.Glances.{held_same}
use Rattle.paths.proofs.Arrivals.{hit_append, stored_append, stored_capped, stored_earlier, stored_length, taken_append, taken_known}
use Rattle.heads.specs.declared.Head.{Head}
use Rattle.heads.specs.declared.Round.{Round}
use Rattle.heads.specs.Heads.{Arrived, HeadSearched, Leading, before_of, head_held, letter_of}
use Rattle.heads.specs.Jobs.{HeadOf, has_head}
use Rattle.heads.specs.Rounds.{InRound, earlier_log, head_at, is_active, is_offered, looked_at, rule_candidates, rule_offers}
use Rattle.heads.proofs.InRounds.{active_kept, order_kept, round_kept}

-- ---- candidates that arrive one after the other
pub arrived_none : (table : List ℕ) (round : Round) (held : ℕ → Bool) (count : ℕ) (log s : List ℕ) → count ≤ round.n + 1 → Arrived table round held [] count log s count log s
arrived_none table round held count log s h = record { counted = omega arith; written = refl; seen = λ x l. sym (or-false (seen_in s x)); scratch_length = refl; kept = λ i a b. refl; outside = λ i a. refl }

module _ {table : List ℕ} {round : Round} {held : ℕ → Bool} {cs ds : List Candidate} {count : ℕ} {log s : List ℕ} {count₁ : ℕ} {log₁ s₁ : List ℕ} {count₂ : ℕ} {log₂ s₂ : List ℕ}
    (a : Arrived table round held cs count log s count₁ log₁ s₁) (b : Arrived table round held ds count₁ log₁ s₁ count₂ log₂ s₂) where
  abbrev rec : Candidate → Record
  rec = added_record round.number (earlier_log table round.number)

  all_taken : taken (known held s) (cs ++ ds) ≡ taken (known held s) cs ++ taken (known held s₁) ds
  all_taken = taken_append (known held s) cs ds ∙ ap (λ (l : List Candidate). taken (known held s) cs ++ l) (taken_known held s s₁ cs a.seen ds)

  count_is : length (taken (known held s) (cs ++ ds)) ≡ length (taken (known held s) cs) + length (taken (known held s₁) ds)
  count_is = ap length all_taken ∙ length-append (taken (known held s) cs) (taken (known held s₁) ds)

  arrived_both : Arrived table round held (cs ++ ds) count log s count₂ log₂ s₂
  arrived_both = record {
    counted = omega (arith, a.counted, b.counted, count_is);
    written = b.written
        ∙ ap₂ (λ (l : List ℕ) (n : ℕ). stored round.n l n (map rec (taken (known held s₁) ds))) a.written a.counted
        ∙ stored_capped round.n (stored round.n log count (map rec (taken (known held s) cs))) (count + length (taken (known held s) cs)) (map rec (taken (known held s₁) ds))
        ∙ ap (λ (n : ℕ). stored round.n (stored round.n log count (map rec (taken (known held s) cs))) (count + n) (map rec (taken (known held s₁) ds))) (sym (length-map (taken (known held s) cs) rec))
        ∙ sym (stored_append round.n log count (map rec (taken (known held s) cs)) (map rec (taken (known held s₁) ds)))
        ∙ ap (stored round.n log count) (sym (map_append rec (taken (known held s) cs) (taken (known held s₁) ds)) ∙ ap (map rec) (sym all_taken));
    seen = λ x h. b.seen x h ∙ ap (λ (v : Bool). v || hit ds x) (a.seen x h) ∙ or_assoc (seen_in s x) (hit cs x) (hit ds x) ∙ ap (λ (v : Bool). seen_in s x || v) (sym (hit_append cs ds x));
    scratch_length = b.scratch_length ∙ a.scratch_length;
    kept = λ i p q. b.kept i p q ∙ a.kept i p q;
    outside = λ i p. b.outside i p ∙ a.outside i p;
  }

module _ {table : List ℕ} {t : Table} {round : Round} {held : ℕ → Bool} {cs : List Candidate} {count : ℕ} {log s : List ℕ} {count' : ℕ} {log' s' : List ℕ}
    (here : InRound table t round log s) (low : round.base ≤ count) (a : Arrived table round held cs count log s count' log' s') where
  pub arrived_front : take (round.base * record_length) log' ≡ take (round.base * record_length) log
  arrived_front = ap (take (round.base * record_length)) a.written
      ∙ stored_earlier round.n log count (map (added_record round.number (earlier_log table round.number)) (taken (known held s) cs)) round.base low here.records

  pub arrived_length : length log' ≡ length log
  arrived_length = ap length a.written ∙ stored_length round.n log count (map (added_record round.number (earlier_log table round.number)) (taken (known held s) cs)) here.records

  pub arrived_count : (round.base ≤ count') × (count' ≤ round.n + 1)
  arrived_count = (omega (arith, a.counted, here.room.fits), omega (arith, a.counted))

  -- the round goes on
  pub arrived_round : InRound table t round log' s'
  arrived_round = round_kept table t here.holds s s' (λ i p q. a.kept i (omega arith) q) round log log' here arrived_front arrived_length a.scratch_length (λ i p. a.outside i (omega arith))

-- ---- positions one after the other
module _ (loc : ℕ → Processes) (log : List Record) (ok : Rule → Bool) (rs : List Rule) (d : Rule) (at : ℕ → ℕ) where
  abbrev offers : ℕ → List Candidate
  offers k = offers_of loc log ok rs d k

  abbrev run : ℕ → ℕ → List Candidate
  run p m = run_offers loc log ok rs d at p m

  run_snoc : (m p : ℕ) → run p (suc m) ≡ run p m ++ offers (at (p + m))
  run_snoc zero p = append-nil (offers (at p)) ∙ ap (λ (q : ℕ). offers (at q)) (omega arith)
  run_snoc (suc m) p = ap (λ (l : List Candidate). offers (at p) ++ l) (run_snoc m (suc p)) ∙ sym (append_assoc (offers (at p)) (run (suc p) m) (offers (at (suc p + m))))
      ∙ ap (λ (q : ℕ). run p (suc m) ++ offers (at q)) (omega arith)

  -- positions without candidates
  run_idle : (k m p : ℕ) → ((q : ℕ) → p + m ≤ q → q < p + m + k → offers (at q) ≡ []) → run p (m + k) ≡ run p m
  run_idle zero m p f = let e : m + 0 ≡ m = omega arith in ap (run p) e
  run_idle (suc k) m p f =
      let e : m + suc k ≡ suc (m + k) = omega arith in
      ap (run p) e ∙ run_snoc (m + k) p ∙ ap (λ (l : List Candidate). run p (m + k) ++ l) (f (p + (m + k)) (omega arith) (omega arith)) ∙ append-nil (run p (m + k)) ∙ run_idle k m p (λ q a b. f q a (omega arith))

  -- up to a position, the last one before it that has some being at most p + m
  pub run_on : (p m q : ℕ) → p + m ≤ q → ((r : ℕ) → p + m ≤ r → r < q → offers (at r) ≡ []) → run p (q + 1 - p) ≡ run p m ++ offers (at q)
  run_on p m q l f =
      let e : q + 1 - p ≡ suc (m + (q - (p + m))) = omega arith in
      let last : p + (m + (q - (p + m))) ≡ q = omega arith in
      ap (run p) e ∙ run_snoc (m + (q - (p + m))) p ∙ ap₂ (λ (l : List Candidate) (r : ℕ). l ++ offers (at r)) (run_idle (q - (p + m)) m p (λ r a b. f r a (omega arith))) last

-- ---- the rules of the head
pub head_parts : (a : ℕ) (b : Group) (r : Rule) → is_head a b r ≡ true → (r.letter ≡ a) × (r.before ≡ b)
unfolding is_head
head_parts a b r e = (eqb-true r.letter a (and_left (eqb r.letter a) (same_group r.before b) e), same_group_true r.before b (and_right (eqb r.letter a) (same_group r.before b) e))

module _ (table : List ℕ) (t : Table) (holds : Holds table t) where
  bytes_before : (k : ℕ) → k < t.rules → Bytes (rule_in table k).before
  bytes_before k l = over_byte ((system_in table).loc (rule_in table k).letter) (rule_in table k).before (rule_over table t holds k l).0

  pub head_test : (head : Head) (h k : ℕ) → HeadOf table h head → h < t.rules → k < t.rules → has_head table head k ≡ is_head (rule_in table h).letter (rule_in table h).before (rule_in table k)
  unfolding has_head is_head
  head_test head h k o a b =
      ap₂ (λ (x y : ℕ). eqb (rule_in table k).letter x && eqb (packed (rule_in table k).before) y) o.letter o.before
      ∙ ap (λ (v : Bool). eqb (rule_in table k).letter (rule_in table h).letter && v) (same_bits (rule_in table k).before (rule_in table h).before (bytes_before k b) (bytes_before h a))

-- ---- the search, with what the function was called with
-- what the m positions from `from` on have for the head of the first
abbrev searched_at : List ℕ → Round → List ℕ → ℕ → ℕ → List Candidate
searched_at table round s from m = run_offers (system_in table).loc (earlier_log table round.number) (looked_at round (letter_of table s from) (before_of table s from)) (system_in table).rules (rule_of []) (ordered_rule s) from m

-- they have been searched, and no position behind them and below `position` is active
pub record Searching (table : List ℕ) (t : Table) (round : Round) (head : Head) (from count : ℕ) (log₀ s₀ log s : List ℕ) (position total : ℕ) : Type 0 where
  pub here : InRound table t round log₀ s₀
  pub within : from < t.rules
  pub first : Leading table s₀ from
  pub of : HeadOf table (ordered_rule s₀ from) head
  pub low : round.base ≤ count
  pub m : ℕ
  pub behind : from + m ≤ position
  pub begins : m ≡ 0 → position ≡ from
  pub ruled : from + m ≤ t.rules
  pub same : (q : ℕ) → from ≤ q → q < from + m → head_at table s₀ q ≡ head_at table s₀ from
  pub idle : (q : ℕ) → from + m ≤ q → q < position → has_position s₀ active_at q ≡ false
  pub active : position < position_ceiling → has_position s₀ active_at position ≡ true
  pub inside : position ≤ position_ceiling
  pub arrived : Arrived table round (head_held table round log₀ s₀ from) (filter (is_offered round) (searched_at table round s₀ from m)) count log₀ s₀ total log s

pub searching_start : {table : List ℕ} {t : Table} {round : Round} {head : Head} {from count : ℕ} {log s : List ℕ}
    → InRound table t round log s × (from < t.rules) × (has_position s active_at from ≡ true) × Leading table s from
    × HeadOf table (ordered_rule s from) head × (round.base ≤ count) × (count ≤ round.n)
    → Searching table t round head from count log s log s from count
searching_start {table} {t} {round} {from = from} {count = count} {log = log} {s = s} p = record {
  here = p.0;
  within = p.1;
  first = p.3;
  of = p.4;
  low = p.5;
  m = 0;
  behind = omega arith;
  begins = λ e. refl;
  ruled = omega (arith, p.1);
  same = λ q a b. absurd (omega arith);
  idle = λ q a b. absurd (omega arith);
  active = λ l. p.2;
  inside = omega (arith, p.1, (table_modest table t p.0.holds).rules);
  arrived = arrived_none table round (head_held table round log s from) count log s (omega (arith, p.6));
}

module _ {table : List ℕ} {t : Table} {round : Round} {head : Head} {from count : ℕ} {log₀ s₀ log s : List ℕ} {position total : ℕ} (o : Searching table t round head from count log₀ s₀ log s position total) where
  abbrev here : InRound table t round log₀ s₀
  here = o.here

  abbrev holds : Holds table t
  holds = o.here.holds

  abbrev a : ℕ
  a = letter_of table s₀ from

  abbrev g : Group
  g = before_of table s₀ from

  abbrev ok : Rule → Bool
  ok = looked_at round a g

  abbrev held : ℕ → Bool
  held = head_held table round log₀ s₀ from

  abbrev offered : ℕ → List Candidate
  offered m = filter (is_offered round) (searched_at table round s₀ from m)

  abbrev offers_at : ℕ → List Candidate
  offers_at p = offers_of (system_in table).loc (earlier_log table round.number) ok (system_in table).rules (rule_of []) (ordered_rule s₀ p)

  few : t.rules ≤ 200
  few = (table_modest table t holds).rules

  ruled_at : (p : ℕ) → p < t.rules → ordered_rule s₀ p < t.rules
  ruled_at p l = here.prepared.ordered.below p l

  -- the rule at an active position is looked at if it has the head; at another position none is
  active_rule : (p : ℕ) → p < t.rules → has_position s₀ active_at p ≡ is_active round (rule_in table (ordered_rule s₀ p))
  active_rule p l = here.active p (omega (arith, few)) ∙ rw (lt-ltb p t.rules l)

  idle_none : (p : ℕ) → p < t.rules → has_position s₀ active_at p ≡ false → offers_at p ≡ []
  idle_none p l f = rw (sym (active_rule p l) ∙ f)

  looked_offers : (p : ℕ) → p < t.rules → has_position s₀ active_at p ≡ true → head_at table s₀ p ≡ head_at table s₀ from → offers_at p ≡ rule_candidates table round.number (ordered_rule s₀ p)
  looked_offers p l y e = rw (sym (active_rule p l) ∙ y, is_head_of a g (rule_in table (ordered_rule s₀ p)) e)

  pub searching_round : InRound table t round log s
  searching_round = arrived_round here o.low o.arrived

  searching_count : (round.base ≤ total) × (total ≤ round.n + 1)
  searching_count = arrived_count here o.low o.arrived

  pub searching_length : length log ≡ length log₀
  searching_length = arrived_length here o.low o.arrived

  order_same : (p : ℕ) → p < t.rules → ordered_rule s p ≡ ordered_rule s₀ p
  order_same p l = order_kept table t holds s₀ s (λ i a b. o.arrived.kept i (omega arith) b) p l

  -- the test of the loop
  abbrev test : Bool
  test = ltb position t.rules && has_head table head (ordered_rule s position)

  has_is : position < t.rules → has_head table head (ordered_rule s position) ≡ is_head a g (rule_in table (ordered_rule s₀ position))
  has_is l = ap (has_head table head) (order_same position l) ∙ head_test table t holds head (ordered_rule s₀ from) (ordered_rule s₀ position) o.of (ruled_at from o.within) (ruled_at position l)

  module _ (passes : test ≡ true) where
    below : position < t.rules
    below = ltb-true position t.rules (and_left (ltb position t.rules) (has_head table head (ordered_rule s position)) passes)

    is_head_lem : is_head a g (rule_in table (ordered_rule s₀ position)) ≡ true
    is_head_lem = sym (has_is below) ∙ and_right (ltb position t.rules) (has_head table head (ordered_rule s position)) passes

    same_head : head_at table s₀ position ≡ head_at table s₀ from
    same_head = is_head_true a g (rule_in table (ordered_rule s₀ position)) is_head_lem

    pub searching_small : position < 200
    searching_small = omega (arith, below, few)

    search_head : HeadOf table (ordered_rule s₀ position) head
    search_head =
        let parts = head_parts a g (rule_in table (ordered_rule s₀ position)) is_head_lem in
        record {
          letter = o.of.letter ∙ sym parts.0;
          bits = subst (λ (x : ℕ). BitsOf ((system_in table).loc x) head.bits) (sym parts.0) o.of.bits;
          before = o.of.before ∙ ap packed (sym parts.1);
        }

    -- the rule there may be searched
    pub searching_rule : {k : ℕ} → k ≡ ordered_rule s position
        → InRound table t round log s × (k < t.rules) × HeadOf table k head × (round.base ≤ total) × (total ≤ round.n + 1) × Indexed log round.base round.n (keys_at round.n) s
    searching_rule e = (
      searching_round,
      rw (e, order_same position below) (ruled_at position below),
      rw (e, order_same position below) search_head,
      searching_count.0,
      searching_count.1,
      searching_round.indexed position below (active_kept table t holds s₀ s (λ i a b. o.arrived.kept i (omega arith) b) position (omega (arith, below, few)) ∙ o.active (omega (arith, below, few))),
    )

    pub searching_turn : {k total' : ℕ} {log' s' : List ℕ} {next : ℕ} → k ≡ ordered_rule s position → Arrived table round (held_below log head.letter head.before round.base) (rule_offers table round k) total log s total' log' s'
        → next ≡ first_from (has_position s' active_at) (position + 1) (position_ceiling - (position + 1)) → Searching table t round head from count log₀ s₀ log' s' next total'
    searching_turn {k} {total'} {log'} {s'} {next} is d e = record {
      here = here;
      within = o.within;
      first = o.first;
      of = o.of;
      low = o.low;
      m = position + 1 - from;
      behind = omega (arith, next_at.low, o.behind);
      begins = λ z. absurd (omega (arith, o.behind));
      ruled = omega (arith, below, o.behind);
      same = λ q a b. same_between table t.rules s₀ here.prepared.ordered from position q a (omega (arith, o.behind)) below (sym same_head);
      idle = λ q a b. sym (active_now q (omega (arith, next_at.high))) ∙ next_at.fails q (omega (arith, o.behind)) b;
      active = λ l. sym (active_now next l) ∙ next_at.passes (omega (arith, below, few));
      inside = omega (arith, next_at.high, below, few);
      arrived = subst (λ (cs : List Candidate). Arrived table round held cs count log₀ s₀ total' log' s') (sym candidates_are) all_arrived;
    }
      where
        -- the records before the round's are the same, and so are their ends
        held_is : held_below log head.letter head.before round.base ≡ held
        held_is = held_same log₀ log round.base (arrived_front here o.low o.arrived) head.letter head.before
            ∙ ap₂ (λ (x y : ℕ). held_below log₀ x y round.base) o.of.letter o.of.before

        all_arrived : Arrived table round held (offered o.m ++ rule_offers table round k) count log₀ s₀ total' log' s'
        all_arrived = arrived_both o.arrived (subst (λ (f : ℕ → Bool). Arrived table round f (rule_offers table round k) total log s total' log' s') held_is d)

        active_now : (p : ℕ) → p < position_ceiling → has_position s' active_at p ≡ has_position s₀ active_at p
        active_now p l = active_kept table t holds s₀ s' (λ i a b. all_arrived.kept i (omega arith) b) p l

        next_at : First (has_position s' active_at) (position + 1) (position_ceiling - (position + 1)) next
        next_at = first_at (has_position s' active_at) (position + 1) (position_ceiling - (position + 1)) next e

        candidates_are : offered (position + 1 - from) ≡ offered o.m ++ rule_offers table round k
        candidates_are =
            ap (filter (is_offered round)) (run_on (system_in table).loc (earlier_log table round.number) ok (system_in table).rules (rule_of []) (ordered_rule s₀) from o.m position o.behind
            (λ q a b. idle_none q (omega (arith, below)) (o.idle q a b))
            ∙ ap (λ (cs : List Candidate). searched_at table round s₀ from o.m ++ cs) (looked_offers position below (o.active (omega (arith, below, few))) same_head))
            ∙ filter_append (is_offered round) (searched_at table round s₀ from o.m) (rule_candidates table round.number (ordered_rule s₀ position))
            ∙ ap (λ (k : ℕ). offered o.m ++ rule_offers table round k) (sym (is ∙ order_same position below))

  module _ (fails : test ≡ false) where
    other_head : position < t.rules → head_at table s₀ position ≡ head_at table s₀ from → ⊥
    other_head l e = true≢false (sym (has_is l ∙ is_head_of a g (rule_in table (ordered_rule s₀ position)) e) ∙ rw (lt-ltb position t.rules l) at fails)

    is_later : from < position
    is_later = elim (ℕ_discrete o.m 0) [
      | yes e ↦ let is : position ≡ from = o.begins e in absurd (other_head (omega (arith, o.within)) (ap (head_at table s₀) is))
      | no e ↦ omega (arith, o.behind, e)
    ]

    -- a rule that is looked at stands at one of the positions searched
    looked_inside : (q : ℕ) → q < t.rules → ok (rule_in table (ordered_rule s₀ q)) ≡ true → (from ≤ q) × (q < from + o.m)
    looked_inside q l y = (
      elim (dec_lt q from) [ yes h ↦ absurd (o.first q h lit same) | no h ↦ omega arith ],
      elim (dec_lt q (from + o.m)) [
        | yes h ↦ h
        | no h ↦ absurd (elim (dec_lt q position) [
          | yes b ↦ true≢false (sym lit ∙ o.idle q (omega arith) b)
          | no b ↦ other_head (omega arith) (same_between table t.rules s₀ here.prepared.ordered from q position (omega (arith, is_later)) (omega arith) l (sym same))
        ])
      ],
    )
      where
        lit : has_position s₀ active_at q ≡ true
        lit = active_rule q l ∙ and_left (is_active round (rule_in table (ordered_rule s₀ q))) (is_head a g (rule_in table (ordered_rule s₀ q))) y

        same : head_at table s₀ q ≡ head_at table s₀ from
        same = is_head_true a g (rule_in table (ordered_rule s₀ q)) (and_right (is_active round (rule_in table (ordered_rule s₀ q))) (is_head a g (rule_in table (ordered_rule s₀ q))) y)

    pub searching_end : HeadSearched table t round from count log₀ s₀ (record { position = position; count = total }) log s
    searching_end = record {
      next = record {
        later = is_later;
        active = λ l. o.active (omega (arith, few));
        same = λ r a b l y. elim (dec_lt r (from + o.m)) [ yes h ↦ o.same r a h | no h ↦ absurd (true≢false (sym y ∙ o.idle r (omega arith) b)) ];
        other = other_head;
      };
      arrived = subst (λ (cs : List Candidate). Arrived table round held (filter (is_offered round) cs) count log₀ s₀ total log s)
          (sym (head_candidates_lem table t holds s₀ here.prepared.ordered (system_in table).loc (earlier_log table round.number) ok from o.m o.ruled o.same looked_inside)) o.arrived;
    }
