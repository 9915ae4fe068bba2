-- A round stands as long as the records that it starts from, the order of the rules and the rings do.
use mathlib.Core.Path.{◌∙◌, ◌≡◌, ap, sym}
use mathlib.Core.Bool.{Bool, ◌&&◌}
use mathlib.Core.List.{List}
use Prim.Native.Nat.{◌*◌, ◌+◌, ◌-◌, ◌/◌, ◌<◌, ◌≤◌, ℕ}
use native.Mathlib.Omega.{arith}
use lib.Dec.{ltb}
use lib.ListN.{get_or, length, take}
use borrow.Author.Tests.{ltb-true}
use Rattle.model.specs.Lists.{Each}
use Rattle.model.specs.Records.{log_bytes, record_length}
use Rattle.model.specs.Systems.{Rule}
use Rattle.model.proofs.Tests.{by_test}
use Rattle.states.specs.StateSets.{set_length}
use Rattle.scratch.specs.Regions.{active_at, counts_end, keys_at, order_at, passed_at, rings_at}
use Rattle.records.specs.Entries.{Fits}
use Rattle.rings.proofs.Keeping.{freshened_log, freshened_scratch, ringed_log, ringed_scratch}
use Rattle.keys.proofs.Keeping.{indexed_log, indexed_scratch}
use Rattle.table.specs.declared.Table.{Table}
use Rattle.table.specs.Reading.{Holds, rule_in}
use Rattle.table.proofs.Layouts.{table_modest}
use Rattle.logs.proofs.Logs.{log_fits}
use Rattle.rules.specs.Regions.{has_position, position_ceiling}
use Rattle.rules.specs.Rules.{has_letter, ordered_rule, writers_of, writes_letter}
use Rattle.rules.proofs.RegionLaws.{in_same}
use Rattle.rules.proofs.RuleOrder.{ordered_same}
use Rattle.paths.proofs.Glances.{after_same, before_same, letter_same}
use Rattle.heads.specs.declared.Round.{Round}
use Rattle.heads.specs.Rounds.{InRound, Prepared, earlier_log, is_active}

-- the bytes that a round keeps while it adds records
abbrev pub Keeps : List ℕ → List ℕ → Type 0
Keeps s s' = (i : ℕ) → counts_end ≤ i → i < passed_at + 2 * set_length → get_or s' i 0 ≡ get_or s i 0

module _ (table : List ℕ) (t : Table) (holds : Holds table t) (s s' : List ℕ) (keeps : Keeps s s') where
  -- the rules are in the same order, and the same positions are active
  pub order_kept : (p : ℕ) → p < t.rules → ordered_rule s' p ≡ ordered_rule s p
  order_kept p l = keeps (order_at + p) (omega arith) (omega (arith, (table_modest table t holds).rules))

  -- what is asked of the rule at a position, if there is one
  pub rule_kept : (f : Rule → Bool) (p : ℕ) → (ltb p t.rules && f (rule_in table (ordered_rule s p))) ≡ (ltb p t.rules && f (rule_in table (ordered_rule s' p)))
  rule_kept f p = by_test (ltb p t.rules)
      (λ y. rw y (ap (λ (k : ℕ). f (rule_in table k)) (sym (order_kept p (ltb-true p t.rules y)))))
      (λ n. rw n)

  pub active_kept : (p : ℕ) → p < position_ceiling → has_position s' active_at p ≡ has_position s active_at p
  active_kept p l = in_same s s' active_at p (keeps (active_at + p / 8) (omega arith) (omega arith))

  pub keep_prepared : Prepared table t s → Prepared table t s'
  keep_prepared w = record {
    ordered = ordered_same table t.rules s s' order_kept w.ordered;
    writers = record {
      positions = λ a p l b.
          let few = (table_modest table t holds).letters in
          in_same s s' (writers_of a) p (keeps (writers_of a + p / 8) (omega arith) (omega arith)) ∙ w.writers.positions a p l b ∙ rule_kept (writes_letter a) p;
    };
    first_depth = λ i a b. keeps i (omega arith) b ∙ w.first_depth i a b;
  }

  pub round_kept : (round : Round) (log log' : List ℕ) → InRound table t round log s → take (round.base * record_length) log' ≡ take (round.base * record_length) log → length log' ≡ length log
      → length s' ≡ length s → ((i : ℕ) → rings_at ≤ i → get_or s' i 0 ≡ get_or s i 0) → InRound table t round log' s'
  round_kept round log log' w front size-log size-s rings =
      let letters = letter_same log log' round.base front in
      let befores = before_same log log' round.base front in
      record {
        holds = holds;
        begun = w.begun;
        late = w.late;
        size = w.size;
        bytes = front ∙ w.bytes;
        records = rw size-log w.records;
        low = w.low;
        last = w.last;
        fresh = λ i a b. ap (has_letter round.fresh) (letters i b) ∙ w.fresh i a b;
        room = record { fits = w.room.fits; short = w.room.short; records = rw size-log w.room.records; room = rw size-s w.room.room };
        ringed = ringed_log log log' round.base round.n rings_at s' letters befores w.room.fits
            (ringed_scratch log round.base round.n rings_at s s' w.room.fits (λ i a b. rings i a) w.ringed);
        freshened = freshened_log log log' round.base round.n rings_at s' letters befores round.lo w.low
            (freshened_scratch log round.lo round.base round.n rings_at s s' (λ i a b. rings i a) w.freshened);
        prepared = keep_prepared w.prepared;
        active = λ p l. active_kept p l ∙ w.active p l ∙ rule_kept (is_active round) p;
        links = rw size-s w.links;
        indexed = λ p l y. indexed_log log log' round.base round.n (keys_at round.n) s' letters befores (after_same log log' round.base front)
            (indexed_scratch log round.base round.n (keys_at round.n) s s' w.room.fits (λ i a b. rings i (omega arith))
            (w.indexed p l (sym (active_kept p (omega (arith, (table_modest table t holds).rules))) ∙ y)));
      }

-- ---- the records that it starts from
module _ (table : List ℕ) (t : Table) (round : Round) (log s : List ℕ) (here : InRound table t round log s) where
  pub round_fits : Each Fits (earlier_log table round.number)
  round_fits = log_fits table t here.holds (round.number - 1) (omega (arith, here.late, here.room.fits, here.room.short)) (omega (arith, here.size, here.room.fits, here.room.short))

  pub round_bytes : take (length (earlier_log table round.number) * record_length) log ≡ log_bytes (earlier_log table round.number)
  round_bytes = ap (λ (n : ℕ). take (n * record_length) log) (sym here.size) ∙ here.bytes
