-- Demand 2 of the log: the bytes that the answer and the run call leave hold the limit automaton, each transition in its first round.
use mathlib.Core.Path.{◌∙◌, ◌≡◌, ap, ap₂, refl, subst, sym}
use mathlib.Core.Bool.{◌||◌, false, true, true≢false}
use mathlib.Core.List.{List, ◌++◌}
use Prim.Native.Nat.{◌*◌, ◌-◌, ◌<◌, ◌≤◌, suc, ℕ}
use native.Mathlib.Omega.{arith}
use lib.Dec.{eqb, ltb}
use lib.ListN.{drop, length, length-append, length-replicate, replicate}
use lib.Seq.{drop_at}
use borrow.Author.Tests.{ltb-false}
use Rattle.model.specs.Calls.{answer_call, answer_given, capacity, changes_nothing, filled, log_after, records_of, refused_by, run_call, run_given, run_verdict, scratch_needed, start_path}
use Rattle.model.specs.Demands.{Demand2, LogHolds}
use Rattle.model.specs.Log.{Record, limit, record_at, saturated_at}
use Rattle.model.specs.Records.{key_at, log_bytes, record_length, round_at}
use Rattle.model.specs.Saturation.{Delta}
use Rattle.model.specs.Systems.{System}
use Rattle.model.specs.Tables.{Item, Reading, accepted, read, refused, saturated_of, system_of}
use Rattle.model.proofs.Collecting.{number_of}
use Rattle.model.proofs.Closing.{refusal_changes_nothing}
use Rattle.model.proofs.Reachability.{held_limit}
use Rattle.model.proofs.RecordBytes.{from_key, from_round, length_log, record_from}
use Rattle.model.proofs.Rounds.{rounds_most, rounds_short}
use Rattle.model.proofs.Tests.{by_test, or_left, or_right}
use Rattle.model.proofs.Theorems.{distinct_keys, first_round, limit_adds_nothing, log_is_delta}
use Rattle.model.proofs.Validity.{each_at}

-- ---- a log that begins with the limit's records, and then has zeros
module _ (table : List ℕ) (items : List Item) (e : read table ≡ accepted items) (buffer log : List ℕ) (is : log ≡ filled (log_bytes (limit (saturated_of items))) buffer)
    (few : length (limit (saturated_of items)) ≤ capacity (length buffer)) where
  abbrev sys : System
  sys = saturated_of items

  abbrev rest : List ℕ
  rest = replicate (length buffer - length (log_bytes (limit sys))) 0

  abbrev behind : ℕ → List ℕ
  behind n = log_bytes (drop (suc n) (limit sys)) ++ rest

  key_is : (n : ℕ) → n < length (limit sys) → key_at log n ≡ (record_at (limit sys) n).key
  key_is n h = from_key log n (record_at (limit sys) n) (behind n) (record_from (limit sys) rest log n is h)

  -- there are no more rounds than records, so that each fits its two bytes
  round_is : (n : ℕ) → n < length (limit sys) → round_at log n ≡ (record_at (limit sys) n).round
  round_is n h =
      let most : (record_at (limit sys) n).round ≤ saturated_at sys = each_at (λ (x : Record). x.round ≤ saturated_at sys) (limit sys) (rounds_most sys) n h in
      from_round log n (record_at (limit sys) n) (behind n) (record_from (limit sys) rest log n is h) (omega (arith, rounds_short sys))

  log_size : length log ≡ length buffer
  log_size = ap length is ∙ length-append (log_bytes (limit sys)) rest ∙ omega (arith, length_log (limit sys), length-replicate {A = ℕ} (length buffer - length (log_bytes (limit sys))) 0)

  pub log_demand : Demand2 log sys
  log_demand = record {
    room = omega (arith, log_size);
    first = λ n h.
        let f = first_round table items e (saturated_at sys) n h in
        let round = round_is n h in
        let key = key_is n h in (
          rw (round, key) f.0,
          λ k l d. f.1 k (subst (λ (j : ℕ). k < j) round l) (subst (Delta sys k) key d),
        );
    whole = λ k t d.
        let held = held_limit sys (saturated_at sys) (limit_adds_nothing table items e) k t ((log_is_delta table items e k t).1 d) in
        let n = number_of (limit sys) t held in
        (n.0, n.1, key_is n.0 n.1 ∙ n.2);
    once = λ m n l h q. distinct_keys table items e (saturated_at sys) m n l h (sym (key_is m (omega arith)) ∙ q ∙ key_is n h);
    behind = ap (drop (length (limit sys) * record_length)) is ∙ drop_at (log_bytes (limit sys)) rest (length (limit sys) * record_length) (length_log (limit sys))
        ∙ ap₂ (λ (a b : ℕ). replicate (a - b) 0) (sym log_size) (length_log (limit sys));
  }

-- ---- what the calls leave
-- the log of an accepted table, by the number of the refusal, which is none of those that change nothing
module _ (table log : List ℕ) where
  finished : (items : List Item) → read table ≡ accepted items → (number : ℕ) → length (limit (saturated_of items)) ≤ capacity (length log) → LogHolds table number (log_after number (records_of (read table)) log)
  unfolding log_after records_of
  finished items e number few f =
      let quiet : changes_nothing number ≡ false = or_left (changes_nothing number) (eqb number 10) f in
      let long : eqb number 10 ≡ false = or_right (changes_nothing number) (eqb number 10) f in
      (items, e, log_demand table items e log (log_after number (records_of (read table)) log) (rw (quiet, long, e) refl) few)

  unfinished : (number : ℕ) (left : List ℕ) → (changes_nothing number || eqb number 10) ≡ true → LogHolds table number left
  unfinished number left y f = absurd (true≢false (sym y ∙ f))

  untouched : (number place : ℕ) (left : List ℕ) → read table ≡ refused number place → LogHolds table number left
  untouched number place left e = unfinished number left (rw (refusal_changes_nothing table number place e) refl)

pub answer_log : (table log scratch : List ℕ) → LogHolds table (refused_by (answer_call table log scratch).answer) (answer_call table log scratch).log
unfolding answer_call answer_given
answer_log table log scratch = go (read table) refl
  where
    go : (r : Reading) → read table ≡ r → LogHolds table (refused_by (answer_given r (length log) (length scratch))) (log_after (refused_by (answer_given r (length log) (length scratch))) (records_of (read table)) log)
    go (refused number place) e = untouched table log number place (log_after number (records_of (read table)) log) e
    go (accepted items) e =
        by_test (ltb (length scratch) (scratch_needed (length log))) (λ y. rw y (unfinished table log 15 _ refl))
        (λ n. rw n (by_test (ltb (capacity (length log)) (length (limit (saturated_of items)))) (λ y. rw y (unfinished table log 10 _ refl))
        (λ m. rw m (finished table log items e 0 (ltb-false (capacity (length log)) (length (limit (saturated_of items))) m)))))

pub run_log : (table log scratch page : List ℕ) → LogHolds table (refused_by (run_call table log scratch page).answer) (run_call table log scratch page).log
unfolding run_call run_given
run_log table log scratch page = go (read table) refl
  where
    go : (r : Reading) → read table ≡ r
        → LogHolds table (refused_by (run_given r (length log) (length scratch) (length page))) (log_after (refused_by (run_given r (length log) (length scratch) (length page))) (records_of (read table)) log)
    go (refused number place) e = untouched table log number place (log_after number (records_of (read table)) log) e
    go (accepted items) e =
        by_test (ltb (length scratch) (scratch_needed (length log))) (λ y. rw y (unfinished table log 15 _ refl))
        (λ n. rw n (by_test (ltb (capacity (length log)) (length (limit (saturated_of items)))) (λ y. rw y (unfinished table log 10 _ refl))
        (λ m. rw m (finished table log items e (refused_by (run_verdict (system_of items) (length page) (start_path (saturated_of items)))) (ltb-false (capacity (length log)) (length (limit (saturated_of items))) m)))))
