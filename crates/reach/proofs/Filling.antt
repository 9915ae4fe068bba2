-- The log that saturation leaves, as answer and run hand it on.
use mathlib.Core.Path.{◌∙◌, ◌≡◌, ap, ap₂, sym}
use mathlib.Core.List.{List, ◌++◌}
use Prim.Native.Nat.{◌*◌, ◌-◌, ◌≤◌, ℕ}
use native.Mathlib.Omega.{arith}
use lib.ListN.{length, length-append, length-replicate, replicate, take}
use Rattle.model.specs.Calls.{zeros}
use Rattle.model.specs.Log.{limit, saturated_at}
use Rattle.model.specs.Records.{log_bytes, record_length}
use Rattle.model.specs.Systems.{System}
use Rattle.model.proofs.Closing.{zeros_same}
use Rattle.model.proofs.Rounds.{rounds_limit, rounds_short}
use Rattle.model.proofs.RecordBytes.{length_log}
use Rattle.table.specs.declared.Table.{Table}
use Rattle.table.specs.Reading.{Holds, saturated_in}
use Rattle.logs.proofs.Logs.{log_fits}
use Rattle.saturate.specs.Limits.{SaturatedFull, SaturatedLimit}
use Rattle.verdict.proofs.Clearing.{linked_cleared}
use Rattle.reach.specs.Outcomes.{LimitLeft, NoneLeft, Roomy}

pub none_left : {table : List ℕ} {n : ℕ} {log scratch log₁ scratch₁ log₂ scratch₂ : List ℕ} → SaturatedFull table n log scratch log₁ scratch₁ → log₂ ≡ zeros log₁ → scratch₂ ≡ zeros scratch₁
    → NoneLeft table n log scratch log₂ scratch₂
none_left {log = log} {scratch = scratch} {log₁ = log₁} {scratch₁ = scratch₁} full p q =
    record { over = full.over; log_left = p ∙ zeros_same log₁ log full.log_length; scratch_left = q ∙ zeros_same scratch₁ scratch full.scratch_length }

module _ {table : List ℕ} {t : Table} (holds : Holds table t) {n : ℕ} {log scratch : List ℕ} (roomy : Roomy n log scratch) {count most : ℕ} {log₁ scratch₁ : List ℕ}
    (whole : SaturatedLimit table n log scratch count most log₁ scratch₁) where
  abbrev sys : System
  sys = saturated_in table

  pub behind_room : count * record_length ≤ length log₁
  behind_room = omega (arith, whole.fits, whole.log_length, roomy.log_room)

  count_is : length (limit sys) ≡ count
  count_is = sym whole.logged.size

  bytes_long : length (log_bytes (limit sys)) ≡ count * record_length
  bytes_long = length_log (limit sys) ∙ ap (λ (k : ℕ). k * record_length) count_is

  few_rounds : saturated_at sys ≤ 65535
  few_rounds = omega (arith, rounds_short sys, count_is, whole.fits, roomy.log_room)

  pub limit_left : {log₂ : List ℕ} → log₂ ≡ take (count * record_length) log₁ ++ replicate (length log₁ - count * record_length) 0
      → LimitLeft table t log scratch (record { room = n; count = count; rounds = most }) log₂ scratch₁
  limit_left {log₂} p =
      let is : log₂ ≡ log_bytes (limit sys) ++ replicate (length log₁ - count * record_length) 0 = p ∙ ap (λ (l : List ℕ). l ++ replicate (length log₁ - count * record_length) 0) whole.logged.bytes in
      record {
        roomy = roomy;
        settled = record {
          log_of = record {
            holds = holds;
            rest = replicate (length log₁ - count * record_length) 0;
            logged = is;
            fits = log_fits table t holds (saturated_at sys) few_rounds (omega (arith, count_is, whole.fits, roomy.log_room));
            size = count_is;
            short = omega (arith, whole.fits, roomy.log_room);
          };
          linked = linked_cleared p (record { room = whole.linked.0; ringed = whole.linked.1 });
          room = omega (arith, roomy.scratch_room, whole.scratch_length);
          highest = whole.last_round;
        };
        log_left = is ∙ ap₂ (λ (a b : ℕ). log_bytes (limit sys) ++ replicate (a - b) 0) whole.log_length (sym bytes_long);
        log_length = ap length is ∙ length-append (log_bytes (limit sys)) (replicate (length log₁ - count * record_length) 0) ∙ omega (arith, bytes_long, length-replicate {A = ℕ} (length log₁ - count * record_length) 0, behind_room, whole.log_length);
        scratch_length = whole.scratch_length;
      }

  -- the highest round is a number of a record
  pub rounds_few : most ≤ 65535
  rounds_few = omega (arith, whole.last_round, rounds_limit sys, rounds_short sys, count_is, whole.fits, roomy.log_room)
