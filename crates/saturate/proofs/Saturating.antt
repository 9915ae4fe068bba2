-- Rounds until one adds nothing: the limit.
use mathlib.Core.Path.{◌∙◌, ◌≡◌, ap, ap₂, subst, sym}
use mathlib.Core.List.{List, ◌++◌}
use Prim.Native.Nat.{◌*◌, ◌+◌, ◌-◌, ◌<◌, ◌≤◌, ℕ}
use native.Mathlib.Decide.{dec_lt}
use native.Mathlib.Omega.{arith}
use lib.ListN.{drop, length, length-append, length-drop, take}
use lib.Seq.{take_at}
use borrow.Author.Tests.{le-ltb, lt-ltb}
use Rattle.model.specs.Calls.{capacity}
use Rattle.model.specs.Log.{additions, log_at, saturated_at}
use Rattle.model.specs.Records.{log_bytes, record_length}
use Rattle.model.specs.Systems.{System}
use Rattle.model.proofs.Limit.{ByteSystem, limit_saturated}
use Rattle.model.proofs.Rounds.{before_saturated, limit_longest, rounds_limit}
use Rattle.model.proofs.CopiedTables.{accepted_bytes}
use Rattle.model.proofs.RecordBytes.{length_log}
use Rattle.scratch.specs.Regions.{links_end}
use Rattle.table.specs.declared.Table.{Table}
use Rattle.table.specs.Reading.{Holds, items_in, saturated_in, system_in}
use Rattle.table.proofs.Readings.{holds_complete}
use Rattle.logs.proofs.Rules.{saturated_distinct}
use Rattle.initial.specs.Initial.{initial_count, initial_log}
use Rattle.initial.proofs.RoundZero.{initial_length}
use Rattle.std.specs.Prelude.{Some, None, Ok, Err}
use Rattle.saturate.specs.declared.Full.{Full}
use Rattle.saturate.specs.Adding.{CanHold, HoldsRounds, RoundAdded, Telling}
use Rattle.saturate.specs.Limits.{SaturatedFull, SaturatedLimit}
use Rattle.saturate.specs.Rounds.{Logged, RoundBegins, RoundScratch, ScratchReady}
use Rattle.saturate.proofs.RoundEnds.{Finding, round_length, told_finding}
use Rattle.saturate.proofs.ScratchParts.{rounds_logged}

holds_bytes : (bytes : List ℕ) (t : Table) → Holds bytes t → ByteSystem (saturated_in bytes)
unfolding system_in
holds_bytes bytes t h = accepted_bytes (items_in bytes) (holds_complete bytes t h)

-- the rounds up to k stand, and each added a record
pub record Saturating (table : List ℕ) (t : Table) (n : ℕ) (log₀ s₀ log s : List ℕ) (lo base k : ℕ) : Type 0 where
  pub begins : RoundBegins table t lo base n k log s
  pub growing : (j : ℕ) → j < k → 0 < length (additions (saturated_in table) (log_at (saturated_in table) j))
  pub log_length : length log ≡ length log₀
  pub scratch_length : length s ≡ length s₀

-- a round more
module _ {table : List ℕ} {t : Table} {n : ℕ} {log₀ s₀ log s : List ℕ} {lo base k : ℕ} (h : Saturating table t n log₀ s₀ log s lo base k)
    {r : Telling} {log' s' : List ℕ} (a : RoundAdded (saturated_in table) k log r log') (c : RoundScratch table t base n k log' s s') where
  abbrev sys : System
  sys = saturated_in table

  abbrev news : ℕ
  news = length (additions sys (log_at sys k))

  grown : length (log_at sys (k + 1)) ≡ base + news
  grown = omega (arith, round_length sys k, h.begins.size)

  finding : (x : Telling) → r ≡ x → Finding sys k (length log) x
  finding x e = told_finding sys k (length log) (sym e ∙ a.told)

  pub saturating_full : {e : Full} → r ≡ Err e → SaturatedFull table n log₀ s₀ log' s'
  saturating_full {e = x} e = record {
    over = omega (arith, finding (Err x) e, h.begins.room, limit_longest sys (holds_bytes table t h.begins.holds) (k + 1));
    log_length = a.log_length ∙ h.log_length;
    scratch_length = c.size ∙ h.scratch_length;
  }

  -- it added records
  module _ {count : ℕ} (e : r ≡ Ok (Some count)) where
    told : (count ≡ length (log_at sys (k + 1))) × CanHold sys (k + 1) log × (0 < news)
    told = finding (Ok (Some count)) e

    pub measure_falls : n - count < n - base
    measure_falls = omega (arith, told.0, told.1, told.2, grown, h.begins.room)

    pub saturating_turn : Saturating table t n log₀ s₀ log' s' base count (k + 1)
    saturating_turn = record {
      begins = record {
        holds = h.begins.holds;
        handed = a.left told.1;
        size = told.0;
        late = omega (arith, told.0, told.2, grown, h.begins.late);
        low = omega (arith, told.0, grown);
        last = λ l. h.begins.size ∙ ap (λ (j : ℕ). length (log_at sys j)) (let e : k ≡ k + 1 - 1 = omega arith in e);
        room = h.begins.room ∙ ap capacity (sym a.log_length);
        fits = omega (arith, told.0, told.1, h.begins.room);
        scratch = omega (arith, h.begins.scratch, c.size);
        ringed = c.ringed;
        indexed = c.indexed (omega (arith, told.2, grown)) (omega (arith, told.1, h.begins.room));
        prepared = c.prepared;
      };
      growing = λ j l. elim (dec_lt j k) [
        | yes y ↦ h.growing j y
        | no y ↦ let e : k ≡ j = omega arith in subst (λ (i : ℕ). 0 < length (additions sys (log_at sys i))) e told.2
      ];
      log_length = a.log_length ∙ h.log_length;
      scratch_length = c.size ∙ h.scratch_length;
    }

  -- it added nothing, so all records are in rings
  module _ (e : r ≡ Ok None) where
    last_is : saturated_at sys ≡ k
    last_is = elim (dec_lt k (saturated_at sys)) [
      | yes l ↦ absurd (omega (arith, before_saturated sys k l, finding (Ok None) e))
      | no l ↦ elim (dec_lt (saturated_at sys) k) [
        | yes m ↦ absurd (omega (arith, h.growing (saturated_at sys) m, ap length (limit_saturated sys (holds_bytes table t h.begins.holds))))
        | no m ↦ omega arith
      ]
    ]

    -- the earlier bytes are as they were
    held : HoldsRounds sys k log'
    held = a.earlier ∙ h.begins.handed

    pub saturating_limit : SaturatedLimit table n log₀ s₀ base k log' s'
    saturating_limit = record {
      logged = subst (λ (j : ℕ). Logged (log_at sys j) base log') (sym last_is) (rounds_logged sys k base log' h.begins.size held);
      last_round = sym last_is ∙ sym (rounds_limit sys);
      fits = h.begins.fits;
      linked = (
        record {
          fits = h.begins.fits;
          short = omega (arith, h.begins.room);
          records = omega (arith, h.begins.fits, h.begins.room, a.log_length);
          room = omega (arith, h.begins.scratch, c.size);
        },
        c.ringed,
      );
      log_length = a.log_length ∙ h.log_length;
      scratch_length = c.size ∙ h.scratch_length;
    }

-- ---- round 0
initial_size : (table : List ℕ) (t : Table) → Holds table t → length (log_at (saturated_in table) 0) ≡ initial_count table
initial_size table t holds = initial_length (saturated_in table) (saturated_distinct table t holds)

module _ {table : List ℕ} {t : Table} {n : ℕ} (log s log' s' : List ℕ) (p : Holds table t × (n ≡ capacity (length log)) × (links_end n ≤ length s))
    {count : ℕ} (w : (count ≡ initial_count table) × ((log' ≡ initial_log (saturated_in table) log count n) × (length s' ≡ length s))) where
  size_is : length (log_at (saturated_in table) 0) ≡ count
  size_is = initial_size table t p.0 ∙ sym w.0

  pub initial_full : n < count → SaturatedFull table n log s log' s'
  initial_full y =
      let same : log' ≡ log = rw (lt-ltb n count y) at w.1.0 in
      record {
        over = omega (arith, y, size_is, limit_longest (saturated_in table) (holds_bytes table t p.0) 0);
        log_length = ap length same;
        scratch_length = w.1.1;
      }

  module _ (few : count ≤ n) where
    written_is : log' ≡ log_bytes (log_at (saturated_in table) 0) ++ drop (count * record_length) log
    written_is = rw (le-ltb n count few) at w.1.0

    bytes_long : length (log_bytes (log_at (saturated_in table) 0)) ≡ count * record_length
    bytes_long = length_log (log_at (saturated_in table) 0) ∙ ap (λ (k : ℕ). k * record_length) size_is

    log_kept : length log' ≡ length log
    log_kept = ap length written_is ∙ length-append (log_bytes (log_at (saturated_in table) 0)) (drop (count * record_length) log)
        ∙ omega (arith, p.1, few, bytes_long, length-drop (count * record_length) log)

    -- the scratch has been made ready
    module _ {s'' : List ℕ} (ready : ScratchReady table t n log' s' s'') where
      pub initial_begins : RoundBegins table t 0 count n 0 log' s''
      initial_begins = record {
        holds = p.0;
        handed = ap₂ (λ (m : ℕ) (l : List ℕ). take m l) bytes_long written_is ∙ take_at (log_bytes (log_at (saturated_in table) 0)) (drop (count * record_length) log) (count * record_length) bytes_long;
        size = sym size_is;
        late = omega arith;
        low = omega arith;
        last = λ l. absurd (omega arith);
        room = p.1 ∙ ap capacity (sym log_kept);
        fits = few;
        scratch = omega (arith, p.2, w.1.1, ready.size);
        ringed = ready.ringed;
        indexed = ready.indexed;
        prepared = ready.prepared;
      }
