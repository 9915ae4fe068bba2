-- A buffer whose rest was lent and comes back as zeros.
use mathlib.Core.Path.{◌≡◌, ap, ◌∙◌}
use mathlib.Core.List.{List, ◌++◌}
use Prim.Native.Nat.{ℕ, ◌-◌, ◌*◌, ◌<◌}
use native.Mathlib.Omega.{arith}
use lib.ListN.{length, get_or, take, replicate, length-append, get_or-append}
use lib.Seq.{get_or-take, length-take-le}
use Rattle.model.specs.Records.{record_length, letter_at}
use Rattle.numbers.proofs.NumberBytes.{number_same}
use Rattle.scratch.specs.Regions.{rings_at}
use Rattle.packs.specs.Packs.{packed_before}
use Rattle.rings.proofs.Keeping.{ringed_log}
use Rattle.leaders.specs.Leaders.{Linked}

-- zeros behind the records leave their rings as they are
pub linked_cleared : {log log' : List ℕ} {count n : ℕ} {s : List ℕ} → log' ≡ take (count * record_length) log ++ replicate (length log - count * record_length) 0
    → Linked log count n s → Linked log' count n s
unfolding letter_at packed_before
linked_cleared {log} {log'} {count} {n} {s} e w = record {
  room = record { fits = w.room.fits; short = w.room.short; records = omega (arith, ap length e, length-append front rest, long); room = w.room.room };
  ringed = ringed_log log log' count n rings_at s (λ r l. byte (r * record_length) (omega arith))
      (λ r l. number_same 4 log log' _ (λ m p q. byte m (omega arith))) w.room.fits w.ringed;
}
  where
    front : List ℕ
    front = take (count * record_length) log

    rest : List ℕ
    rest = replicate (length log - count * record_length) 0

    long : length front ≡ count * record_length
    long = length-take-le (count * record_length) log w.room.records

    byte : (i : ℕ) → i < count * record_length → get_or log' i 0 ≡ get_or log i 0
    byte i h = ap (λ (l : List ℕ). get_or l i 0) e ∙ get_or-append front rest 0 i (omega (arith, long)) ∙ get_or-take (count * record_length) log i 0 h
