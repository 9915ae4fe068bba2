-- Laws of a set of states in the scratch, and of what stays where other bytes change.
use mathlib.Core.Path.{◌≡◌, ap, sym, ◌∙◌}
use mathlib.Core.Logic.{◌⊎◌, ⊎_elim}
use mathlib.Core.List.{List}
use Prim.Native.Nat.{ℕ, ◌+◌, ◌-◌, ◌<◌, ◌≤◌}
use native.Mathlib.Omega.{arith}
use lib.ListN.{length, get_or, take, drop, length-take, length-drop}
use lib.Seq.{get_or-take, get_or-drop, ext_get_or}
use Rattle.states.specs.StateSets.{set_length, member}
use Rattle.scratch.specs.Regions.{rings_at}
use Rattle.rings.specs.Rings.{OutsideSame}
use Rattle.rings.proofs.Keeping.{ringed_scratch}
use Rattle.table.specs.declared.Table.{Table}
use Rattle.leaders.specs.Leaders.{Linked}
use Rattle.rests.specs.Rests.{set_at, own_number, processes_of_table, RightForLog}

pub length_set_at : (s : List ℕ) (at : ℕ) → at + set_length ≤ length s → length (set_at s at) ≡ set_length
unfolding set_at
length_set_at s at h = simp (length-take, length-drop) (omega arith)

pub byte_set : (s : List ℕ) (at i : ℕ) → i < set_length → get_or (set_at s at) i 0 ≡ get_or s (at + i) 0
unfolding set_at
byte_set s at i h = get_or-take set_length (drop at s) i 0 h ∙ get_or-drop at s i 0

-- a set that is lent
pub set_part : (s : List ℕ) (at : ℕ) → take (at + set_length - at) (drop at s) ≡ set_at s at
unfolding set_at
set_part s at = let e : at + set_length - at ≡ set_length = omega arith in ap (λ (n : ℕ). take n (drop at s)) e

-- ---- where other bytes change
-- rings behind them stay
pub linked_same : {log : List ℕ} {count n width from : ℕ} {s t : List ℕ} → from + width ≤ rings_at → OutsideSame width from s t → Linked log count n s → Linked log count n t
linked_same {log} {count} {n} {s = s} {t} h p l = record {
  room = record { fits = l.room.fits; short = l.room.short; records = l.room.records; room = omega (arith, l.room.room, p.size) };
  ringed = ringed_scratch log count n rings_at s t l.room.fits (λ i a b. p.behind i (omega arith)) l.ringed;
}

-- a set beside them stays
pub set_bytes : (s t : List ℕ) (at : ℕ) → at + set_length ≤ length s → length t ≡ length s → ((i : ℕ) → at ≤ i → i < at + set_length → get_or t i 0 ≡ get_or s i 0) → set_at t at ≡ set_at s at
set_bytes s t at h size same =
    let ls : length (set_at s at) ≡ set_length = length_set_at s at h in
    let lt : length (set_at t at) ≡ set_length = length_set_at t at (omega arith) in
    ext_get_or 0 (set_at t at) (set_at s at) (lt ∙ sym ls) (λ i l.
    let b : i < set_length = omega arith in
    byte_set t at i b ∙ same (at + i) (omega arith) (omega arith) ∙ sym (byte_set s at i b))

pub set_same : {width from : ℕ} {s t : List ℕ} (at : ℕ) → at + set_length ≤ length s → (at + set_length ≤ from) ⊎ (from + width ≤ at) → OutsideSame width from s t → set_at t at ≡ set_at s at
set_same {s = s} {t} at h d p = set_bytes s t at h p.size (λ i a b. ⊎_elim (λ l. p.before i (omega arith)) (λ l. p.behind i (omega arith)) d)

-- and is right as before
pub right_kept : {table : List ℕ} {t : Table} {log : List ℕ} {limit width from : ℕ} {s s' : List ℕ} (at k : ℕ) → at + set_length ≤ length s → (at + set_length ≤ from) ⊎ (from + width ≤ at)
    → OutsideSame width from s s' → RightForLog table t log limit (set_at s at) k → RightForLog table t log limit (set_at s' at) k
right_kept {t = t} at k room d w r round lent g o = ap (λ (members : List ℕ). member members (own_number (processes_of_table t) g)) (set_same at room d w) ∙ r round lent g o
