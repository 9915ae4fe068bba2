-- Laws of the state as one number: what reads there, where a record leads, and back.
use mathlib.Core.Path.{◌≡◌, ap, ap₂, sym, ◌∙◌}
use mathlib.Core.Bool.{true}
use mathlib.Core.List.{List}
use Prim.Native.Nat.{ℕ, ◌*◌, ◌+◌}
use native.Mathlib.Omega.{arith}
use Rattle.model.specs.declared.Group.{Group}
use Rattle.model.specs.Groups.{Processes, p0, p1, p2, p3, Within, restrict, merge}
use Rattle.model.specs.Records.{record_length, after_at}
use Rattle.model.proofs.Groups.{merge_merge, merge_restrict, merge_self, merge_within}
use Rattle.states.specs.StateNumbers.{Over}
use Rattle.packs.specs.Packs.{Bytes, packed, mask_of, packed_restrict, packed_merge, packed_number, packed_before, packed_after}
use Rattle.packs.proofs.Packs.{restrict_bits, merge_bits, pack_group, pack_number}
use Rattle.packs.proofs.Unpacked.{restrict_bytes, merge_bytes}
use Rattle.rings.specs.Rings.{record_reads}
use Rattle.rings.proofs.Links.{reads_parts}
use Rattle.table.specs.declared.Table.{Table}
use Rattle.table.specs.Reading.{system_in, pile_in}
use Rattle.logs.proofs.Logs.{over_byte}
use Rattle.rests.specs.Rests.{processes_of_table, no_states, zeroed_group, own_number}
use Rattle.attempts.specs.declared.Stand.{Stand}
use Rattle.attempts.specs.Attempts.{state_by}
use Rattle.attempts.specs.Turns.{reads_here, reads_in}

no_bytes : Bytes no_states
no_bytes p0 = omega arith
no_bytes p1 = omega arith
no_bytes p2 = omega arith
no_bytes p3 = omega arith

pub zeroed_bytes : (L : Processes) (g : Group) → Over L g → Bytes (zeroed_group L g)
zeroed_bytes L g o = merge_bytes L g no_states (over_byte L g o) no_bytes

after_packed : (log : List ℕ) (r : ℕ) → packed_after log r ≡ packed (after_at log r)
unfolding packed_after after_at
after_packed log r = pack_group log (r * record_length + 5)

-- the number of a state in the sets
pub own_packed : (L : Processes) (g : Group) (m : ℕ) → Over L g → m ≡ packed (zeroed_group L g) → packed_number m ≡ own_number L g
unfolding own_number
own_packed L g m o e = ap packed_number e ∙ pack_number (zeroed_group L g) (zeroed_bytes L g o)

module _ (table : List ℕ) (t : Table) (log : List ℕ) (x : Stand) (letter : x.letter ≡ pile_in table x.place) (mask : x.mask ≡ mask_of ((system_in table).loc (pile_in table x.place))) where
  abbrev own : Processes
  own = (system_in table).loc (pile_in table x.place)

  abbrev all : Processes
  all = processes_of_table t

  module _ (g : Group) (o : Over (processes_of_table t) g) where
    -- what reads where it stands
    pub reads_here_lem : x.state ≡ packed (zeroed_group (processes_of_table t) g) → (r : ℕ) → reads_here log x r ≡ reads_in table t log x.place g r
    reads_here_lem e r =
        ap₂ (λ (a m : ℕ). record_reads log a m r) letter
        (ap₂ (λ (a m : ℕ). packed_restrict a m) mask e ∙ restrict_bits own (zeroed_group all g) (zeroed_bytes all g o))

    module _ (within : Within ((system_in table).loc (pile_in table x.place)) (processes_of_table t)) (r : ℕ) (small : Bytes (after_at log r)) where
      -- after record r its states after are taken over
      moved : zeroed_group (processes_of_table t) (state_by table log x.place r g) ≡ merge ((system_in table).loc (pile_in table x.place)) (after_at log r) (zeroed_group (processes_of_table t) g)
      moved = merge_within all own (after_at log r) g no_states within

      pub state_on : x.state ≡ packed (zeroed_group (processes_of_table t) g)
          → packed_merge x.mask (packed_after log r) x.state ≡ packed (zeroed_group (processes_of_table t) (state_by table log x.place r g))
      state_on e =
          ap₂ (λ (a m : ℕ). packed_merge a (packed_after log r) m) mask e
          ∙ ap (λ (m : ℕ). packed_merge (mask_of own) m (packed (zeroed_group all g))) (after_packed log r)
          ∙ merge_bits own (after_at log r) (zeroed_group all g) small (zeroed_bytes all g o)
          ∙ ap packed (sym moved)

      -- and before it its states before
      pub state_back : (m : ℕ) → m ≡ packed (zeroed_group (processes_of_table t) (state_by table log x.place r g)) → reads_in table t log x.place g r ≡ true
          → packed_merge x.mask (packed_before log r) m ≡ packed (zeroed_group (processes_of_table t) g)
      state_back m e y =
          let z = zeroed_group all g in
          let bytes = zeroed_bytes all g o in
          ap₂ (λ (a k : ℕ). packed_merge a (packed_before log r) k) mask (e ∙ ap packed moved)
          ∙ ap (λ (k : ℕ). packed_merge (mask_of own) k (packed (merge own (after_at log r) z))) (reads_parts log (pile_in table x.place) (packed (restrict own z)) r y).1
          ∙ merge_bits own (restrict own z) (merge own (after_at log r) z) (restrict_bytes own z bytes) (merge_bytes own (after_at log r) z small bytes)
          ∙ ap packed (merge_restrict own z (merge own (after_at log r) z) ∙ merge_merge own z (after_at log r) z ∙ merge_self own z)
