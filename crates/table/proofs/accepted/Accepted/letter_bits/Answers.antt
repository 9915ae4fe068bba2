-- The letter's byte is at most 15, and its bits are the processes of the system's letter (Layouts).
use mathlib.Core.List.{List}
use mathlib.Core.Path.{sym, ◌∙◌, ap}
use Prim.Native.Nat.{ℕ}
use native.Mathlib.Omega.{arith}
use Rattle.model.specs.Groups.{Processes, processes_of}
use Rattle.model.specs.Tables.{byte_of}
use Rattle.table.proofs.Layouts.{table_heads, loc_is, letter_body, bits_small}
use Rattle.table.proofs.accepted.Accepted.letter_bits.Goals as goal

pub bits_of-requires : goal.bits_of-requires
bits_of-requires c = (table_heads c.args.self.now.bytes.now c.args.self.now.counts c.args.self.now.holds, c.requires)

pub returns : goal.returns
returns c =
    let x = c.args in
    let b = ap (λ (l : List ℕ). byte_of l 0) (letter_body x.self.now.bytes.now x.self.now.counts c.args.self.now.holds x.a c.requires) in
    record {
      same = ap processes_of c.bits_of.ensures ∙ sym (ap (λ (f : ℕ → Processes). f x.a) (loc_is x.self.now.bytes.now x.self.now.counts c.args.self.now.holds));
      small = omega (arith, c.bits_of.ensures, b, bits_small x.self.now.bytes.now x.self.now.counts c.args.self.now.holds x.a c.requires);
    }
