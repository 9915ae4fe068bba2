-- The bits of all bytes so far are zero exactly where each byte is.
use Rattle.std.proofs.Common.{ap₂, arith}
use borrow.Author.Count.{below_more}
use Rattle.std.specs.Int.Bits.{bit_or}
use Rattle.states.proofs.StateSets.{or_zero}
use Rattle.states.proofs.sets.is_zero.Goals as goal

pub loop-byte-preserved : goal.loop-byte-preserved
loop-byte-preserved c = (
  (λ e.
      let z = or_zero c.loop-byte.any _ e in
      below_more _ c.loop-byte.byte-index (c.loop-byte.invariant.0 z.0) z.1),
  λ h. ap₂ bit_or (c.loop-byte.invariant.1 (λ k l. h k (omega arith))) (h c.loop-byte.byte-index (omega arith)),
)
