-- No number before n is a member (StateSets).
use Prim.Native.Nat.{◌/◌}
use native.Mathlib.Omega.{arith}
use Rattle.states.proofs.StateSets.{fails_byte, fails_join, found_bit, next_is}
use Rattle.states.proofs.sets.next_member.Goals as goal

pub returns-then-byte-ne0 : goal.returns-then-byte-ne0
returns-then-byte-ne0 c =
    let n = c.loop-n in
    found_bit _ _ n.n n.invariant.0 (omega arith) n.invariant.2 (omega (arith, c.type_inv.members (n.n / 8))) (omega arith)

pub loop-n-preserved : goal.loop-n-preserved
loop-n-preserved c =
    let n = c.loop-n in
    (omega arith, omega arith, fails_join _ _ n.n _ n.invariant.2 (fails_byte _ n.n c.if-byte-ne0.false))

pub returns : goal.returns
returns c =
    let n = c.loop-n in
    next_is _ _ n.n (record { low = n.invariant.0; high = omega arith; passes = λ h. absurd (omega arith); fails = n.invariant.2 })
