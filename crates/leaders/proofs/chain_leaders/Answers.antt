-- The leaders from r on are chained (Chaining).
use native.Mathlib.Omega.{arith}
use Rattle.numbers.proofs.NumberBytes.{AllBytes}
use Rattle.leaders.proofs.Chains.{linked_outside, outside_firsts, outside_leaders_join}
use Rattle.leaders.proofs.Chaining.{chaining_turn}
use Rattle.leaders.proofs.chain_leaders.Goals as goal

pub chain-requires : goal.chain-requires
chain-requires c =
    let t = c.loop-r in
    let same = outside_leaders_join (outside_firsts c.args.n c.unlink.ensures.same) t.invariant.outside in
    (linked_outside same c.requires.0, omega (arith, t.invariant.within), omega (arith, c.requires.1, same.size))

pub loop-r-preserved : goal.loop-r-preserved
loop-r-preserved c =
    let same = outside_firsts c.args.n c.unlink.ensures.same in
    let rings = (linked_outside same c.requires.0).room in
    let bytes : AllBytes c.args.log.now = λ m. omega (arith, c.type_inv.log m) in
    rw c.chain.ensures (chaining_turn rings (omega (arith, c.requires.1, same.size)) bytes (omega arith) c.loop-r.invariant)
