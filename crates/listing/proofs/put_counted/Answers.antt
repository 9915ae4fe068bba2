-- The verdict's line and the two lines of figures stand one behind the other (Texts).
use Prim.Native.Nat.{◌+◌}
use Rattle.listing.specs.Listing.{counted}
use Rattle.listing.proofs.Texts.{puts_then}
use native.Mathlib.Omega.{arith}
use lib.ListN.{length}
use Rattle.listing.proofs.put_counted.Goals as goal

pub returns : goal.returns
unfolding counted
returns c =
    let v = length c.args.verdict.now in
    puts_then (v + 61) (puts_then (v + 33) c.put_bytes-second.ensures c.put_line-third.ensures (omega arith) (omega arith)) c.put_line.ensures (omega arith) (omega arith)
