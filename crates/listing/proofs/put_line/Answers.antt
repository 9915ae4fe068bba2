-- Head, digits and the line's end stand one behind the other (Texts).
use Prim.Native.Nat.{◌+◌}
use Rattle.listing.specs.Listing.{line}
use Rattle.listing.proofs.Texts.{puts_then}
use native.Mathlib.Omega.{arith}
use lib.ListN.{length}
use Rattle.listing.proofs.put_line.Goals as goal

pub returns : goal.returns
unfolding line
returns c =
    let n = length c.args.head.now in
    puts_then (n + 21) (puts_then (n + 20) c.put_bytes-number.ensures c.put_number-end.ensures (omega arith) (omega arith)) c.put_bytes.ensures (omega arith) (omega arith)
