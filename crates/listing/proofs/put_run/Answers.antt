-- The word `run`, the rules and the line's end stand one behind the other (Texts).
use Prim.Native.Nat.{◌+◌, ◌*◌}
use Rattle.listing.specs.Listing.{run_line}
use Rattle.listing.proofs.Texts.{puts_then}
use native.Mathlib.Omega.{arith}
use lib.ListN.{length}
use Rattle.listing.proofs.put_run.Goals as goal

pub returns : goal.returns
unfolding run_line
returns c =
    let n = length c.args.rules.now in
    puts_then (6 * n + 4) (puts_then (6 * n + 3) c.put_bytes-first.ensures c.put_rules-end.ensures (omega arith) (omega arith)) c.put_bytes.ensures (omega arith) (omega arith)
