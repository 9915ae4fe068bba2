-- The words and digits of the refusal stand one behind the other (Texts).
use Rattle.listing.specs.Listing.{refused_line}
use Rattle.listing.proofs.Texts.{puts_then}
use native.Mathlib.Omega.{arith}
use Rattle.listing.proofs.put_refused.Goals as goal

pub returns : goal.returns
unfolding refused_line
returns c =
    puts_then 53 (puts_then 28 c.put_bytes-digits.ensures c.put_number-rest.ensures (omega arith) (omega arith)) c.put_line.ensures (omega arith) (omega arith)
