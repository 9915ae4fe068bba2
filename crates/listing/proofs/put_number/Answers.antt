-- The digits put are those of the number, at most 20 (Decimals).
use mathlib.Core.Path.{ap}
use Rattle.listing.proofs.Decimals.{decimal_front, decimal_most}
use Rattle.listing.proofs.Texts.{puts_as}
use native.Mathlib.Omega.{arith}
use lib.ListN.{length}
use Rattle.listing.proofs.put_number.Goals as goal

pub put_bytes-requires : goal.put_bytes-requires
put_bytes-requires c =
    let d = c.decimal-k in
    let n = c.args.n in
    omega (arith, ap length (decimal_front d.result n d.new.out d.ensures.len d.ensures.digits), decimal_most 19 n (omega arith))

pub returns : goal.returns
returns c =
    let d = c.decimal-k in
    let n = c.args.n in
    puts_as 20 c.put_bytes.ensures (decimal_front d.result n d.new.out d.ensures.len d.ensures.digits) (decimal_most 19 n (omega arith))
