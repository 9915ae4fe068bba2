-- The digits behind the space are at most 5 (Decimals).
use mathlib.Core.Path.{refl}
use Rattle.listing.proofs.Decimals.{decimal_most}
use Rattle.listing.proofs.Texts.{puts_as, puts_then}
use native.Mathlib.Omega.{arith}
use Rattle.listing.proofs.put_rule.Goals as goal

pub returns : goal.returns
returns c =
    puts_as 6 (puts_then 21 c.put_bytes-digits.ensures c.put_number.ensures (omega arith) (omega arith)) refl (omega (arith, decimal_most 4 c.args.rule (omega arith)))
