-- What the machine reads back from the bits of a signed number.
use mathlib.Core.Path.{◌≡◌}
use lib.IntN.{ℤ}
use mir.Syntax.{w64}
use mir.Val.{SFits, to_z, of_z}
use mir.Facts.{to_z-of_z}

abbrev pub read_back : ℤ → ℤ
read_back z = to_z w64 (of_z w64 z)

pub read_back_lem : {z : ℤ} → SFits w64 z → read_back z ≡ z
read_back_lem f = to_z-of_z f
