-- Numbers in a list of bytes, the low byte first. How they are read is the model's numberAt.
use Rattle.std.specs.Prelude.{List, ℕ}
use Rattle.std.proofs.lemmas.List.Edits.{sets}
use Rattle.model.specs.Records.{little_endian}

-- the list with x in the k bytes from i on
unfoldable pub with_number : ℕ → List ℕ → ℕ → ℕ → List ℕ
with_number k s i x = sets s i (little_endian k x)
