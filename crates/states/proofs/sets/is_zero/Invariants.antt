-- The bits of all bytes so far are zero exactly where each byte is.
use Rattle.std.proofs.Common.{◌≡◌, ℕ, ◌<◌, get_or}
use Rattle.states.proofs.sets.is_zero.Given as goal

abbrev pub invariant-loop-byte : goal.invariant-loop-byte
invariant-loop-byte l =
    (l.any ≡ 0 → (k : ℕ) → k < l.byte-index → get_or l.bytes k 0 ≡ 0) × (((k : ℕ) → k < l.byte-index → get_or l.bytes k 0 ≡ 0) → l.any ≡ 0)
