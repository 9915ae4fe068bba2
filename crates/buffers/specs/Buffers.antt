-- Buffers after bytes were cleared or moved.
use Rattle.std.specs.Prelude.{◌≡◌, List, ◌++◌, ℕ, ◌<◌, ◌≤◌, drop, get_or, length, take}

-- bytes from lo on and below hi are zero, the others as they were
pub record Cleared (lo hi : ℕ) (s s' : List ℕ) : Type 0 where
  pub size : length s' ≡ length s
  pub zero : (i : ℕ) → lo ≤ i → i < hi → get_or s' i 0 ≡ 0
  pub before : (i : ℕ) → i < lo → get_or s' i 0 ≡ get_or s i 0
  pub behind : (i : ℕ) → hi ≤ i → get_or s' i 0 ≡ get_or s i 0

-- the first bytes are those from `from` on, as many as `count`; the others stay
unfoldable pub fronted : List ℕ → ℕ → ℕ → List ℕ
fronted l from count = take count (drop from l) ++ drop count l
