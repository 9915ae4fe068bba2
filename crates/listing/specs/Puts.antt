-- What a function leaves that puts a text into a lent buffer.
use Rattle.std.specs.Prelude.{◌≡◌, List, ◌++◌, ℕ, ◌+◌, ◌≤◌, length, take, drop}

-- the buffer with a text from a place on: what stands before and behind the text is unchanged
unfoldable pub with_text : List ℕ → ℕ → List ℕ → List ℕ
with_text buffer at text = take at buffer ++ (text ++ drop (at + length text) buffer)

-- a text of at most so many bytes was put into the buffer; r is the place after it
pub record Puts (buffer : List ℕ) (at : ℕ) (text : List ℕ) (most r : ℕ) (buffer' : List ℕ) : Type 0 where
  pub contents : buffer' ≡ with_text buffer at text
  pub next : r ≡ at + length text
  pub short : length text ≤ most
  pub size : length buffer' ≡ length buffer
