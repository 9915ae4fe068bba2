-- Demand 3 of the text: what it tells whose first line is a verdict.
use mathlib.Core.Path.{◌≡◌, ap}
use mathlib.Core.List.{List, ◌++◌}
use Prim.Native.Nat.{ℕ}
use native.Mathlib.Omega.{arith}
use lib.ListN.{get_or, take}
use Rattle.std.specs.Prelude.{Result, Ok, Err}
use Rattle.model.specs.declared.Refusal.{Refusal}
use Rattle.model.specs.declared.Verdict.{Verdict}
use Rattle.model.specs.Calls.{answer_call}
use Rattle.model.specs.Demands.{NoRun, SomeRun, Tells}
use Rattle.model.specs.Tables.{Item, accepted, read, system_of}
use Rattle.model.proofs.Meanings.{answer_tells}
use Rattle.listing.specs.LineText.{line_log, line_scratch, line_text, text_with}
use Rattle.listing.specs.Listing.{answer_lines, ascii, counted, line, listing, refused_line}

-- the texts of the verdicts and of a refusal differ at their first or eighth byte
module _ (input rest : List ℕ) where
  tells_unreachable : (x : Result Verdict Refusal) → Tells input x → take 18 (answer_lines x ++ rest) ≡ ascii "answer unreachable" → (items : List Item) × (read input ≡ accepted items) × NoRun (system_of items)
  unfolding answer_lines counted line refused_line
  tells_unreachable (Ok (Verdict.Reachable t r s)) m e = absurd (omega (arith, ap (λ (l : List ℕ). get_or l 7 0) e))
  tells_unreachable (Ok (Verdict.Unreachable t r)) m e = m
  tells_unreachable (Err r) m e = absurd (omega (arith, ap (λ (l : List ℕ). get_or l 0 0) e))

  tells_reachable : (x : Result Verdict Refusal) → Tells input x → take 16 (answer_lines x ++ rest) ≡ ascii "answer reachable" → (items : List Item) × (read input ≡ accepted items) × SomeRun (system_of items)
  unfolding answer_lines counted line refused_line
  tells_reachable (Ok (Verdict.Reachable t r s)) m e = m
  tells_reachable (Ok (Verdict.Unreachable t r)) m e = absurd (omega (arith, ap (λ (l : List ℕ). get_or l 7 0) e))
  tells_reachable (Err r) m e = absurd (omega (arith, ap (λ (l : List ℕ). get_or l 0 0) e))

-- "answer unreachable": the input is an accepted table, and no finite run joins its start and its watched set
pub text_unreachable : (input : List ℕ) → take 18 (line_text input) ≡ ascii "answer unreachable" → (items : List Item) × (read input ≡ accepted items) × NoRun (system_of items)
unfolding line_text text_with listing
text_unreachable input e = tells_unreachable input _ (answer_call input line_log line_scratch).answer (answer_tells input line_log line_scratch) e

-- "answer reachable": some run does
pub text_reachable : (input : List ℕ) → take 16 (line_text input) ≡ ascii "answer reachable" → (items : List Item) × (read input ≡ accepted items) × SomeRun (system_of items)
unfolding line_text text_with listing
text_reachable input e = tells_reachable input _ (answer_call input line_log line_scratch).answer (answer_tells input line_log line_scratch) e
