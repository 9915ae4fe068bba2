-- Document 01, "Small tables": what the program `line` writes for an input.
use Rattle.std.specs.Prelude.{◌≡◌, List, ℕ, ◌*◌, length, replicate}
use Rattle.model.specs.Records.{record_length}
use Rattle.model.specs.Calls.{answer_call, run_call, scratch_for}
use Rattle.listing.specs.Listing.{listing}

-- the answer call's verdict, and the run call's figures and page, with buffers of these lengths
unfoldable pub text_with : List ℕ → List ℕ → List ℕ → List ℕ → List ℕ
text_with input log scratch page =
    listing (answer_call input log scratch).answer (run_call input log scratch page).answer
    (run_call input log scratch page).page

-- "log 2,000 records, page 10,000", and the scratch that check 15 asks for
abbrev pub line_records : ℕ
line_records = 2000

abbrev pub line_log : List ℕ
line_log = replicate (line_records * record_length) 0

abbrev pub line_scratch : List ℕ
line_scratch = replicate (scratch_for line_records) 0

abbrev pub line_page : List ℕ
line_page = replicate 10000 0

unfoldable pub line_text : List ℕ → List ℕ
line_text input = text_with input line_log line_scratch line_page

-- buffers of these lengths, whatever they hold
pub record Lent (log scratch page : List ℕ) : Type 0 where
  pub log_length : length log ≡ line_records * record_length
  pub scratch_length : length scratch ≡ scratch_for line_records
  pub page_length : length page ≡ 10000
