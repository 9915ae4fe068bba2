-- The bytes that were read are all there are, or as many as change the text (LineTexts), and the text of them is written.
use Rattle.std.proofs.Common.{◌≡◌, ℕ, ◌<◌, ◌≤◌, List, [], ◌++◌, append-nil, length, take, length-take-le, None, Some, Option, IfSome, OnOk, Result, Ok, Err, ap, arith, subst, sym, ◌∙◌}
use Rattle.std.specs.Io.KnownBytes.{Appends, Consumes, IsAtEnd}
use lib.Dec.{ltb}
use lib.Seq.{take_at}
use borrow.Author.Tests.{ltb-false, ltb-true}
use Rattle.model.proofs.Tests.{by_test}
use Rattle.listing.specs.LineText.{line_text}
use Rattle.listing.proofs.LineTexts.{line_buffer}
use Rattle.line.proofs.serve.Goals as goal

same_text : (buffer input rest : List ℕ) (n : ℕ) → input ≡ take n buffer ++ rest → (n < length buffer → rest ≡ []) → n ≤ length buffer → length buffer ≡ 65536 → line_text (take n buffer) ≡ line_text input
same_text buffer input rest n e ends within size = by_test (ltb n 65536)
    (λ y. let all : input ≡ take n buffer = e ∙ ap (λ (l : List ℕ). take n buffer ++ l) (ends (omega (arith, ltb-true n 65536 y))) ∙ append-nil (take n buffer) in ap line_text (sym all))
    (λ m. let front : take 65536 input ≡ take n buffer = ap (take 65536) e ∙ take_at (take n buffer) rest 65536 (length-take-le n buffer within ∙ omega (arith, ltb-false n 65536 m)) in
    ap line_text (sym front) ∙ line_buffer input)

text_written : {A E : Type 0} (r : Result A E) (first left : Option (List ℕ)) (old new : Option (List ℕ)) (buffer text : List ℕ) (n : ℕ)
    → Consumes first left (take n buffer) → (n < length buffer → IsAtEnd left) → n ≤ length buffer → length buffer ≡ 65536 → text ≡ line_text (take n buffer)
    → OnOk r (Appends old new text) → OnOk r (IfSome first (λ input. Appends old new (line_text input)))
text_written (Err e) first left old new buffer text n p q h s t w = tt
text_written (Ok x) None left old new buffer text n p q h s t w = tt
text_written (Ok x) (Some input) None old new buffer text n p q h s t w = absurd p
text_written (Ok x) (Some input) (Some rest) old new buffer text n p q h s t w = subst (Appends old new) (t ∙ same_text buffer input rest n p q h s) w

pub returns : goal.returns
returns g c =
    text_written c.write_all.result _ _ _ _ c.fill.new.buffer _ c.in_ok-n.n c.in_ok-n.ensures.bytes c.in_ok-n.ensures.whole c.in_ok-n.ensures.in_bounds.0 (omega arith) c.respond-end.ensures.0 c.write_all.ensures.bytes
