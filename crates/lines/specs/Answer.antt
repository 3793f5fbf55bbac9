-- What each line prints, for texts of any length (document 01, "The program"). Everything here computes.
--   refusal_of h         the refusal that a header meets, 0 for none
--   header_says header   what a first line prints that is this header, or none: nothing where words follow
--   header_answer text   what the first line prints
--   goes_on text         words follow
--   word_answer h text   what a word line prints under the header h: soft_answer, by the values that it holds
-- Assumes nothing.
use Rattle.std.specs.Prelude.{Bool, false, cond, List, [], ℕ, eqb, Option, Some, None, ℤ, take, replicate}
use Rattle.words.specs.Packing.{bytes_of}
use Rattle.frame.specs.Refusal.{header_refusal}
use Rattle.decode.specs.Call.{Call, Result}
use Rattle.decode.specs.Called.{result_of}
use Rattle.input_lines.specs.Header.{header_of}
use Rattle.input_lines.specs.WordLine.{values_of}
use Rattle.output_lines.specs.Output.{header_line, line_line, refused_line, ok_line}
use Rattle.input_lines.specs.declared.header.Header.{Header}

-- "refusals 1 to 3", those of decode that the header decides; 0 for none
abbrev pub refusal_of : Header → ℕ
refusal_of h = header_refusal h.m h.t h.s h.order

-- "A wrong header (a missing one too) prints `header` and ends; refusals 1 to 3 print `refused N` and end."
unfoldable pub header_says : Option Header → List ℕ
header_says None = header_line
header_says (Some h) = cond (eqb (refusal_of h) 0) [] (refused_line (refusal_of h))

unfoldable pub header_answer : List ℕ → List ℕ
header_answer text = header_says (header_of text)

unfoldable pub header_goes_on : Option Header → Bool
header_goes_on None = false
header_goes_on (Some h) = eqb (refusal_of h) 0

abbrev pub goes_on : List ℕ → Bool
goes_on text = header_goes_on (header_of text)

-- the call that a word line asks for; its buffer has 8 bytes, room for any word
abbrev pub call_of : Header → List ℤ → Call
call_of h soft = record { m = h.m; t = h.t; s = h.s; order = h.order; soft = soft; before = replicate 8 0 }

-- "Otherwise it prints `ok WORD distance flips candidates` .. or `refused N`."
unfoldable pub result_line : ℕ → Result → List ℕ
result_line m r =
    cond (eqb r.answer.refusal 0)
    (ok_line (take (bytes_of m) r.after) r.answer.distance r.answer.flips r.answer.candidates)
    (refused_line r.answer.refusal)

abbrev pub soft_answer : Header → Option (List ℤ) → List ℕ
soft_answer h None = line_line
soft_answer h (Some soft) = result_line h.m (result_of (call_of h soft))

-- "A wrong or too long word line, a blank one, or a value outside -128 to 127 prints `line`"
unfoldable pub word_answer : Header → List ℕ → List ℕ
word_answer h text = soft_answer h (values_of text)
