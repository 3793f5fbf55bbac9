-- The whole program as one function, from the bytes of its input to the bytes of its output (document 01, "The program").
--   lines_of          the lines of the input, without their newlines
--   word_answers      what the word lines print
--   program_output    the output
-- Assumes nothing.
use Rattle.std.specs.Prelude.{Bool, true, false, List, [], ◌∷◌, ◌++◌, ℕ, eqb, Option, Some, None}
use Rattle.input_lines.specs.Header.{header_of}
use Rattle.output_lines.specs.Text.{newline}
use Rattle.output_lines.specs.Output.{header_line}
use Rattle.lines.specs.Answer.{header_answer, goes_on, word_answer}
use Rattle.input_lines.specs.declared.header.Header.{Header}

-- a byte in front of the lines that follow it: a newline ends a line, any other byte begins or continues one
abbrev pub with_byte : Bool → ℕ → List (List ℕ) → List (List ℕ)
with_byte true b lines = [] ∷ lines
with_byte false b [] = (b ∷ []) ∷ []
with_byte false b (line ∷ lines) = (b ∷ line) ∷ lines

-- "the last newline may be missing; nothing after a final newline is no line"
unfoldable pub lines_of : List ℕ → List (List ℕ)
lines_of [] = []
lines_of (b ∷ bytes) = with_byte (eqb b newline) b (lines_of bytes)

-- "Every other line is one received word."
unfoldable pub word_answers : Header → List (List ℕ) → List ℕ
word_answers h [] = []
word_answers h (word ∷ words) = word_answer h word ++ word_answers h words

abbrev pub words_if : Bool → Option Header → List (List ℕ) → List ℕ
words_if true (Some h) words = word_answers h words
words_if true None words = []
words_if false header words = []

-- "A wrong header (a missing one too) prints `header` and ends; refusals 1 to 3 print `refused N` and end."
unfoldable pub answers_to : List (List ℕ) → List ℕ
answers_to [] = header_line
answers_to (first ∷ words) = header_answer first ++ words_if (goes_on first) (header_of first) words

unfoldable pub program_output : List ℕ → List ℕ
program_output input = answers_to (lines_of input)
