-- What a line does, by what the program awaits: its header, words, or nothing more.
--   line_says      what a finished line prints
--   phase_after    what is awaited after it
--   last_says      what the end of the input prints, where a text stands before it
--   is_ended       nothing more is answered
-- Assumes nothing.
use Rattle.std.specs.Prelude.{Bool, true, false, List, [], ◌∷◌, ℕ, Option, Some, None}
use Rattle.input_lines.specs.Header.{header_of}
use Rattle.lines.specs.Answer.{header_answer, goes_on, word_answer}
use Rattle.input_lines.specs.declared.header.Header.{Header}
use Rattle.lines.specs.declared.phase.Phase.{Phase}
use Rattle.lines.specs.declared.phase.Phase.TheVariants.{First, Words, Ended}

abbrev pub line_says : Phase → List ℕ → List ℕ
line_says First text = header_answer text
line_says (Words h) text = word_answer h text
line_says Ended text = []

-- words follow under a header alone
abbrev pub words_or_end : Bool → Option Header → Phase
words_or_end true (Some h) = Words h
words_or_end true None = Ended
words_or_end false header = Ended

abbrev pub phase_after : Phase → List ℕ → Phase
phase_after First text = words_or_end (goes_on text) (header_of text)
phase_after (Words h) text = Words h
phase_after Ended text = Ended

-- "the last newline may be missing; nothing after a final newline is no line"; a missing header is as a blank one
abbrev pub last_says : Phase → List ℕ → List ℕ
last_says First text = header_answer text
last_says (Words h) [] = []
last_says (Words h) (b ∷ text) = word_answer h (b ∷ text)
last_says Ended text = []

abbrev pub is_ended : Phase → Bool
is_ended First = false
is_ended (Words h) = false
is_ended Ended = true
