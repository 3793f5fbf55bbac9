-- What the program will still print is what a byte prints at once and what it will still print after that byte.
--   lines_say     what lines print, by what is awaited
--   join_first    the lines that follow, where a text stands in front of the first
--   still        what will be printed, by what is remembered and what is still to come
-- Assumes nothing.
use mathlib.Core.Path.{◌≡◌, refl, ap, ap₂, sym, ◌∙◌}
use mathlib.Core.Bool.{Bool, true, false}
use mathlib.Core.List.{List, [], ◌∷◌, ◌++◌, append-nil, append_assoc}
use Prim.Native.Nat.{ℕ}
use lib.Dec.{eqb}
use Rattle.std.specs.Prelude.{Option, Some, None}
use Rattle.input_lines.specs.Header.{header_of}
use Rattle.lines.specs.Answer.{header_answer, goes_on, word_answer}
use Rattle.input_lines.specs.declared.header.Header.{Header}
use Rattle.lines.proofs.AnswerLaws.{missing_header}
use Rattle.output_lines.specs.Text.{newline}
use Rattle.lines.specs.Program.{with_byte, lines_of, word_answers, words_if, answers_to, program_output}
use Rattle.lines.specs.Awaited.{line_says, words_or_end, phase_after, last_says}
use Rattle.lines.specs.Memory.{Memory, start, kept, says_if, byte_says, after_if, after_byte, block_says, after_block, end_says}
use Rattle.lines.specs.declared.phase.Phase.{Phase}
use Rattle.lines.specs.declared.phase.Phase.TheVariants.{First, Words, Ended}
use Rattle.lines.proofs.KeptLaws.{line_kept, phase_kept, last_kept, kept_again}

abbrev lines_say : Phase → List (List ℕ) → List ℕ
lines_say First lines = answers_to lines
lines_say (Words h) lines = word_answers h lines
lines_say Ended lines = []

words_or_end_lem : (b : Bool) (h : Option Header) (lines : List (List ℕ)) → lines_say (words_or_end b h) lines ≡ words_if b h lines
words_or_end_lem true (Some h) lines = refl
words_or_end_lem true None lines = refl
words_or_end_lem false h lines = refl

-- a line, and those after it
say_line : (phase : Phase) (line : List ℕ) (lines : List (List ℕ))
    → lines_say phase (line ∷ lines) ≡ line_says phase line ++ lines_say (phase_after phase line) lines
unfolding answers_to word_answers
say_line First line lines = ap (λ (l : List ℕ). header_answer line ++ l) (sym (words_or_end_lem (goes_on line) (header_of line) lines))
say_line (Words h) line lines = refl
say_line Ended line lines = refl

abbrev join_first : List ℕ → List (List ℕ) → List (List ℕ)
join_first [] lines = lines
join_first (b ∷ text) [] = (b ∷ text) ∷ []
join_first (b ∷ text) (line ∷ lines) = (b ∷ text ++ line) ∷ lines

join_line : (text line : List ℕ) (lines : List (List ℕ)) → join_first text (line ∷ lines) ≡ (text ++ line) ∷ lines
join_line [] line lines = refl
join_line (b ∷ text) line lines = refl

join_more : (text : List ℕ) (b : ℕ) (lines : List (List ℕ)) → join_first text (with_byte false b lines) ≡ join_first (text ++ b ∷ []) lines
join_more [] b [] = refl
join_more [] b (line ∷ lines) = refl
join_more (a ∷ text) b [] = refl
join_more (a ∷ text) b (line ∷ lines) = ap (λ (l : List ℕ). (a ∷ l) ∷ lines) (sym (append_assoc text (b ∷ []) line))

words_none : (b : Bool) (h : Option Header) → words_if b h [] ≡ []
unfolding word_answers
words_none true (Some h) = refl
words_none true None = refl
words_none false h = refl

-- what the end of the input prints
say_last : (phase : Phase) (text : List ℕ) → lines_say phase (join_first text []) ≡ last_says phase text
unfolding answers_to word_answers
say_last First [] = sym missing_header
say_last First (b ∷ text) =
    ap (λ (l : List ℕ). header_answer (b ∷ text) ++ l) (words_none (goes_on (b ∷ text)) (header_of (b ∷ text)))
    ∙ append-nil (header_answer (b ∷ text))
say_last (Words h) [] = refl
say_last (Words h) (b ∷ text) = append-nil (word_answer h (b ∷ text))
say_last Ended text = refl

-- the bytes after the first 513 of a line say nothing
say_joined : (phase : Phase) (text line : List ℕ) (lines : List (List ℕ))
    → lines_say phase (join_first text (line ∷ lines)) ≡ line_says phase (kept (text ++ line)) ++ lines_say
    (phase_after phase (kept (text ++ line))) lines
say_joined phase text line lines =
    ap (lines_say phase) (join_line text line lines) ∙ say_line phase (text ++ line) lines
    ∙ ap₂ (λ (l : List ℕ) (p : Phase). l ++ lines_say p lines) (sym (line_kept phase (text ++ line)))
    (sym (phase_kept phase (text ++ line)))

say_kept : (phase : Phase) (text : List ℕ) (lines : List (List ℕ))
    → lines_say phase (join_first (kept text) lines) ≡ lines_say phase (join_first text lines)
say_kept phase text [] = say_last phase (kept text) ∙ last_kept phase text ∙ sym (say_last phase text)
say_kept phase text (line ∷ lines) =
    say_joined phase (kept text) line lines
    ∙ ap (λ (l : List ℕ). line_says phase l ++ lines_say (phase_after phase l) lines) (kept_again text line)
    ∙ sym (say_joined phase text line lines)

abbrev pub still : Memory → List ℕ → List ℕ
still m rest = lines_say m.phase (join_first m.text (lines_of rest))

still_if : (b : Bool) (m : Memory) (byte : ℕ) (lines : List (List ℕ))
    → lines_say m.phase (join_first m.text (with_byte b byte lines))
    ≡ says_if b m ++ lines_say (after_if b m byte).phase (join_first (after_if b m byte).text lines)
still_if true m byte lines =
    ap (lines_say m.phase) (join_line m.text [] lines) ∙ say_line m.phase (m.text ++ []) lines
    ∙ ap (λ (l : List ℕ). line_says m.phase l ++ lines_say (phase_after m.phase l) lines) (append-nil m.text)
still_if false m byte lines =
    ap (lines_say m.phase) (join_more m.text byte lines) ∙ sym (say_kept m.phase (m.text ++ byte ∷ []) lines)

still_byte : (m : Memory) (b : ℕ) (rest : List ℕ) → still m (b ∷ rest) ≡ byte_says m b ++ still (after_byte m b) rest
unfolding lines_of
still_byte m b rest = still_if (eqb b newline) m b (lines_of rest)

pub still_block : (m : Memory) (block rest : List ℕ) → still m (block ++ rest) ≡ block_says m block ++ still (after_block m block) rest
unfolding block_says after_block
still_block m [] rest = refl
still_block m (b ∷ block) rest =
    still_byte m b (block ++ rest)
    ∙ ap (λ (l : List ℕ). byte_says m b ++ l) (still_block (after_byte m b) block rest)
    ∙ sym (append_assoc (byte_says m b) (block_says (after_byte m b) block) (still (after_block (after_byte m b) block) rest))

pub still_end : (m : Memory) → still m [] ≡ end_says m
unfolding lines_of
still_end m = say_last m.phase m.text

pub still_start : (input : List ℕ) → still start input ≡ program_output input
unfolding program_output
still_start input = refl
