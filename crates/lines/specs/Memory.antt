-- The program between two bytes of its input: what it remembers, and what it prints at once.
--   Memory        what is awaited, and the text of the unfinished line, as far as it is held
--   byte_says      what a byte prints
--   after_byte     what is remembered after it
--   block_says     what a block of bytes prints
--   after_block    what is remembered after it
--   end_says       what the end of the input prints
--   blocks_say     what is printed where the input comes in these blocks and then ends
-- Assumes nothing.
use Rattle.std.specs.Prelude.{Bool, true, false, List, [], ◌∷◌, ◌++◌, ℕ, eqb, take}
use Rattle.output_lines.specs.Text.{newline}
use Rattle.lines.specs.Awaited.{line_says, phase_after, last_says}
use Rattle.lines.specs.declared.phase.Phase.{Phase}
use Rattle.lines.specs.declared.phase.Phase.TheVariants.{First}

pub record Memory : Type 0 where
  pub phase : Phase
  pub text : List ℕ

abbrev pub start : Memory
start = record { phase = First; text = [] }

-- "Lines have at most 512 bytes before the newline": of a longer one 513 are enough to know it
abbrev pub kept : List ℕ → List ℕ
kept text = take 513 text

abbrev pub says_if : Bool → Memory → List ℕ
says_if true m = line_says m.phase m.text
says_if false m = []

abbrev pub byte_says : Memory → ℕ → List ℕ
byte_says m b = says_if (eqb b newline) m

abbrev pub after_if : Bool → Memory → ℕ → Memory
after_if true m b = record { phase = phase_after m.phase m.text; text = [] }
after_if false m b = record { phase = m.phase; text = kept (m.text ++ b ∷ []) }

abbrev pub after_byte : Memory → ℕ → Memory
after_byte m b = after_if (eqb b newline) m b

unfoldable pub block_says : Memory → List ℕ → List ℕ
block_says m [] = []
block_says m (b ∷ bytes) = byte_says m b ++ block_says (after_byte m b) bytes

unfoldable pub after_block : Memory → List ℕ → Memory
after_block m [] = m
after_block m (b ∷ bytes) = after_block (after_byte m b) bytes

abbrev pub end_says : Memory → List ℕ
end_says m = last_says m.phase m.text

unfoldable pub blocks_say : Memory → List (List ℕ) → List ℕ
blocks_say m [] = end_says m
blocks_say m (block ∷ blocks) = block_says m block ++ blocks_say (after_block m block) blocks
