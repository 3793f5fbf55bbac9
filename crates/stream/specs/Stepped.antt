-- What a step over a block promises of the state and of the lent memory.
--   Ready       the unfinished line lies in 513 lent bytes
--   memory_of    what a state and these bytes remember
--   Begins      the state before any input
--   Prints      what is printed, in the output
--   Steps       the step's contract
-- Assumes nothing.
use Rattle.std.specs.Prelude.{◌≡◌, List, ℕ, ◌≤◌, length, take}
use Rattle.output_lines.specs.Put.{Put}
use Rattle.lines.specs.Memory.{Memory, start, block_says, after_block}
use Rattle.stream.specs.declared.State.{State}
use Rattle.stream.specs.declared.Stepped.{Stepped}

pub record Ready (s : State) (line : List ℕ) : Type 0 where
  pub held : s.held ≤ 513
  pub size : length line ≡ 513

abbrev pub memory_of : State → List ℕ → Memory
memory_of s line = record { phase = s.phase; text = take s.held line }

-- nothing is read yet
pub record Begins (s : State) : Type 0 where
  pub held : s.held ≤ 513
  pub remembers : (line : List ℕ) → memory_of s line ≡ start

-- the text stands at the start of the output, which is otherwise as it was. The count's bounds follow from it: with them a caller lends the
-- text with no proof
pub record Prints (text before : List ℕ) (n : ℕ) (after : List ℕ) : Type 0 where
  pub writes : Put text before n after
  pub within : n ≤ length after
  pub counted : n ≡ length (take n after)

pub record Steps (m : Memory) (block before : List ℕ) (r : Stepped) (line after : List ℕ) : Type 0 where
  pub remembers : memory_of r.state line ≡ after_block m block
  pub prints : Prints (block_says m block) before r.wrote after
  pub ready : Ready r.state line
