-- What a turn of the program's loop does, by what its read brought. Which bytes were read, and that the answers were written, no contract
-- can say: the text to be written stands at the start of the output's memory.
--   Takes        what is remembered after the turn is the step's, over these bytes
--   Printed      the text stands in the output's memory
--   Took         both
--   ReadsOn      whether there is a further read
--   Answers      what follows from bytes
--   Follows      what follows from each outcome of a read
--   TakesSome    what is remembered is the step's, over the block's first n bytes, for some n
--   Turns        what follows from some outcome of a read into this block
-- Assumes nothing.
use Rattle.std.specs.Prelude.{◌≡◌, Bool, true, false, List, [], ℕ, zero, suc, ◌≤◌, length, take}
use Rattle.output_lines.specs.Put.{Put}
use Rattle.lines.specs.Awaited.{is_ended}
use Rattle.lines.specs.Memory.{Memory, block_says, after_block, end_says}
use Rattle.stream.specs.Stepped.{Ready, memory_of}
use Rattle.stream.specs.declared.State.{State}
use Rattle.lines.specs.declared.phase.Phase.{Phase}
use Rattle.stdio.specs.Outcome.{Within}
use Rattle.stdio.specs.declared.Outcome.{Outcome}
use Rattle.stdio.specs.declared.Outcome.TheVariants.{Moved, Later, Failed}

pub record Takes (m : Memory) (bytes : List ℕ) (s : State) (line : List ℕ) : Type 0 where
  pub remembers : memory_of s line ≡ after_block m bytes
  pub ready : Ready s line

pub record Printed (text before after : List ℕ) : Type 0 where
  pub count : ℕ
  pub writes : Put text before count after

pub record Took (m : Memory) (bytes text before : List ℕ) (s : State) (line after : List ℕ) : Type 0 where
  pub takes : Takes m bytes s line
  pub printed : Printed text before after

-- once the program has ended there is none; else there is one where all was written
pub record ReadsOn (written : Bool) (phase : Phase) (on : Bool) : Type 0 where
  pub ends : is_ended phase ≡ true → on ≡ false
  pub goes_on : is_ended phase ≡ false → on ≡ written

pub record Answers (m : Memory) (bytes before : List ℕ) (s : State) (on : Bool) (line after : List ℕ) : Type 0 where
  pub took : Took m bytes (block_says m bytes) before s line after
  pub ends : is_ended s.phase ≡ true → on ≡ false

-- 0 bytes is the end of the input, and nothing else is. Where the read is to be made again, or failed, no text is made, and nothing of the
-- unfinished line is lost
abbrev pub Follows : Outcome → Memory → List ℕ → List ℕ → State → Bool → List ℕ → List ℕ → Type 0
Follows (Moved zero) m block before s on line after = Took m [] (end_says m) before s line after × (on ≡ false)
Follows (Moved (suc n)) m block before s on line after = Answers m (take (suc n) block) before s on line after
Follows Later m block before s on line after = Took m [] [] before s line after × (on ≡ true)
Follows Failed m block before s on line after = Took m [] [] before s line after × (on ≡ false)

pub record TakesSome (m : Memory) (block : List ℕ) (s : State) (line : List ℕ) : Type 0 where
  pub count : ℕ
  pub within : count ≤ length block
  pub takes : Takes m (take count block) s line

-- the last follows from the others
pub record Turns (m : Memory) (block before : List ℕ) (s : State) (on : Bool) (line after : List ℕ) : Type 0 where
  pub got : Outcome
  pub within : Within got block
  pub follows : Follows got m block before s on line after
  pub takes : TakesSome m block s line
