-- "The encoder sends each message to its one word and the reader brings it back" (demand 2), both ways, of whatever answers satisfy the
-- two contracts. Assumes nothing.
use Rattle.std.specs.Prelude.{◌≡◌, List, ℕ, ◌<◌, get_or}
use Rattle.codec.specs.Encode.{EncodeAnswers}
use Rattle.codec.specs.Read.{ReadAnswers}
use Rattle.codec.specs.GivenBack.{says}
use Rattle.codec.specs.declared.Reading.{Reading}

-- what encode wrote, read brings back
abbrev pub ReadBringsBack : Type 0
ReadBringsBack = (m t s message : ℕ) (before after : List ℕ) (answer : Reading)
    → EncodeAnswers m t s message before 0 after → ReadAnswers m t s after answer → answer ≡ says 0 message

-- what read accepts, encode writes again: no byte of the buffer changes
abbrev pub EncodeWritesAgain : Type 0
EncodeWritesAgain = (m t s message : ℕ) (bytes : List ℕ) → ((i : ℕ) → get_or bytes i 0 < 256) → ReadAnswers m t s bytes (says 0 message)
    → (answer : ℕ) (after : List ℕ) → EncodeAnswers m t s message bytes answer after → (answer ≡ 0) × (after ≡ bytes)
