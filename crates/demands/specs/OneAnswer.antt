-- How tightly the calls are bound (document 01): "For each input, encode, read and decode have one permitted answer and one permitted
-- buffer, refusals too; show that whatever two answers satisfy a contract are equal". Read writes nothing. Assumes nothing.
use Rattle.std.specs.Prelude.{◌≡◌, List, ℕ, ℤ}
use Rattle.codec.specs.Encode.{EncodeAnswers}
use Rattle.codec.specs.Read.{ReadAnswers}
use Rattle.codec.specs.declared.Reading.{Reading}
use Rattle.decode.specs.Decode.{DecodeAnswers}
use Rattle.decode.specs.declared.Decoding.{Decoding}
use Rattle.export.specs.Told.{DecodeTold, ReadTold, FaultTold}

abbrev pub EncodeHasOneAnswer : Type 0
EncodeHasOneAnswer = (m t s message : ℕ) (before : List ℕ) (a b : ℕ) (after other : List ℕ)
    → EncodeAnswers m t s message before a after → EncodeAnswers m t s message before b other → (a ≡ b) × (after ≡ other)

abbrev pub ReadHasOneAnswer : Type 0
ReadHasOneAnswer = (m t s : ℕ) (bytes : List ℕ) (a b : Reading) → ReadAnswers m t s bytes a → ReadAnswers m t s bytes b → a ≡ b

abbrev pub DecodeHasOneAnswer : Type 0
DecodeHasOneAnswer = (m t s order : ℕ) (soft : List ℤ) (before : List ℕ) (a b : Decoding) (after other : List ℕ)
    → DecodeAnswers m t s order soft before a after → DecodeAnswers m t s order soft before b other → (a ≡ b) × (after ≡ other)

-- and what a C host is told
abbrev pub DecodeTellsOneAnswer : Type 0
DecodeTellsOneAnswer = (m t s order : ℕ) (soft : List ℤ) (before figures : List ℕ) (a b : ℕ) (after other told tale : List ℕ)
    → DecodeTold m t s order soft before figures a after told → DecodeTold m t s order soft before figures b other tale
    → (a ≡ b) × (after ≡ other) × (told ≡ tale)

abbrev pub ReadTellsOneAnswer : Type 0
ReadTellsOneAnswer = (m t s : ℕ) (bytes place : List ℕ) (a b : ℕ) (told tale : List ℕ)
    → ReadTold m t s bytes place a told → ReadTold m t s bytes place b tale → (a ≡ b) × (told ≡ tale)

abbrev pub FaultTellsOneAnswer : Type 0
FaultTellsOneAnswer = (m t s : ℕ) (bytes : List ℕ) (a b : ℕ) → FaultTold m t s bytes a → FaultTold m t s bytes b → a ≡ b
