-- What a C host is told: the number of a call's answer as the result, and where that is 0 the answer's other fields in lent
-- memory; encode's answer is its number alone. What a refusal says beside its number is the result of a call of its own.
--   placed numbers before     the lent memory with the numbers over its first places, as many as it has room for
--   told N numbers before     the same where the number N is 0; else the lent memory as it was
--   ReadTold, DecodeTold      the contract of the call of that name; `left` is what stands in the lent memory afterwards
--   FaultTold                 the contract of the call that tells what read's refusal says beside its number; it writes nothing
-- Assumes nothing.
use Rattle.std.specs.Prelude.{◌≡◌, List, [], ◌∷◌, ℕ, zero, suc, ℤ}
use Rattle.codec.specs.Read.{ReadAnswers}
use Rattle.codec.specs.declared.Reading.{Reading}
use Rattle.decode.specs.Decode.{DecodeAnswers}
use Rattle.decode.specs.declared.Decoding.{Decoding}

-- in their order; what is past them is unchanged
abbrev pub placed : {A : Type 0} → List A → List A → List A
placed [] before = before
placed (number ∷ others) [] = []
placed (number ∷ others) (place ∷ places) = number ∷ placed others places

-- a refusal writes nothing
abbrev pub told : {A : Type 0} → ℕ → List A → List A → List A
told zero numbers before = placed numbers before
told (suc N) numbers before = before

-- "Read looks at the first W bytes .. and returns the message."
pub record ReadTold (m t s : ℕ) (word message : List ℕ) (result : ℕ) (left : List ℕ) : Type 0 where
  pub answer : Reading
  pub answers : ReadAnswers m t s word answer
  pub refusal : result ≡ answer.refusal
  pub tells : left ≡ told result (answer.message ∷ []) message

-- "give the lowest unsent position at fault, or the lowest power at which the word is not zero" (Req 02); 0 where there is no place
pub record FaultTold (m t s : ℕ) (word : List ℕ) (result : ℕ) : Type 0 where
  pub answer : Reading
  pub answers : ReadAnswers m t s word answer
  pub place : result ≡ answer.at

-- "The answer: the word, its soft distance, .. (flips), and the number of candidates that exist."
pub record DecodeTold (m t s order : ℕ) (soft : List ℤ) (before figures : List ℕ) (result : ℕ) (after left : List ℕ) : Type 0 where
  pub answer : Decoding
  pub answers : DecodeAnswers m t s order soft before answer after
  pub refusal : result ≡ answer.refusal
  pub tells : left ≡ told result (answer.distance ∷ answer.flips ∷ answer.candidates ∷ []) figures
