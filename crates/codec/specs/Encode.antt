-- The encode call: its one permitted answer, which is a refusal's number or 0, and its one permitted buffer (document 01,
-- "Shortening", "What each call says no to").
--   Encoded m t s message before after                the word of the message stands in the buffer
--   EncodeAnswers m t s message before answer after   the call's contract
-- Assumes nothing.
use Rattle.std.specs.Prelude.{◌≡◌, ◌≢◌, List, ℕ, ◌-◌, ◌/◌, ◌^◌, ◌<◌, length}
use Rattle.field.specs.Field.{length_of}
use Rattle.codes.specs.Code.{parity_of}
use Rattle.codes.specs.Codeword.{Codeword}
use Rattle.words.specs.Packing.{written}
use Rattle.frame.specs.Refusal.{encode_refusal}

-- "Message bit i stands at position n-k+i, for i below k-s; the unsent positions are 0; the low n-k positions are the parity
-- that makes a codeword." "Success in encode and decode writes exactly the first W bytes."
pub record Encoded (m t s message : ℕ) (before after : List ℕ) : Type 0 where
  pub word : ℕ
  pub codeword : Codeword m t word
  pub high : word / 2 ^ parity_of m t ≡ message
  pub unsent : word < 2 ^ (length_of m - s)
  pub writes : after ≡ written m word before

-- "The first that applies is given .. A refusal returns its number .. and no byte of the buffer changes."
pub data EncodeAnswers (m t s message : ℕ) (before : List ℕ) (answer : ℕ) (after : List ℕ) : Type 0 where
  refused : encode_refusal m t s message (length before) ≢ 0 → answer ≡ encode_refusal m t s message (length before) → after ≡ before
      → EncodeAnswers m t s message before answer after
  encoded : encode_refusal m t s message (length before) ≡ 0 → answer ≡ 0 → Encoded m t s message before after
      → EncodeAnswers m t s message before answer after
