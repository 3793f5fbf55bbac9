-- The decode call: its one permitted answer and buffer (demand 2; document 01, "The search", "What each call says no to").
--   Refused         a refusal, and the buffer as it was
--   Decoded         a word, and the word in the buffer
--   DecodeAnswers   the call's contract
-- Assumes nothing.
use Rattle.std.specs.Prelude.{◌≡◌, ◌≢◌, List, ℕ, ◌*◌, ℤ, length}
use Rattle.soft.specs.Distance.{soft_distance, flips_of}
use Rattle.soft.specs.Candidate.{Candidate, Nearest, Counted}
use Rattle.words.specs.Packing.{written}
use Rattle.frame.specs.Refusal.{decode_refusal}
use Rattle.decode.specs.Call.{refusing}
use Rattle.decode.specs.declared.Decoding.{Decoding}

-- ".. and no byte of the buffer changes"
pub record Refused (N : ℕ) (before : List ℕ) (answer : Decoding) (after : List ℕ) : Type 0 where
  pub says : answer ≡ refusing N
  pub keeps : after ≡ before

-- "The answer: the word, its soft distance, the number of positions where it differs from the hard decisions (flips), and the
-- number of candidates that exist." "Success in encode and decode writes exactly the first W bytes."
pub record Decoded (m t order : ℕ) (soft : List ℤ) (before : List ℕ) (answer : Decoding) (after : List ℕ) : Type 0 where
  pub word : ℕ
  pub nearest : Nearest m 1 (2 * t) order soft word
  pub refusal : answer.refusal ≡ 0
  pub distance : answer.distance ≡ soft_distance m soft word
  pub flips : answer.flips ≡ flips_of m soft word
  pub candidates : Counted m 1 (2 * t) order soft answer.candidates
  pub writes : after ≡ written m word before

-- "decode 1, 2, 3, 4, 5, 6": the first check that is met; else 6 when no candidate exists; else the nearest candidate
pub data DecodeAnswers (m t s order : ℕ) (soft : List ℤ) (before : List ℕ) (answer : Decoding) (after : List ℕ) : Type 0 where
  refused : decode_refusal m t s order (length soft) (length before) ≢ 0
      → Refused (decode_refusal m t s order (length soft) (length before)) before answer after
      → DecodeAnswers m t s order soft before answer after
  nothing : decode_refusal m t s order (length soft) (length before) ≡ 0
      → ((w : ℕ) → ¬ Candidate m 1 (2 * t) order soft w) → Refused 6 before answer after
      → DecodeAnswers m t s order soft before answer after
  decoded : decode_refusal m t s order (length soft) (length before) ≡ 0
      → Decoded m t order soft before answer after
      → DecodeAnswers m t s order soft before answer after
