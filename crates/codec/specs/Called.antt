-- The calls encode and read as functions from what they are given to what they give back: the checks, then the word of a message, the
-- message of a word. Each is the one function that its contract permits (proofs/CalledLaws, proofs/CodecOneAnswer). Everything here
-- computes.
--   encoding_of m t s message before   what encode gives back
--   fault_of m t s w                   what read says of a word that it does not accept
--   reading_of m t s bytes             what read gives back
-- Assumes nothing.
use Rattle.std.specs.Prelude.{Bool, cond, ◌&&◌, List, ℕ, zero, suc, ◌-◌, ◌*◌, ◌/◌, ◌^◌, ltb, eqb, length}
use Rattle.field.specs.Field.{length_of}
use Rattle.field.specs.Lowest.{lowest_of}
use Rattle.codes.specs.Code.{parity_of}
use Rattle.codes.specs.Codeword.{bit_of, value_at}
use Rattle.codes.specs.Generator.{systematic}
use Rattle.words.specs.Packing.{written, word_in}
use Rattle.frame.specs.Refusal.{encode_refusal, read_refusal}
use Rattle.codec.specs.GivenBack.{says, fault_at, Encoding}
use Rattle.codec.specs.declared.Reading.{Reading}

-- what encode gives back after its checks gave N
abbrev pub encoding_after : ℕ → (m t message : ℕ) → List ℕ → Encoding
encoding_after zero m t message before = record { answer = 0; after = written m (systematic m t message) before }
encoding_after (suc N) m t message before = record { answer = suc N; after = before }

unfoldable pub encoding_of : (m t s message : ℕ) → List ℕ → Encoding
encoding_of m t s message before = encoding_after (encode_refusal m t s message (length before)) m t message before

-- no pad bit and no unsent bit is 1, and the word of the message at the top is the word itself
abbrev pub readable : (m t s w : ℕ) → Bool
readable m t s w = ltb w (2 ^ (length_of m - s)) && eqb (systematic m t (w / 2 ^ parity_of m t)) w

-- the pad bit of a number below 2^n is 0, and below 2^(n-s) the unsent bits are too
unfoldable pub fault_of : (m t s w : ℕ) → Reading
fault_of m t s w =
    cond (ltb w (2 ^ length_of m))
    (cond (ltb w (2 ^ (length_of m - s)))
    (fault_at 10 (lowest_of 1 (2 * t) (value_at m (bit_of w)))) (fault_at 9 (lowest_of (length_of m - s) s (bit_of w))))
    (says 8 0)

abbrev pub reading_after : ℕ → (m t s w : ℕ) → Reading
reading_after zero m t s w = cond (readable m t s w) (says 0 (w / 2 ^ parity_of m t)) (fault_of m t s w)
reading_after (suc N) m t s w = says (suc N) 0

unfoldable pub reading_of : (m t s : ℕ) → List ℕ → Reading
reading_of m t s bytes = reading_after (read_refusal m t s (length bytes)) m t s (word_in m bytes)
