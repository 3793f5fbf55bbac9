-- Demand 2: "Words are those of the binary BCH codes, by their roots. The encoder sends each message to its one word and the reader
-- brings it back. The decoder returns .." the nearest (Decodes). "The checks of demand 1 come before that."
--   WordOf m t s message w   w is a word of the message
--   Encodes, Reads           what encode and read give back where their checks are passed
--   Demand2 x                the demand
-- Assumes nothing.
use Rattle.std.specs.Prelude.{◌≡◌, ◌≢◌, List, ℕ, ◌-◌, ◌*◌, ◌/◌, ◌^◌, ◌<◌, ◌≤◌, length}
use Rattle.field.specs.Field.{length_of}
use Rattle.codes.specs.Code.{parity_of}
use Rattle.codes.specs.Codeword.{bit_of, value_at, Codeword}
use Rattle.words.specs.Packing.{written, word_in}
use Rattle.frame.specs.Refusal.{encode_refusal, read_refusal}
use Rattle.codec.specs.GivenBack.{says, fault_at, Encoding}
use Rattle.codec.specs.declared.Reading.{Reading}
use Rattle.decode.specs.Call.{Call, checks_of}
use Rattle.demands.specs.Calls.{Calls}
use Rattle.demands.specs.Decodes.{Decodes}

-- "Message bit i stands at position n-k+i, for i below k-s; the unsent positions are 0; the low n-k positions are the parity that makes
-- a codeword." A codeword's polynomial is zero at a^1, a^2, .., a^(2t)
pub record WordOf (m t s message w : ℕ) : Type 0 where
  pub codeword : Codeword m t w
  pub high : w / 2 ^ parity_of m t ≡ message
  pub unsent : w < 2 ^ (length_of m - s)

-- "to its one word"
pub record Encodes (m t s message : ℕ) (before : List ℕ) (y : Encoding) : Type 0 where
  pub word : ℕ
  pub of : WordOf m t s message word
  pub one : (v : ℕ) → WordOf m t s message v → v ≡ word
  pub gives : y ≡ record { answer = 0; after = written m word before }

-- the message whose word stands in the first W bytes; where that is the word of no message, "8 pad bit, then 9 unsent bit, then 10 root",
-- with "the lowest unsent position at fault, or the lowest power at which the word is not zero" (Req 02): one that is at fault, and no
-- higher than any other that is. Bit n is the pad bit, and the unsent positions are n-s, .., n-1
pub record Reads (m t s : ℕ) (bytes : List ℕ) (y : Reading) : Type 0 where
  pub some : (message : ℕ) → WordOf m t s message (word_in m bytes) → y ≡ says 0 message
  pub pad : bit_of (word_in m bytes) (length_of m) ≡ 1 → y ≡ says 8 0
  pub unsent : bit_of (word_in m bytes) (length_of m) ≡ 0 → (p : ℕ) → length_of m - s ≤ p → p < length_of m → bit_of (word_in m bytes) p ≡ 1
      → (y ≡ fault_at 9 y.at) × (length_of m - s ≤ y.at) × (bit_of (word_in m bytes) y.at ≡ 1)
      × (y.at ≤ p)
  pub root : ((p : ℕ) → length_of m - s ≤ p → bit_of (word_in m bytes) p ≡ 0)
      → (e : ℕ) → 1 ≤ e → e ≤ 2 * t → value_at m (bit_of (word_in m bytes)) e ≢ 0
      → (y ≡ fault_at 10 y.at) × (1 ≤ y.at) × (value_at m (bit_of (word_in m bytes)) y.at ≢ 0)
      × (y.at ≤ e)

pub record Demand2 (x : Calls) : Type 0 where
  pub encode : (m t s message : ℕ) (before : List ℕ) → encode_refusal m t s message (length before) ≡ 0
      → Encodes m t s message before (x.encode m t s message before)
  pub read : (m t s : ℕ) (bytes : List ℕ) → read_refusal m t s (length bytes) ≡ 0 → Reads m t s bytes (x.read m t s bytes)
  -- "and the reader brings it back"
  pub back : (m t s message : ℕ) (before : List ℕ) → encode_refusal m t s message (length before) ≡ 0
      → x.read m t s (x.encode m t s message before).after ≡ says 0 message
  pub decode : (c : Call) → checks_of c ≡ 0 → Decodes c (x.decode c)
