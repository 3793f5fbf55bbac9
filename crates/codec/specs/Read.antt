-- The read call: its one permitted answer; it writes nothing (document 01, "What each call says no to"; Req 02).
--   Readable m t s w      w is a codeword whose pad bit and unsent bits are 0
--   UnsentFault m s w p   9: the pad bit is 0, and p is the lowest unsent position that holds a 1
--   RootFault m t s w e   10: no bit from n-s on is 1, and e is the lowest power at which w is not zero
--   ReadAnswers m t s bytes answer   the call's contract
-- Assumes nothing.
use Rattle.std.specs.Prelude.{◌≡◌, ◌≢◌, List, ℕ, ◌-◌, ◌*◌, ◌/◌, ◌^◌, ◌<◌, ◌≤◌, length}
use Rattle.field.specs.Field.{length_of}
use Rattle.field.specs.Lowest.{Lowest}
use Rattle.codes.specs.Code.{parity_of}
use Rattle.codes.specs.Codeword.{bit_of, value_at, Codeword}
use Rattle.words.specs.Packing.{word_in}
use Rattle.frame.specs.Refusal.{read_refusal}
use Rattle.codec.specs.GivenBack.{says, fault_at}
use Rattle.codec.specs.declared.Reading.{Reading}

-- none of 8, 9 and 10: document 01 gave 8 for "the word is no codeword, or its pad bit or an unsent bit is 1"
pub record Readable (m t s w : ℕ) : Type 0 where
  pub codeword : Codeword m t w
  pub unsent : w < 2 ^ (length_of m - s)

-- "give the lowest unsent position at fault": the unsent positions are n-s, .., n-1, and bit n is the pad bit
pub record UnsentFault (m s w p : ℕ) : Type 0 where
  pub pad : bit_of w (length_of m) ≡ 0
  pub lowest : Lowest (length_of m - s) s (bit_of w) p

-- "or the lowest power at which the word is not zero": of a^1, .., a^(2t)
pub record RootFault (m t s w e : ℕ) : Type 0 where
  pub clear : (p : ℕ) → length_of m - s ≤ p → bit_of w p ≡ 0
  pub lowest : Lowest 1 (2 * t) (value_at m (bit_of w)) e

-- "Refusals: 8 pad bit, then 9 unsent bit, then 10 root." "A refusal returns its number with all other fields zero", but for the place that
-- 9 and 10 give. "Read looks at the first W bytes .. and returns the message."
pub data ReadAnswers (m t s : ℕ) (bytes : List ℕ) (answer : Reading) : Type 0 where
  refused : read_refusal m t s (length bytes) ≢ 0 → answer ≡ says (read_refusal m t s (length bytes)) 0
      → ReadAnswers m t s bytes answer
  padded : read_refusal m t s (length bytes) ≡ 0 → bit_of (word_in m bytes) (length_of m) ≡ 1 → answer ≡ says 8 0
      → ReadAnswers m t s bytes answer
  unsent : read_refusal m t s (length bytes) ≡ 0 → (p : ℕ) → UnsentFault m s (word_in m bytes) p → answer ≡ fault_at 9 p
      → ReadAnswers m t s bytes answer
  missing_root : read_refusal m t s (length bytes) ≡ 0 → (e : ℕ) → RootFault m t s (word_in m bytes) e → answer ≡ fault_at 10 e
      → ReadAnswers m t s bytes answer
  taken : read_refusal m t s (length bytes) ≡ 0 → Readable m t s (word_in m bytes) → answer ≡ says 0 (word_in m bytes / 2 ^ parity_of m t)
      → ReadAnswers m t s bytes answer
