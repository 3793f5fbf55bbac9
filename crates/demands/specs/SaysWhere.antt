-- Req 02: which check of a word read failed, and where; of whatever answers satisfy the contracts.
--   SaysWhere m t s w y     of the answer y to the word w: which of 0, 8, 9 and 10 it gives, and where
--   ReadSaysWhere           every answer of read to a word says so
--   ReadableWhereNoFault    what is accepted is what it was: a word that fails none of the three checks
--   DecodedIsReadOrUnsent   what decode wrote read takes, or it refuses it with 9
--   FaultGoesWithRead       what a C host is told of the place goes with the number that it was told
-- Assumes nothing.
use Rattle.std.specs.Prelude.{◌≡◌, ◌≢◌, ◌⊎◌, ◌↔◌, List, ℕ, suc, ◌-◌, ◌*◌, ◌^◌, ◌<◌, ◌≤◌, ℤ, length}
use Rattle.field.specs.Field.{length_of}
use Rattle.codes.specs.Code.{Known, dimension_of}
use Rattle.codes.specs.Codeword.{bit_of, value_at}
use Rattle.words.specs.Packing.{word_in}
use Rattle.frame.specs.Refusal.{read_refusal}
use Rattle.codec.specs.Read.{Readable, UnsentFault, RootFault, ReadAnswers}
use Rattle.codec.specs.declared.Reading.{Reading}
use Rattle.decode.specs.Decode.{DecodeAnswers}
use Rattle.decode.specs.declared.Decoding.{Decoding}
use Rattle.export.specs.Told.{ReadTold, FaultTold}

-- "8 pad bit, then 9 unsent bit, then 10 root": the answer is one of the four, and each exactly where the word is so. So of accepted, 8, 9
-- and 10 exactly one holds of a word
pub record SaysWhere (m t s w : ℕ) (y : Reading) : Type 0 where
  pub one : (y.refusal ≡ 0) ⊎ ((y.refusal ≡ 8) ⊎ ((y.refusal ≡ 9) ⊎ (y.refusal ≡ 10)))
  pub accepted : (y.refusal ≡ 0) ↔ Readable m t s w
  pub pad : (y.refusal ≡ 8) ↔ (bit_of w (length_of m) ≡ 1)
  pub unsent : (y.refusal ≡ 9)
      ↔ ((bit_of w (length_of m) ≡ 0) × ((p : ℕ) × (length_of m - s ≤ p) × (p < length_of m) × (bit_of w p ≡ 1)))
  pub root : (y.refusal ≡ 10)
      ↔ (((p : ℕ) → length_of m - s ≤ p → bit_of w p ≡ 0) × ((e : ℕ) × (1 ≤ e) × (e ≤ 2 * t) × (value_at m (bit_of w) e ≢ 0)))
  -- "the lowest unsent position at fault"
  pub position : y.refusal ≡ 9
      → (length_of m - s ≤ y.at) × (y.at < length_of m) × (bit_of w y.at ≡ 1)
      × ((p : ℕ) → length_of m - s ≤ p → p < y.at → bit_of w p ≡ 0)
  -- "the lowest power at which the word is not zero"
  pub power : y.refusal ≡ 10
      → (1 ≤ y.at) × (y.at ≤ 2 * t) × (value_at m (bit_of w) y.at ≢ 0)
      × ((e : ℕ) → 1 ≤ e → e < y.at → value_at m (bit_of w) e ≡ 0)
  pub none : y.refusal ≢ 9 → y.refusal ≢ 10 → y.at ≡ 0

-- after check 5
abbrev pub ReadSaysWhere : Type 0
ReadSaysWhere = (m t s : ℕ) (bytes : List ℕ) (answer : Reading) → read_refusal m t s (length bytes) ≡ 0 → ReadAnswers m t s bytes answer
    → SaysWhere m t s (word_in m bytes) answer

-- of every number that fits the W bytes, n + 1 bits
abbrev pub ReadableWhereNoFault : Type 0
ReadableWhereNoFault = (m t s w : ℕ) → Known m t → s < dimension_of m t → w < 2 ^ suc (length_of m)
    → Readable m t s w ↔ ((bit_of w (length_of m) ≢ 1) × ((p : ℕ) → ¬ UnsentFault m s w p) × ((e : ℕ) → ¬ RootFault m t s w e))

-- "A decoded word with a one in an unsent position is written as it is; read then refuses it": with 9, and no other word that decode wrote
abbrev pub DecodedIsReadOrUnsent : Type 0
DecodedIsReadOrUnsent = (m t s order : ℕ) (soft : List ℤ) (before after : List ℕ) (decoding : Decoding) (answer : Reading)
    → DecodeAnswers m t s order soft before decoding after → decoding.refusal ≡ 0 → ReadAnswers m t s after answer
    → (answer.refusal ≡ 0) ⊎ (answer.refusal ≡ 9)

-- malligovu_read's number r and malligovu_fault's place p for the same arguments: one answer of read has both, and where r is neither 9 nor
-- 10, p is 0
abbrev pub FaultGoesWithRead : Type 0
FaultGoesWithRead = (m t s : ℕ) (word message : List ℕ) (r p : ℕ) (left : List ℕ)
    → ReadTold m t s word message r left → FaultTold m t s word p
    → ((answer : Reading) × ReadAnswers m t s word answer × (answer.refusal ≡ r) × (answer.at ≡ p)) × (r ≢ 9 → r ≢ 10 → p ≡ 0)
