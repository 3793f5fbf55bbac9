-- Demand 1: "Every input gets an answer that the papers fix. Unknown code, wrong count of values, short buffer, order too high: each is
-- refused under its own number, nothing is written, and no caller has to check first." The numbers and which comes first are document
-- 01's table: `encode_refusal`, `read_refusal` (frame/specs/Refusal) and `checks_of` give the first that applies, 0 where none does. It is
-- asked of every input whatever; that the compiled functions ask nothing of a caller is in proofs/CompiledCalls.
--   EncodeFixed, ReadFixed, DecodeFixed   the answer of a call, on one input, is fixed so
--   Demand1 x                             on every input, for all three calls
-- Assumes nothing.
use Rattle.std.specs.Prelude.{◌≡◌, ◌≢◌, ◌⊎◌, List, ℕ, length}
use Rattle.frame.specs.Refusal.{encode_refusal, read_refusal}
use Rattle.codec.specs.GivenBack.{says, fault_at, Encoding}
use Rattle.codec.specs.declared.Reading.{Reading}
use Rattle.decode.specs.Call.{Call, Result, checks_of, refused_with}
use Rattle.demands.specs.Calls.{Calls}

-- "A refusal returns its number with all other fields zero, and no byte of the buffer changes." Where no check is met, encode succeeds
pub record EncodeFixed (m t s message : ℕ) (before : List ℕ) (y : Encoding) : Type 0 where
  pub refused : encode_refusal m t s message (length before) ≢ 0
      → y ≡ record { answer = encode_refusal m t s message (length before); after = before }
  pub passed : encode_refusal m t s message (length before) ≡ 0 → y.answer ≡ 0

-- where no check is met, read succeeds or refuses the word: with 8, or with 9 or 10 and a place (Req 02), which demand 2 fixes
pub record ReadFixed (m t s : ℕ) (bytes : List ℕ) (y : Reading) : Type 0 where
  pub refused : read_refusal m t s (length bytes) ≢ 0 → y ≡ says (read_refusal m t s (length bytes)) 0
  pub passed : read_refusal m t s (length bytes) ≡ 0
      → (y.refusal ≡ 0) ⊎ ((y ≡ says 8 0) ⊎ ((y ≡ fault_at 9 y.at) ⊎ (y ≡ fault_at 10 y.at)))

-- where no check is met, decode succeeds or refuses with 6
pub record DecodeFixed (c : Call) (y : Result) : Type 0 where
  pub refused : checks_of c ≢ 0 → y ≡ refused_with (checks_of c) c
  pub passed : checks_of c ≡ 0 → (y.answer.refusal ≡ 0) ⊎ (y ≡ refused_with 6 c)

pub record Demand1 (x : Calls) : Type 0 where
  pub encode : (m t s message : ℕ) (before : List ℕ) → EncodeFixed m t s message before (x.encode m t s message before)
  pub read : (m t s : ℕ) (bytes : List ℕ) → ReadFixed m t s bytes (x.read m t s bytes)
  pub decode : (c : Call) → DecodeFixed c (x.decode c)
