-- What the demands speak of: an encoder, a reader and a decoder, any whatever, as functions from what a call is given to what it gives
-- back. A decoder is given a `Call` and gives back a `Result`, its answer and the buffer after (decode/specs/Call).
--   Encoder, Reader, Decoder   a function of each kind; a reader's bytes are lent to be looked at, so it gives back its answer alone
--   Calls                      one of each
-- Assumes nothing.
use Rattle.std.specs.Prelude.{List, ℕ}
use Rattle.codec.specs.GivenBack.{Encoding}
use Rattle.codec.specs.declared.Reading.{Reading}
use Rattle.decode.specs.Call.{Call, Result}

abbrev pub Encoder : Type 0
Encoder = (m t s message : ℕ) (before : List ℕ) → Encoding

abbrev pub Reader : Type 0
Reader = (m t s : ℕ) (bytes : List ℕ) → Reading

abbrev pub Decoder : Type 0
Decoder = Call → Result

pub record Calls : Type 0 where
  pub encode : Encoder
  pub read : Reader
  pub decode : Decoder
