-- The functions that the three calls compute (codec/specs/Called, decode/specs/Called). Each is the one function that its contract
-- permits. Assumes nothing.
use Rattle.codec.specs.Called.{encoding_of, reading_of}
use Rattle.decode.specs.Called.{result_of}
use Rattle.demands.specs.Calls.{Calls}

abbrev pub ours : Calls
ours = record { encode = encoding_of; read = reading_of; decode = result_of }
