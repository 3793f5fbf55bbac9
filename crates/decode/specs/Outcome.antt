-- What the decode call finds, or why it refuses, as its answer. Everything here computes.
--   answer_of r   the answer that says r
-- Assumes nothing.
use Rattle.std.specs.Prelude.{Result, Ok, Err}
use Rattle.frame.specs.declared.refusal.Refusal.{Refusal}
use Rattle.frame.specs.Numbers.{number}
use Rattle.decode.specs.Call.{refusing}
use Rattle.decode.specs.declared.Decoding.{Decoding}

abbrev pub answer_of : Result Decoding Refusal → Decoding
answer_of (Ok x) = x
answer_of (Err r) = refusing (number r)
