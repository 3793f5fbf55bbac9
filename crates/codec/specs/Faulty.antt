-- What read says of a fault, and of what is found in its bytes. Everything here computes.
--   faulty      the answer to a fault: its number, and its place where it has one
--   answer_of   the answer to a message, or to a fault
-- Assumes nothing.
use Rattle.std.specs.Prelude.{ℕ, Result, Ok, Err}
use Rattle.frame.specs.Numbers.{number}
use Rattle.codec.specs.GivenBack.{says, fault_at}
use Rattle.codec.specs.declared.Reading.{Reading}
use Rattle.codec.specs.declared.fault.Fault.{Fault}
use Rattle.codec.specs.declared.fault.Fault.TheVariants.{Refused, Unsent, Root}

abbrev pub faulty : Fault → Reading
faulty (Refused r) = says (number r) 0
faulty (Unsent p) = fault_at 9 p
faulty (Root e) = fault_at 10 e

abbrev pub answer_of : Result ℕ Fault → Reading
answer_of (Ok M) = says 0 M
answer_of (Err f) = faulty f
