-- What a call on standard input or output has come to.
--   outcome_of    by the system's answer, a count or an error with its number, and by how many bytes the call was lent
--   Within       what can be said of the bytes that it moved: they lie in what it was lent. Which they are no contract can say
--   Means        both, of an answer's outcome
-- Assumes nothing.
use Rattle.std.specs.Prelude.{◌≡◌, Bool, true, false, cond, List, ℕ, min, eqb, ℤ, pos, negsuc, length, Result, Ok, Err, unwrap_or}
use Rattle.std.specs.IoError.{raw_os_error}
use Rattle.std.specs.declared.io.Error.{Error}
use Rattle.io.specs.Counts.{IsPrefixLen}
use Rattle.stdio.specs.declared.Outcome.{Outcome}
use Rattle.stdio.specs.declared.Outcome.TheVariants.{Moved, Later, Failed}

-- interrupted (EINTR, 4) and not ready (EAGAIN, 11) pass, and nothing else does
abbrev pub passes : ℤ → Bool
passes (pos n) = cond (eqb n 4) true (eqb n 11)
passes (negsuc n) = false

-- a count of bytes, or a failure: no failure is a count of 0, which of a read is the end of the input. An error without a number has 0,
-- which does not pass
abbrev pub outcome_of : Result ℕ Error → ℕ → Outcome
outcome_of (Ok n) lent = Moved (min n lent)
outcome_of (Err e) lent = cond (passes (unwrap_or (raw_os_error e) (pos 0))) Later Failed

abbrev pub Within : Outcome → List ℕ → Type 0
Within (Moved n) lent = IsPrefixLen n lent
Within Later lent = Unit {0}
Within Failed lent = Unit {0}

-- the second follows from the first: with it a caller lends the bytes that were moved with no proof
pub record Means (answer : Result ℕ Error) (lent : List ℕ) (r : Outcome) : Type 0 where
  pub is : r ≡ outcome_of answer (length lent)
  pub within : Within r lent
