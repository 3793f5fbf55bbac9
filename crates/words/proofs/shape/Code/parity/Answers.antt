-- `words::shape::Code::parity` meets its contract: k and n - k are n. Assumes nothing.
use native.Mathlib.Omega.{arith}
use Rattle.codes.specs.Code.{parity_of}
use Rattle.codes.proofs.ShapeLaws.{parity_full}
use Rattle.words.proofs.shape.Code.parity.Goals as goal

pub overflow_sub-result : goal.overflow_sub-result
overflow_sub-result c = let s = c.args.self in omega (arith, parity_full s.m s.t s.known)

pub returns-clause-parity : goal.returns-clause-parity
unfolding parity_of
returns-clause-parity c = omega arith
