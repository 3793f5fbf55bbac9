-- `words::shape::Shortened::sent` meets its contract: s is below k, and k within n. Assumes nothing.
use native.Mathlib.Omega.{arith}
use Rattle.codes.proofs.ShapeLaws.{parity_full}
use Rattle.words.proofs.shape.Shortened.sent.Goals as goal

pub overflow_sub-result : goal.overflow_sub-result
overflow_sub-result c = let s = c.args.self in omega (arith, parity_full s.code.m s.code.t s.code.known, s.short)
