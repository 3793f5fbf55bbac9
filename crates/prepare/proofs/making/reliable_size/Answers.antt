-- `making::reliable_size` meets its contract: there are more positions than roots of any code. Assumes nothing.
use native.Mathlib.Omega.{arith}
use Rattle.codes.proofs.ShapeLaws.{length_large}
use Rattle.prepare.proofs.making.reliable_size.Goals as goal

pub overflow_sub-result : goal.overflow_sub-result
overflow_sub-result c = omega (arith, c.length.ensures.length, length_large _ c.args.code.known.m_low c.args.code.known.m_high)
