-- `output_lines::glyph` meets its contract, by the two answers of its test. Assumes nothing.
use native.Mathlib.Omega.{arith}
use borrow.Author.Tests.{lt-ltb, le-ltb}
use Rattle.output_lines.proofs.glyph.Goals as goal

pub returns-then-d-lt10 : goal.returns-then-d-lt10
returns-then-d-lt10 c = simp (lt-ltb _ _ c.if-d-lt10.true)

pub returns-else-d-lt10 : goal.returns-else-d-lt10
returns-else-d-lt10 c = simp (le-ltb _ _ c.if-d-lt10.false) (omega arith)
