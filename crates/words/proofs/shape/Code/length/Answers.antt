-- `words::shape::Code::length` meets its contract: the shift is by less than 64. Assumes nothing.
use mathlib.Core.Path.{refl}
use native.Mathlib.Omega.{arith}
use Rattle.field.specs.Field.{length_of}
use Rattle.codes.proofs.ShapeLaws.{length_small}
use Rattle.words.proofs.ShapeLaws.{one_shifted}
use Rattle.words.proofs.shape.Code.length.Goals as goal

pub returns : goal.returns
unfolding length_of
returns c =
    let m = c.args.self.m in
    rw (one_shifted {k = m} (omega arith)) (record { length = refl; within = length_small m (omega arith) (omega arith) })
