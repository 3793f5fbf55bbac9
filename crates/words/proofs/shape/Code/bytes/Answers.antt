-- `words::shape::Code::bytes` meets its contract, by its arms. Assumes nothing.
use mathlib.Core.Path.{◌≡◌}
use native.Mathlib.Omega.{arith}
use Rattle.words.specs.Packing.{bytes_of}
use Rattle.words.proofs.shape.Code.bytes.Goals as goal

pub returns-in-4-clause-bytes : goal.returns-in-4-clause-bytes
unfolding bytes_of
returns-in-4-clause-bytes c = rw c.in-4.is

pub returns-in-5-clause-bytes : goal.returns-in-5-clause-bytes
unfolding bytes_of
returns-in-5-clause-bytes c = rw c.in-5.is

pub returns-in_default-clause-bytes : goal.returns-in_default-clause-bytes
unfolding bytes_of
returns-in_default-clause-bytes c = let e : c.args.self.m ≡ 6 = omega arith in rw e
