-- `gf::Field::reduced` meets its contract, by what the reduction polynomials are. Assumes nothing.
use mathlib.Core.Path.{◌≡◌, ap, sym, ◌∙◌}
use native.Mathlib.Omega.{arith}
use Rattle.field.specs.Field.{reduction}
use Rattle.field.proofs.ProductSteps.{reduction_five, reduction_other}
use Rattle.gf.proofs.Field.reduced.Goals as goal

pub returns-then-self-eq5 : goal.returns-then-self-eq5
returns-then-self-eq5 c = let e : 5 ≡ c.args.self.m = omega arith in sym reduction_five ∙ ap reduction e

pub returns-else-self-eq5 : goal.returns-else-self-eq5
returns-else-self-eq5 c = sym (reduction_other c.args.self.m (omega arith) (omega arith) (omega arith))
