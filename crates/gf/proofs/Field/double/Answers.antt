-- `gf::Field::double` meets its contract: twice y where that is an element, else reduced. Assumes nothing.
use mathlib.Core.Path.{◌≡◌, ap₂, sym, ◌∙◌}
use Prim.Native.Nat.{◌*◌, ◌-◌, ◌^◌}
use native.Mathlib.Omega.{arith}
use Rattle.field.specs.Field.{◌⊕◌}
use Rattle.field.proofs.ProductSteps.{alpha_small, alpha_large}
use Rattle.gf.proofs.Field.double.Goals as goal

pub returns-then-d-q : goal.returns-then-d-q
returns-then-d-q c = sym (alpha_small c.args.self.m c.args.y (omega arith) (omega arith))

pub returns-else-d-q : goal.returns-else-d-q
unfolding ◌⊕◌
returns-else-d-q c =
    let m = c.args.self.m in
    let y = c.args.y in
    let e : y * 2 - c.size-q.result ≡ y * 2 - 2 ^ m = omega arith in
    ap₂ ◌⊕◌ e c.reduced.ensures ∙ sym (alpha_large m y (omega arith) (omega arith) (omega arith))
