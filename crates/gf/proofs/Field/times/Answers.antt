-- `gf::Field::times` meets its contract. The loop's invariant: the sum so far and what the coefficients of x that are left add to it
-- make the product. Assumes nothing.
use mathlib.Core.Path.{◌≡◌, ap₂, ◌∙◌}
use Prim.Native.Nat.{ℕ, ◌+◌, ◌-◌, ◌/◌}
use native.Mathlib.Omega.{arith}
use Rattle.field.specs.Field.{◌⊕◌, shift_add, times_alpha}
use Rattle.field.proofs.ProductSteps.{round_even, round_odd, round_last, shift_all}
use Rattle.field.proofs.FieldLaws.{alpha_lt}
use Rattle.gf.proofs.Field.times.Goals as goal
use Rattle.gf.proofs.Field.times.Goals.{then-rest-eq1, else-rest-eq1}

pub loop-init : goal.loop-init
loop-init c = (shift_all c.args.self.m c.args.x c.args.y (omega arith), omega arith)

pub loop-preserved : goal.loop-preserved
unfolding ◌⊕◌
loop-preserved c =
    let l = c.loop in
    let m = c.args.self.m in
    let k = m - (l.counter + 1) in
    let d : c.double-shifted.result ≡ times_alpha m l.shifted = c.double-shifted.ensures in (
      elim c.if-rest-eq1.branch [
        | then-rest-eq1 w ↦ ap₂ (λ (u v : ℕ). u ⊕ shift_add m k (l.rest / 2) v) w.sum-is d
            ∙ round_odd m l.counter l.rest l.shifted l.sum _ (omega arith) (omega arith) l.invariant.0
        | else-rest-eq1 w ↦ ap₂ (λ (u v : ℕ). u ⊕ shift_add m k (l.rest / 2) v) w.sum-is d
            ∙ round_even m l.counter l.rest l.shifted l.sum _ (omega arith) (omega arith) l.invariant.0
      ],
      omega (arith, alpha_lt m l.shifted (omega arith) (omega arith)),
    )

pub returns : goal.returns
returns c = round_last _ _ _ _ _ _ (omega arith) c.loop.invariant.0
