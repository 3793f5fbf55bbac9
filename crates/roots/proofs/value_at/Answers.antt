-- `roots::value_at` meets its contract. The loop's invariant: the sum so far and the power times the value of what is left of the word make
-- the word's value. The measure is what is left. Assumes nothing.
use mathlib.Core.Path.{◌≡◌, ap, ap₂, sym, ◌∙◌}
use Prim.Native.Nat.{ℕ, ◌/◌}
use native.Mathlib.Omega.{arith}
use Rattle.field.specs.Field.{◌⊕◌, times, alpha_to, length_of}
use Rattle.field.proofs.FieldLaws.{laws}
use Rattle.codes.specs.Codeword.{bit_of, value_at}
use Rattle.codes.proofs.ValueSteps.{turn_odd, turn_even, turn_first, turn_last}
use Rattle.roots.proofs.value_at.Goals as goal
use Rattle.roots.proofs.value_at.Goals.{else-rest-eq1, then-rest-eq1}

pub loop-rest-init : goal.loop-rest-init
unfolding length_of
loop-rest-init c =
    let m = c.args.m in
    let F = laws m (omega arith) (omega arith) in
    (turn_first m F c.args.e c.args.word, omega (arith, F.n_pos), omega arith)

pub loop-rest-preserved : goal.loop-rest-preserved
unfolding ◌⊕◌
loop-rest-preserved c =
    let l = c.loop-rest in
    let m = c.args.m in
    let e = c.args.e in
    let F = laws m (omega arith) (omega arith) in
    let v = value_at m (bit_of (l.rest / 2)) e in
    let r : c.alpha_times-power.result ≡ times m (alpha_to m e) l.power = rw c.new-field.ensures at c.alpha_times-power.ensures in (
      elim c.if-rest-eq1.branch [
        | then-rest-eq1 w ↦ ap₂ (λ (u p : ℕ). u ⊕ times m p v) w.sum-is r
            ∙ turn_odd m F e l.sum l.power l.rest (omega arith) (omega arith) (omega arith) ∙ l.invariant.0
        | else-rest-eq1 w ↦ ap₂ (λ (u p : ℕ). u ⊕ times m p v) w.sum-is r
            ∙ turn_even m F e l.sum l.power l.rest (omega arith) (omega arith) ∙ l.invariant.0
      ],
      omega (arith, r, F.times_lt (alpha_to m e) l.power),
      omega arith,
    )

pub returns : goal.returns
returns c =
    let l = c.loop-rest in
    let m = c.args.m in
    let F = laws m (omega arith) (omega arith) in
    let z : l.rest ≡ 0 = omega arith in
    sym (turn_last m F c.args.e l.sum l.power)
    ∙ ap (λ (x : ℕ). l.sum ⊕ times m l.power (value_at m (bit_of x) c.args.e)) (sym z) ∙ l.invariant.0
