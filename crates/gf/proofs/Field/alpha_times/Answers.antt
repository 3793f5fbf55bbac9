-- `gf::Field::alpha_times` meets its contract. The loop's invariant: what is moved so far is a^k times y, an element, after k turns.
-- Assumes nothing.
use mathlib.Core.Path.{ap, sym, ◌∙◌}
use Prim.Native.Nat.{ℕ}
use native.Mathlib.Numerals.{add-one}
use native.Mathlib.Omega.{arith}
use Rattle.field.specs.Field.{alpha_to, times, times_alpha}
use Rattle.field.proofs.FieldLaws.{laws, alpha_lt, power_next}
use Rattle.gf.proofs.Field.alpha_times.Goals as goal

pub loop-init : goal.loop-init
loop-init c =
    let m = c.args.self.m in
    let y = c.args.y in
    let F = laws m (omega arith) (omega arith) in
    (sym (ap (λ (x : ℕ). times m x y) F.pw_zero ∙ F.comm 1 y ∙ F.one y (omega arith)), omega arith)

pub loop-preserved : goal.loop-preserved
loop-preserved c =
    let l = c.loop in
    let m = c.args.self.m in
    let y = c.args.y in (
      c.double-moved.ensures ∙ ap (times_alpha m) l.invariant.0 ∙ power_next m l.counter y (omega arith) (omega arith)
          ∙ sym (ap (λ (x : ℕ). times m (alpha_to m x) y) (add-one l.counter)),
      omega (arith, alpha_lt m l.moved (omega arith) (omega arith)),
    )
