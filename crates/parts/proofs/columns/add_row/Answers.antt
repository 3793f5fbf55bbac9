-- `add_row` meets its contract. Assumes nothing.
use mathlib.Core.Path.{sym, ap, ap₂, ◌∙◌}
use mathlib.Core.Logic.{by_cases}
use Prim.Native.Nat.{ℕ, ◌+◌, ◌*◌, ◌/◌, ◌^◌, ◌<◌}
use native.Mathlib.Decide.{ℕ_discrete}
use native.Mathlib.Omega.{arith}
use lib.ListN.{length, get_or, set, length-set}
use lib.Seq.{get_or-set_same, get_or-set_other}
use Rattle.field.specs.Field.{◌⊕◌}
use Rattle.parts.proofs.columns.add_row.Goals as goal

pub loop-j-preserved : goal.loop-j-preserved
unfolding ◌⊕◌
loop-j-preserved c =
    let a = c.args in
    let l = c.loop-j in
    let v : ℕ = get_or l.parts l.j 0 ⊕ c.moved.result in
    let fit : l.j < length l.parts = omega arith in (
      length-set l.parts l.j _ ∙ l.invariant.0,
      λ k lt. by_cases (ℕ_discrete k l.j)
          (λ same. ap (λ (x : ℕ). get_or (set l.parts l.j v) x 0) same ∙ get_or-set_same l.parts l.j v 0 fit
          ∙ ap₂ ◌⊕◌ (l.invariant.2 l.j (omega arith)) c.moved.ensures
          ∙ ap (λ (x : ℕ). get_or a.parts.now x 0 ⊕ get_or a.symbols.now (a.q * 63 + x) 0 / 2 * 2 ^ (4 * a.q)) (sym same))
          (λ other. get_or-set_other l.parts l.j k _ 0 other ∙ l.invariant.1 k (omega arith)),
      λ k le. get_or-set_other l.parts l.j k _ 0 (λ e. omega arith) ∙ l.invariant.2 k (omega arith),
    )
