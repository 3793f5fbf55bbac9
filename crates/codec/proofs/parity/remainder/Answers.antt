-- `codec::parity::remainder` meets its contract: what is left to divide gives the same remainder at every turn. Assumes nothing.
use mathlib.Core.Path.{◌≡◌, subst}
use Prim.Native.Nat.{ℕ, suc, ◌+◌, ◌-◌}
use native.Mathlib.Omega.{arith}
use Rattle.field.specs.Field.{◌⊕◌}
use Rattle.codes.specs.Code.{dimension_of, parity_of, generator_of}
use Rattle.codes.proofs.ShapeLaws.{length_small, parity_full}
use Rattle.codes.proofs.SystematicWord.{top}
use Rattle.codec.proofs.RemainderSteps.{Dividing, dividing, divided_on, divided}
use Rattle.codec.proofs.parity.remainder.Goals as goal

pub loop-init : goal.loop-init
loop-init c =
    let m = c.args.code.m in
    let t = c.args.code.t in
    let known = c.args.code.known in
    let start : dimension_of m t - 0 ≡ dimension_of m t = omega arith in
    rw (start, c.generator_of.ensures, c.dimension-k.ensures.dimension)
    (dividing (parity_of m t) (generator_of m t) (dimension_of m t) c.args.word (top m t known)
    (omega (arith, parity_full m t known, length_small m known.m_low known.m_high)) c.requires)

pub loop-preserved : goal.loop-preserved
unfolding ◌⊕◌
loop-preserved c =
    let m = c.args.code.m in
    let t = c.args.code.t in
    let k = dimension_of m t in
    let l = c.loop in
    let next : k - l.counter ≡ suc (k - (l.counter + 1)) = omega (arith, c.dimension-k.ensures.dimension) in
    rw c.min-left.ensures
    (divided_on (parity_of m t) (generator_of m t) k c.args.word (top m t c.args.code.known) (k - (l.counter + 1)) l.left l.moved
    (subst (λ (i : ℕ). Dividing (parity_of m t) (generator_of m t) k c.args.word i l.left l.moved) next l.invariant))

pub returns : goal.returns
returns c =
    let m = c.args.code.m in
    let t = c.args.code.t in
    let k = dimension_of m t in
    let l = c.loop in
    let end : k - l.counter ≡ 0 = omega (arith, c.dimension-k.ensures.dimension) in
    divided (parity_of m t) (generator_of m t) k c.args.word l.left l.moved
    (subst (λ (i : ℕ). Dividing (parity_of m t) (generator_of m t) k c.args.word i l.left l.moved) end l.invariant)
