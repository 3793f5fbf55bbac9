-- `unflipped::add_column` meets its contract. The loop's invariant: the cells of the first q rows are added. Assumes nothing.
use mathlib.Core.Path.{ap, ◌∙◌}
use Prim.Native.Nat.{ℕ, ◌+◌, ◌*◌}
use native.Mathlib.Omega.{arith}
use lib.ListN.{get_or}
use Rattle.field.specs.Field.{◌⊕◌}
use Rattle.table.proofs.StoreLaws.{written_none, written_more}
use Rattle.prepare.proofs.unflipped.add_column.Goals as goal

pub loop-q-init : goal.loop-q-init
loop-q-init c = written_none _ _ _

pub loop-q-preserved : goal.loop-q-preserved
unfolding ◌⊕◌
loop-q-preserved c =
    let a = c.args in
    let l = c.loop-q in
    let x = get_or a.symbols.now (l.q * 63 + a.j) 0 in
    let same = l.invariant.old l.q (λ k lk e. omega arith) in
    written_more (λ k. k) _ a.sums.now l.q l.sums l.invariant (λ k lk e. omega arith) (omega (arith, c.requires.1))
    (get_or l.sums l.q 0 ⊕ x)
    (ap (λ (u : ℕ). u ⊕ x) same)

pub returns : goal.returns
returns c =
    let w = c.loop-q.invariant in
    record { full = w.size ∙ c.requires.1; sums = λ q l. w.new q (omega arith) }
