-- `unflipped::row_sums` meets its contract. The loop's invariant: the sums, and what the bits that are left add to them, are the
-- rows' sums. Assumes nothing.
use mathlib.Core.Path.{refl}
use native.Mathlib.Omega.{arith}
use Rattle.words.proofs.ShapeLaws.{one_shifted}
use Rattle.prepare.specs.Ones.{Took}
use Rattle.prepare.proofs.OnesLaws.{took, took_none}
use Rattle.prepare.proofs.RowSumLaws.{summed_none, summed_low, summed_more, summed_all}
use Rattle.prepare.proofs.unflipped.row_sums.Goals as goal
use Rattle.prepare.proofs.unflipped.row_sums.Goals.{In-Some}

took_here : (c : In-Some) → Took c.loop-j.j-iterator.0 c.in-Some.j c.next.new.self.0
took_here c = took _ _ _ _ c.in-Some.is c.next.ensures.steps

pub loop-j-init : goal.loop-j-init
loop-j-init c =
    rw c.into_iter-j-iterator.ensures.into_iter_gives
    (summed_none c.args.symbols.now c.args.bits c.args.size _ refl tt _ (one_shifted (omega arith)))

pub add_column-requires : goal.add_column-requires
add_column-requires c =
    let i = (goal.at.add_column-requires c).In-Some in
    (omega (arith, summed_low _ _ _ _ _ _ _ (took_here i) c.requires c.loop-j.invariant), c.loop-j.invariant.full)

pub loop-j-preserved : goal.loop-j-preserved
loop-j-preserved c =
    summed_more _ _ _ _ _ _ _ (took_here (goal.at.loop-j-preserved c).In-Some) c.requires c.loop-j.invariant _ c.add_column.ensures

pub returns : goal.returns
returns c =
    let l = c.loop-j in
    summed_all c.args.symbols.now c.args.bits c.args.size l.sums _ (took_none _ _ _ c.in-None.is c.next.ensures.steps) l.invariant
