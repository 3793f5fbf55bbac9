-- `received::reliabilities_of` meets its contract. Assumes nothing.
use native.Mathlib.Omega.{arith}
use borrow.Author.Rules.{rules}
use lib.IntN.{pos}
use lib.ListN.{get_or}
use mir.Syntax.{w8}
use mir.ValLaws.{to_z-of_z}
use Rattle.received.proofs.ReceiveSteps.{none_in, one_more_in, all_in}
use Rattle.received.proofs.reliabilities_of.Goals as goal

pub loop-p-init : goal.loop-p-init
loop-p-init c = none_in c.args.soft.now

pub loop-p-preserved : goal.loop-p-preserved
loop-p-preserved c =
    let l = c.loop-p in
    let soft = c.args.soft.now in
    one_more_in soft l.p l.reliability l.invariant _ c.unsigned_abs.result (omega arith) (omega arith)
    (to_z-of_z w8 (get_or soft l.p (pos 0)) (search rules)) (c.unsigned_abs.ensures.value, c.unsigned_abs.ensures.bound)

pub returns : goal.returns
returns c =
    let l = c.loop-p in
    all_in c.args.soft.now l.p l.reliability l.invariant (omega arith)
