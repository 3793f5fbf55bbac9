-- `chain` meets its contract. Assumes nothing.
use mathlib.Core.Path.{refl}
use native.Mathlib.Omega.{arith}
use lib.ListN.{length-set, get_or-replicate}
use Rattle.parts.proofs.ChainLaws.{chained_start, chained_turn}
use Rattle.parts.proofs.chains.chain.Goals as goal

pub loop-j-init : goal.loop-j-init
loop-j-init c = (refl, chained_start _ _ (λ i l. get_or-replicate 1088 i 0 0 l))

pub loop-j-preserved : goal.loop-j-preserved
loop-j-preserved c =
    let l = c.loop-j in (
      simp length-set l.invariant.0,
      chained_turn _ l.chains l.j c.slot-s.result l.invariant.1 c.slot-s.ensures.0 l.invariant.0 (omega arith),
    )
