-- `pattern` meets its contract. In each turn of the inner loop the lowest flip that is left goes into the symbol; in each turn of the
-- outer one a symbol that is 0 or 1 goes into `bits`; at any other both are left. Assumes nothing.
use Rattle.prepare.specs.PlanOf.{plan_of}
use Rattle.candidates.proofs.PatternSteps.{Summed, Binary}
use Rattle.candidates.proofs.pattern.pattern.Given as goal

abbrev pub invariant-loop-rank : goal.invariant-loop-rank
invariant-loop-rank l = Summed (plan_of l.p) l.flips l.q l.symbol l.left.0

abbrev pub invariant-loop-q : goal.invariant-loop-q
invariant-loop-q l = Binary (plan_of l.p) l.flips l.bits l.q
