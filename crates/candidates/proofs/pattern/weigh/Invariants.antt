-- `weigh` meets its contract: in each turn the lowest rank that is left goes into the distance. Assumes nothing.
use Rattle.prepare.specs.PlanOf.{plan_of}
use Rattle.candidates.proofs.WeighSteps.{Far}
use Rattle.candidates.proofs.pattern.weigh.Given as goal

abbrev pub invariant-loop-rank : goal.invariant-loop-rank
invariant-loop-rank l = Far (plan_of l.fn.p) l.ranks l.distance l.rank-iterator.0
