-- `placed` meets its contract: in each turn the lowest rank that is left goes into the word and the flips. Assumes nothing.
use Rattle.prepare.specs.PlanOf.{plan_of}
use Rattle.candidates.proofs.WeighSteps.{Left}
use Rattle.candidates.proofs.pattern.placed.Given as goal

abbrev pub invariant-loop-i : goal.invariant-loop-i
invariant-loop-i l = Left (plan_of l.p) l.ranks l.word l.flips l.i-iterator.0
