-- `received::reliabilities_of` meets its contract. The loop's invariant: the reliabilities of the first p values are in, and the
-- positions from p on are as if unsent. Assumes nothing.
use Rattle.received.proofs.ReceiveSteps.{FirstIn}
use Rattle.received.proofs.reliabilities_of.Given as goal

abbrev pub invariant-loop-p : goal.invariant-loop-p
invariant-loop-p l = FirstIn l.soft l.p l.reliability
