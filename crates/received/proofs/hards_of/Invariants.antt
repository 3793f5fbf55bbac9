-- `received::hards_of` meets its contract. The loop's invariant: the hard decisions of the values that came, from the last down, are in.
-- Assumes nothing.
use Prim.Native.Nat.{◌-◌}
use lib.ListN.{length}
use Rattle.received.proofs.ReceiveSteps.{HardsFrom}
use Rattle.received.proofs.hards_of.Given as goal

abbrev pub invariant-loop-v : goal.invariant-loop-v
invariant-loop-v l = HardsFrom l.soft (length l.soft - length l.yielded) l.hards
