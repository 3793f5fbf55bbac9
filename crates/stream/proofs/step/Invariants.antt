-- `stream::step` meets its contract. Assumes nothing.
use Prim.Native.Nat.{◌-◌}
use lib.ListN.{length}
use Rattle.stream.specs.Stepped.{memory_of}
use Rattle.stream.proofs.BlockSteps.{Turned}
use Rattle.stream.proofs.step.Given as goal

abbrev pub invariant-loop-end : goal.invariant-loop-end
invariant-loop-end l = Turned (memory_of l.initial.current l.initial.line) l.block l.initial.out l.current l.line l.out l.at l.wrote

abbrev pub decreases-loop-end : goal.decreases-loop-end
decreases-loop-end l = length l.block - l.at
