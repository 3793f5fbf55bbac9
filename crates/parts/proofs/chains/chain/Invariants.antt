-- `chain` meets its contract. The loop's invariant: the ranks below j are in chains. Assumes nothing.
use mathlib.Core.Path.{◌≡◌}
use lib.ListN.{length}
use Rattle.parts.specs.Chains.{Chained}
use Rattle.parts.proofs.chains.chain.Given as goal

abbrev pub invariant-loop-j : goal.invariant-loop-j
invariant-loop-j l = (length l.chains ≡ 1088) × Chained l.parts l.j l.chains
