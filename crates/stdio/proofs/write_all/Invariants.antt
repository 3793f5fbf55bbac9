-- `stdio::write_all` gives back no more than there is. Assumes nothing.
use Rattle.std.proofs.Common.{◌≤◌, length}
use Rattle.stdio.proofs.write_all.Given as goal

abbrev pub invariant-loop : goal.invariant-loop
invariant-loop g l = l.done ≤ length l.text
