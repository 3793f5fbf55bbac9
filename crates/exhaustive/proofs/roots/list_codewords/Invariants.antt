-- `exhaustive::roots::list_codewords` is safe: the count is at most the length of the list. Assumes nothing.
use Rattle.std.proofs.Common.{◌≤◌, length}
use Rattle.exhaustive.proofs.roots.list_codewords.Given as goal

abbrev pub invariant-loop-w : goal.invariant-loop-w
invariant-loop-w l = l.count ≤ length l.list
