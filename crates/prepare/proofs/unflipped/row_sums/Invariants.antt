-- `unflipped::row_sums` meets its contract. The loop's invariant: the sums, and what the bits that are left add to them, are the
-- rows' sums. Assumes nothing.
use Rattle.prepare.proofs.RowSumLaws.{Summed}
use Rattle.prepare.proofs.unflipped.row_sums.Given as goal

abbrev pub invariant-loop-j : goal.invariant-loop-j
invariant-loop-j l = Summed l.symbols l.bits l.size l.sums l.j-iterator.0
