-- `table::cell_exponents` meets its contract. The loop's invariant: the first q rows are in their places. Assumes nothing.
use lib.ListN.{length}
use Rattle.ranks.specs.Places.{place_in}
use Rattle.table.specs.Table.{CellExponents}
use Rattle.table.proofs.cell_exponents.Given as goal

abbrev pub invariant-loop-q : goal.invariant-loop-q
invariant-loop-q l = CellExponents l.logs.n l.logs.zech.now (place_in l.outside) (length l.outside) l.q l.table
