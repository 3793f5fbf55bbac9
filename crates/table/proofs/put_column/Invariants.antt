-- `table::put_column` meets its contract. The loop's invariant: the column's cells in the first q rows are written. Assumes nothing.
use Prim.Native.Nat.{◌+◌, ◌*◌}
use lib.ListN.{get_or}
use Rattle.table.proofs.StoreLaws.{Written}
use Rattle.table.proofs.put_column.Given as goal

abbrev pub invariant-loop-q : goal.invariant-loop-q
invariant-loop-q l =
    Written (λ k. k * 63 + l.fn.rank.0)
    (λ k. get_or l.powers (get_or l.exponents (k * 64 + l.fn.position.0) 0) 0) l.initial.table l.q l.table
