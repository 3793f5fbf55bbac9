-- `table::put_row` meets its contract. The loop's invariant: the row's first p exponents are written. Assumes nothing.
use Prim.Native.Nat.{◌+◌, ◌-◌, ◌*◌, ◌%◌}
use lib.ListN.{get_or}
use Rattle.table.proofs.StoreLaws.{Written}
use Rattle.table.proofs.put_row.Given as goal

abbrev pub invariant-loop-p : goal.invariant-loop-p
invariant-loop-p l =
    Written (λ i. l.q * 64 + i)
    (λ i. get_or l.list i 0 + l.logs.n - (l.own + get_or l.logs.zech.now (l.from + i) 0) % l.logs.n) l.initial.rows l.p l.rows
