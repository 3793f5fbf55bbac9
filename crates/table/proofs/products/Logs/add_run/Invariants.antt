-- `table::products::Logs::add_run` meets its contract. The loop's invariant: the first p entries have their sum, the others are as they
-- were. Assumes nothing.
use Prim.Native.Nat.{◌+◌, ◌%◌}
use lib.ListN.{get_or}
use Rattle.table.proofs.StoreLaws.{Written}
use Rattle.table.proofs.products.Logs.add_run.Given as goal

abbrev pub invariant-loop-p : goal.invariant-loop-p
invariant-loop-p l =
    Written (λ i. i) (λ i. (get_or l.initial.list i 0 + get_or l.self.zech.now (l.from + i) 0) % l.self.n) l.initial.list l.p l.list
