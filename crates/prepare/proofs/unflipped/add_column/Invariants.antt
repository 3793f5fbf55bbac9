-- `unflipped::add_column` meets its contract. The loop's invariant: the cells of the first q rows are added. Assumes nothing.
use Prim.Native.Nat.{◌+◌, ◌*◌}
use lib.ListN.{get_or}
use Rattle.field.specs.Field.{◌⊕◌}
use Rattle.table.proofs.StoreLaws.{Written}
use Rattle.prepare.proofs.unflipped.add_column.Given as goal

abbrev pub invariant-loop-q : goal.invariant-loop-q
invariant-loop-q l =
    Written (λ k. k) (λ k. get_or l.initial.sums k 0 ⊕ get_or l.symbols (k * 63 + l.j) 0) l.initial.sums l.q l.sums
