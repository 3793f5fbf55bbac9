-- `table::put_row` meets its contract. Assumes nothing.
use mathlib.Core.Path.{ap}
use Prim.Native.Nat.{ℕ, ◌+◌, ◌-◌, ◌*◌}
use native.Mathlib.Omega.{arith}
use lib.ListN.{get_or}
use Rattle.table.proofs.StoreLaws.{written_more}
use Rattle.table.proofs.put_row.Goals as goal

pub loop-p-preserved : goal.loop-p-preserved
loop-p-preserved c =
    let a = c.args in
    let l = c.loop-p in
    let at = get_or a.list.now l.p 0 in
    written_more (λ i. a.q * 64 + i) _ a.rows.now l.p l.rows l.invariant (λ j lj e. omega arith) (omega (arith, c.requires.rows_len.0))
    (at + a.logs.n - c.plus-less.result)
    (ap (λ (u : ℕ). at + a.logs.n - u) c.plus-less.ensures.0)
