-- `table::products::Logs::add_run` meets its contract. Assumes nothing.
use mathlib.Core.Path.{ap, ◌∙◌}
use Prim.Native.Nat.{ℕ, ◌+◌, ◌%◌}
use native.Mathlib.Omega.{arith}
use lib.ListN.{get_or}
use Rattle.table.proofs.StoreLaws.{written_more}
use Rattle.table.proofs.products.Logs.add_run.Goals as goal

pub loop-p-preserved : goal.loop-p-preserved
loop-p-preserved c =
    let l = c.loop-p in
    let z = get_or c.args.self.zech.now (c.args.from + l.p) 0 in
    let same = l.invariant.old l.p (λ j lj e. omega arith) in
    written_more (λ i. i) _ c.args.list.now l.p l.list l.invariant (λ j lj e. omega arith) (omega (arith, c.requires.1))
    c.plus.result
    (c.plus.ensures.0 ∙ ap (λ (u : ℕ). (u + z) % c.args.self.n) same)
