-- `cases::scan::row` meets its contract: a rest of a rest of the line is a rest of the line. Assumes nothing.
use Rattle.std.proofs.Common.{◌∙◌, ◌++◌, append_assoc, ap, arith, sym}
use Rattle.cases.proofs.scan.row.Goals as goal

pub loop-preserved : goal.loop-preserved
loop-preserved c =
    let line = c.loop.invariant.1 in
    let rest = c.after-rest.ensures.rest in (
      omega (arith, c.loop.invariant.0, c.after-rest.ensures.shorter),
      (line.0 ++ rest.0, line.1 ∙ ap (λ r. line.0 ++ r) rest.1 ∙ sym (append_assoc line.0 rest.0 c.after-rest.result.now)),
    )
