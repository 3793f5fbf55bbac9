-- `lines::answer::answer_header` meets its contract. Assumes nothing.
use mathlib.Core.Path.{refl, sym, ap, ◌∙◌}
use native.Mathlib.Omega.{arith}
use Rattle.output_lines.specs.Output.{refused_line}
use Rattle.lines.proofs.AnswerLaws.{says_header, says_nothing, says_refused}
use Rattle.lines.proofs.answer.answer_header.Goals as goal

pub returns-in_default : goal.returns-in_default
returns-in_default c = rw (c.in_default.is, says_header) c.put_header.ensures

pub returns-in-Ok : goal.returns-in-Ok
returns-in-Ok c =
    rw (c.in-Some.is, says_nothing c.in-Some.h (sym c.in-Ok.ensures.number)) (record { size = refl; holds = refl })

pub returns-in-Err : goal.returns-in-Err
returns-in-Err c =
    let n = c.number.ensures in
    let is = n.number ∙ c.in-Err.ensures.number in
    rw (c.in-Some.is, says_refused c.in-Some.h (λ z. omega (arith, n.above, is, z)) ∙ ap refused_line (sym is))
    c.put_refused.ensures
