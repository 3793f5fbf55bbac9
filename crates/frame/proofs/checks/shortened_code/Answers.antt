-- `frame::checks::shortened_code` meets its contract: each check's number, after those that are passed. Assumes nothing.
use mathlib.Core.Path.{sym, ◌∙◌}
use mathlib.Core.List.{[], ◌∷◌}
use Rattle.frame.specs.Refusal.{unknown_code, too_short, code_refusal}
use Rattle.frame.proofs.FirstLaws.{first_given, first_passed, passed_on}
use Rattle.frame.proofs.checks.shortened_code.Goals as goal

pub returns-in_err-code-clause-number : goal.returns-in_err-code-clause-number
unfolding code_refusal
returns-in_err-code-clause-number c =
    let a = c.args in
    passed_on c.from_residual.result c.in_err-code.field-0.0 c.from_residual.ensures.1
    ∙ first_given (too_short a.m a.t a.s ∷ []) (unknown_code a.m a.t ∷ []) tt c.in_err-code.field-0.0 c.in_err-code.ensures.number

pub returns-clause-number : goal.returns-clause-number
unfolding code_refusal
returns-clause-number c =
    let a = c.args in
    let known = c.in_ok-code.ensures in
    first_passed (too_short a.m a.t a.s ∷ []) (unknown_code a.m a.t ∷ []) tt (sym known.number)
    (rw (known.code.0, known.code.1) at c.shortened.ensures.number)
