-- `frame::checks::read_checks` meets its contract: each check's number, after those that are passed. Assumes nothing.
use mathlib.Core.Path.{sym, ◌∙◌}
use mathlib.Core.List.{[], ◌∷◌}
use Rattle.frame.specs.Refusal.{small_buffer, read_refusal}
use Rattle.frame.proofs.FirstLaws.{code_given, code_clear, passed_on}
use Rattle.frame.proofs.checks.read_checks.Goals as goal

pub returns-in_err-code-clause-number : goal.returns-in_err-code-clause-number
unfolding read_refusal
returns-in_err-code-clause-number c =
    let a = c.args in
    passed_on c.from_residual.result c.in_err-code.field-0.0 c.from_residual.ensures.1
    ∙ code_given a.m a.t a.s (small_buffer a.m a.room ∷ []) c.in_err-code.field-0.0 c.in_err-code.ensures.number

pub returns-in_err-small_buffer-clause-number : goal.returns-in_err-small_buffer-clause-number
unfolding read_refusal
returns-in_err-small_buffer-clause-number c =
    let a = c.args in
    let code = c.in_ok-code.ensures in
    passed_on c.from_residual-in_err-small_buffer.result c.in_err-small_buffer.field-0.0 c.from_residual-in_err-small_buffer.ensures.1
    ∙ code_clear a.m a.t a.s (small_buffer a.m a.room ∷ []) (sym code.number) (rw code.code.m_is at c.in_err-small_buffer.ensures)

pub returns-clause-number : goal.returns-clause-number
unfolding read_refusal
returns-clause-number c =
    let a = c.args in
    let code = c.in_ok-code.ensures in
    code_clear a.m a.t a.s (small_buffer a.m a.room ∷ []) (sym code.number) (rw code.code.m_is at c.in_ok-small_buffer.ensures)
