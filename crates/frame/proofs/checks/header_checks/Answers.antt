-- `frame::checks::header_checks` meets its contract: each check's number, after those that are passed. Assumes nothing.
use mathlib.Core.Path.{sym, ◌∙◌}
use mathlib.Core.List.{[], ◌∷◌}
use Rattle.frame.specs.Refusal.{high_order, header_refusal}
use Rattle.frame.proofs.FirstLaws.{code_given, code_clear, passed_on}
use Rattle.frame.proofs.checks.header_checks.Goals as goal

pub returns-in_err-code-clause-number : goal.returns-in_err-code-clause-number
unfolding header_refusal
returns-in_err-code-clause-number c =
    let a = c.args in
    passed_on c.from_residual.result c.in_err-code.field-0.0 c.from_residual.ensures.1
    ∙ code_given a.m a.t a.s (high_order a.order ∷ []) c.in_err-code.field-0.0 c.in_err-code.ensures.number

pub returns-in_err-high_order-clause-number : goal.returns-in_err-high_order-clause-number
unfolding header_refusal
returns-in_err-high_order-clause-number c =
    let a = c.args in
    passed_on c.from_residual-in_err-high_order.result c.in_err-high_order.field-0.0 c.from_residual-in_err-high_order.ensures.1
    ∙ code_clear a.m a.t a.s (high_order a.order ∷ []) (sym c.in_ok-code.ensures.number) c.in_err-high_order.ensures

pub returns-clause-number : goal.returns-clause-number
unfolding header_refusal
returns-clause-number c =
    let a = c.args in
    code_clear a.m a.t a.s (high_order a.order ∷ []) (sym c.in_ok-code.ensures.number) c.in_ok-high_order.ensures
