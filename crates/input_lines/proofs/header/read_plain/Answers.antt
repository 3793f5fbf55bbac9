-- `input_lines::header::read_plain` meets its contract. Assumes nothing.
use mathlib.Core.Path.{sym, ap, ◌∙◌}
use Rattle.std.specs.Prelude.{cond, Some, None}
use Rattle.input_lines.proofs.NumberLaws.{plain, plain_is}
use Rattle.input_lines.proofs.header.read_plain.Goals as goal

pub returns-in_err-number : goal.returns-in_err-number
returns-in_err-number c = c.from_residual.ensures ∙ ap plain c.in_err-number.ensures ∙ plain_is c.args.item.now

pub returns-then-number : goal.returns-then-number
returns-then-number c =
    let n = c.in_ok-number.number in
    ap (λ b. cond b None (Some n.size)) (sym c.if-number.true) ∙ ap plain c.in_ok-number.ensures ∙ plain_is c.args.item.now

pub returns-else-number : goal.returns-else-number
returns-else-number c =
    let n = c.in_ok-number.number in
    ap (λ b. cond b None (Some n.size)) (sym c.if-number.false) ∙ ap plain c.in_ok-number.ensures ∙ plain_is c.args.item.now
