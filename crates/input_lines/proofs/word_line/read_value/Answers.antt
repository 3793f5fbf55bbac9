-- `input_lines::word_line::read_value` meets its contract. Assumes nothing.
use mathlib.Core.Path.{sym, ap, ◌∙◌}
use Rattle.input_lines.specs.WordLine.{signed}
use Rattle.input_lines.proofs.NumberLaws.{valued, valued_is}
use Rattle.input_lines.proofs.SignedLaws.{size_held, no_size, plus_held, minus_held, valued_by, valued_none}
use Rattle.input_lines.proofs.word_line.read_value.Goals as goal
use Rattle.input_lines.proofs.word_line.read_value.Goals.{then-number, else-number}

pub returns-in_err-number : goal.returns-in_err-number
returns-in_err-number c = c.from_residual.ensures ∙ ap valued c.in_err-number.ensures ∙ valued_is c.args.item.now

pub returns-in_err-size : goal.returns-in_err-size
returns-in_err-size c =
    let n = c.in_ok-number.number in
    c.from_residual-in_err-size.ensures
    ∙ sym (valued_none n (no_size n.size c.try_from.result c.in_err-size.ensures.value c.try_from.ensures))
    ∙ ap valued c.in_ok-number.ensures ∙ valued_is c.args.item.now

pub returns : goal.returns
returns c =
    let n = c.in_ok-number.number in
    let h = size_held n.size c.in_ok-size.size c.try_from.result c.in_ok-size.ensures.value c.try_from.ensures in
    c.ok-2.ensures.value
    ∙ valued_by n _ _ (elim c.if-number.branch [
      | then-number w ↦ w.value-is ∙ minus_held _ _ h ∙ ap (λ b. signed b n.size) (sym w.if-number.true)
      | else-number w ↦ w.value-is ∙ plus_held _ _ h ∙ ap (λ b. signed b n.size) (sym w.if-number.false)
    ]) c.try_from-2.ensures
    ∙ ap valued c.in_ok-number.ensures ∙ valued_is c.args.item.now
