-- `items::read_number` meets its contract, by the item's first byte. Assumes nothing.
use mathlib.Core.Path.{sym, ap, ◌∙◌}
use native.Mathlib.Omega.{arith}
use Rattle.std.proofs.Common.{rules}
use Rattle.items.specs.Number.{signed_in}
use Rattle.items.proofs.DigitLaws.{first_minus, first_plain}
use Rattle.items.proofs.read_number.Goals as goal
use Rattle.items.proofs.read_number.Goals.{in-45, in_default, in_default-via-then-item-lt1, in_default-via-else-item-lt1+in_default-1}

pub returns : goal.returns
returns c =
    let item = c.args.item.now in
    c.read_digits.ensures ∙ elim c.if-item-lt1.branch [
      | in-45 w ↦ ap (λ p. signed_in p.0 p.1.now) w.minus-is ∙ sym (first_minus item (omega arith) (omega arith))
      | in_default w ↦
          ap (λ p. signed_in p.0 p.1.now) w.minus-is
          ∙ sym (first_plain item (λ l e. elim w.in_default.branch [
            | in_default-via-then-item-lt1 v ↦ absurd (search rules)
            | in_default-via-else-item-lt1+in_default-1 v ↦ absurd (search rules)
          ]))
    ]
