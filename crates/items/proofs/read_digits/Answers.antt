-- `items::read_digits` meets its contract, by the number of its bytes. Assumes nothing.
use mathlib.Core.Path.{sym, ap, ap₂, ◌∙◌}
use Prim.Native.Nat.{◌+◌, ◌*◌}
use native.Mathlib.Omega.{arith}
use lib.ListN.{get_or}
use Rattle.items.proofs.DigitLaws.{number, wrong_length, other_byte, one, two, three, no_digit, a_digit}
use Rattle.items.proofs.read_digits.Goals as goal

pub returns-in_err-size-in-len1 : goal.returns-in_err-size-in-len1
returns-in_err-size-in-len1 c =
    c.from_residual.ensures
    ∙ sym (other_byte _ _ 0 (omega arith) (no_digit (get_or c.args.digits.now 0 0) c.in_err-size-in-len1.ensures))

pub returns-in_err-digit-in-len2 : goal.returns-in_err-digit-in-len2
returns-in_err-digit-in-len2 c =
    c.from_residual-in_err-digit-in-len2.ensures
    ∙ sym (other_byte _ _ 0 (omega arith) (no_digit (get_or c.args.digits.now 0 0) c.in_err-digit-in-len2.ensures))

pub returns-in_err-digit-in-len2-2 : goal.returns-in_err-digit-in-len2-2
returns-in_err-digit-in-len2-2 c =
    c.from_residual-in_err-digit-in-len2-2.ensures
    ∙ sym (other_byte _ _ 1 (omega arith) (no_digit (get_or c.args.digits.now 1 0) c.in_err-digit-in-len2-2.ensures))

pub returns-in_err-digit-in-len3 : goal.returns-in_err-digit-in-len3
returns-in_err-digit-in-len3 c =
    c.from_residual-in_err-digit-in-len3.ensures
    ∙ sym (other_byte _ _ 0 (omega arith) (no_digit (get_or c.args.digits.now 0 0) c.in_err-digit-in-len3.ensures))

pub returns-in_err-digit-in-len3-2 : goal.returns-in_err-digit-in-len3-2
returns-in_err-digit-in-len3-2 c =
    c.from_residual-in_err-digit-in-len3-2.ensures
    ∙ sym (other_byte _ _ 1 (omega arith) (no_digit (get_or c.args.digits.now 1 0) c.in_err-digit-in-len3-2.ensures))

pub returns-in_err-size-in-len3 : goal.returns-in_err-size-in-len3
returns-in_err-size-in-len3 c =
    c.from_residual-in_err-size-in-len3.ensures
    ∙ sym (other_byte _ _ 2 (omega arith) (no_digit (get_or c.args.digits.now 2 0) c.in_err-size-in-len3.ensures))

pub returns-in_default : goal.returns-in_default
returns-in_default c = sym (wrong_length _ _ (λ low high. omega arith))

pub returns-in_default-2 : goal.returns-in_default-2
returns-in_default-2 c = sym (wrong_length _ _ (λ low high. omega arith))

pub returns-in_ok-size-in-len1 : goal.returns-in_ok-size-in-len1
returns-in_ok-size-in-len1 c =
    let a = a_digit (get_or c.args.digits.now 0 0) _ c.in_ok-size-in-len1.ensures in
    ap (number c.args.minus) a.value ∙ sym (one _ _ (omega arith) a.test)

pub returns-in_ok-digit-in-len2-2 : goal.returns-in_ok-digit-in-len2-2
returns-in_ok-digit-in-len2-2 c =
    let a = a_digit (get_or c.args.digits.now 0 0) _ c.in_ok-digit-in-len2.ensures in
    let b = a_digit (get_or c.args.digits.now 1 0) _ c.in_ok-digit-in-len2-2.ensures in
    ap₂ (λ x y. number c.args.minus (x * 10 + y)) a.value b.value ∙ sym (two _ c.args.digits.now (omega arith) a.test b.test)

pub returns-in_ok-size-in-len3 : goal.returns-in_ok-size-in-len3
returns-in_ok-size-in-len3 c =
    let a = a_digit (get_or c.args.digits.now 0 0) _ c.in_ok-digit-in-len3.ensures in
    let b = a_digit (get_or c.args.digits.now 1 0) _ c.in_ok-digit-in-len3-2.ensures in
    let d = a_digit (get_or c.args.digits.now 2 0) _ c.in_ok-size-in-len3.ensures in
    ap₂ (λ x y. number c.args.minus (x + y)) (ap₂ (λ x y. x * 100 + y * 10) a.value b.value) d.value
    ∙ sym (three _ c.args.digits.now (omega arith) a.test b.test d.test)
