-- `frame::checks::encode_checks` meets its contract: each check's number, after those that are passed. Assumes nothing.
use mathlib.Core.Path.{◌≡◌, sym, ◌∙◌}
use mathlib.Core.List.{[], ◌∷◌}
use Prim.Native.Nat.{ℕ}
use Rattle.frame.specs.declared.refusal.Refusal.{Refusal}
use Rattle.frame.specs.Numbers.{number}
use Rattle.frame.specs.Refusal.{large_message, small_buffer, first_met, code_refusal, encode_refusal}
use Rattle.frame.proofs.FirstLaws.{first_given, first_passed, code_given, code_clear, passed_on}
use Rattle.frame.proofs.checks.encode_checks.Goals as goal

-- the checks after the code's, where that is known
module _ (m t s message room : ℕ) (clear : code_refusal m t s ≡ 0) where
  large : (e : Refusal) → number e ≡ first_met (large_message m t s message ∷ []) → number e ≡ encode_refusal m t s message room
  unfolding encode_refusal
  large e k =
      code_clear m t s (large_message m t s message ∷ small_buffer m room ∷ []) clear
      (first_given (small_buffer m room ∷ []) (large_message m t s message ∷ []) tt e k)

  small : {r : ℕ} → 0 ≡ first_met (large_message m t s message ∷ []) → r ≡ first_met (small_buffer m room ∷ [])
      → r ≡ encode_refusal m t s message room
  unfolding encode_refusal
  small e k =
      code_clear m t s (large_message m t s message ∷ small_buffer m room ∷ []) clear
      (first_passed (small_buffer m room ∷ []) (large_message m t s message ∷ []) tt (sym e) k)

pub returns-in_err-code-clause-number : goal.returns-in_err-code-clause-number
unfolding encode_refusal
returns-in_err-code-clause-number c =
    let a = c.args in
    let e = c.in_err-code in
    passed_on c.from_residual.result e.field-0.0 c.from_residual.ensures.1
    ∙ code_given a.m a.t a.s (large_message a.m a.t a.s a.message ∷ small_buffer a.m a.room ∷ []) e.field-0.0 e.ensures.number

pub returns-in_err-large_message-clause-number : goal.returns-in_err-large_message-clause-number
returns-in_err-large_message-clause-number c =
    let a = c.args in
    let code = c.in_ok-code.ensures in
    let of = code.code in
    let e = c.in_err-large_message in
    let on = c.from_residual-in_err-large_message in
    passed_on on.result e.field-0.0 on.ensures.1
    ∙ large a.m a.t a.s a.message a.room (sym code.number) e.field-0.0 (rw (of.m_is, of.t_is, of.s_is) at e.ensures)

pub returns-in_err-small_buffer-clause-number : goal.returns-in_err-small_buffer-clause-number
returns-in_err-small_buffer-clause-number c =
    let a = c.args in
    let code = c.in_ok-code.ensures in
    let of = code.code in
    let e = c.in_err-small_buffer in
    let on = c.from_residual-in_err-small_buffer in
    passed_on on.result e.field-0.0 on.ensures.1
    ∙ small a.m a.t a.s a.message a.room (sym code.number) (rw (of.m_is, of.t_is, of.s_is) at c.in_ok-large_message.ensures)
    (rw of.m_is at e.ensures)

pub returns-clause-number : goal.returns-clause-number
returns-clause-number c =
    let a = c.args in
    let code = c.in_ok-code.ensures in
    let of = code.code in
    small a.m a.t a.s a.message a.room (sym code.number) (rw (of.m_is, of.t_is, of.s_is) at c.in_ok-large_message.ensures)
    (rw of.m_is at c.in_ok-small_buffer.ensures)
