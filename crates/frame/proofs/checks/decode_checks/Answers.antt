-- `frame::checks::decode_checks` meets its contract: each check's number, after those that are passed. Assumes nothing.
use mathlib.Core.Path.{◌≡◌, sym, ◌∙◌}
use mathlib.Core.List.{[], ◌∷◌}
use Prim.Native.Nat.{ℕ}
use Rattle.frame.specs.declared.refusal.Refusal.{Refusal}
use Rattle.frame.specs.Numbers.{number}
use Rattle.frame.specs.Refusal.{wrong_count, small_buffer, first_met, header_refusal, decode_refusal}
use Rattle.frame.proofs.FirstLaws.{first_given, first_passed, header_given, header_clear, passed_on}
use Rattle.frame.proofs.checks.decode_checks.Goals as goal

-- the checks after the header's, where those are passed
module _ (m t s order values room : ℕ) (clear : header_refusal m t s order ≡ 0) where
  count : (e : Refusal) → number e ≡ first_met (wrong_count m s values ∷ []) → number e ≡ decode_refusal m t s order values room
  unfolding decode_refusal
  count e k =
      header_clear m t s order (wrong_count m s values ∷ small_buffer m room ∷ []) clear
      (first_given (small_buffer m room ∷ []) (wrong_count m s values ∷ []) tt e k)

  small : {r : ℕ} → 0 ≡ first_met (wrong_count m s values ∷ []) → r ≡ first_met (small_buffer m room ∷ [])
      → r ≡ decode_refusal m t s order values room
  unfolding decode_refusal
  small e k =
      header_clear m t s order (wrong_count m s values ∷ small_buffer m room ∷ []) clear
      (first_passed (small_buffer m room ∷ []) (wrong_count m s values ∷ []) tt (sym e) k)

pub returns-in_err-code-clause-number : goal.returns-in_err-code-clause-number
unfolding decode_refusal
returns-in_err-code-clause-number c =
    let a = c.args in
    let e = c.in_err-code in
    passed_on c.from_residual.result e.field-0.0 c.from_residual.ensures.1
    ∙ header_given a.m a.t a.s a.order (wrong_count a.m a.s a.values ∷ small_buffer a.m a.room ∷ []) e.field-0.0 e.ensures.number

pub returns-in_err-wrong_count-clause-number : goal.returns-in_err-wrong_count-clause-number
returns-in_err-wrong_count-clause-number c =
    let a = c.args in
    let code = c.in_ok-code.ensures in
    let of = code.code in
    let e = c.in_err-wrong_count in
    let on = c.from_residual-in_err-wrong_count in
    passed_on on.result e.field-0.0 on.ensures.1
    ∙ count a.m a.t a.s a.order a.values a.room (sym code.number) e.field-0.0 (rw (of.m_is, of.s_is) at e.ensures)

pub returns-in_err-small_buffer-clause-number : goal.returns-in_err-small_buffer-clause-number
returns-in_err-small_buffer-clause-number c =
    let a = c.args in
    let code = c.in_ok-code.ensures in
    let of = code.code in
    let e = c.in_err-small_buffer in
    let on = c.from_residual-in_err-small_buffer in
    passed_on on.result e.field-0.0 on.ensures.1
    ∙ small a.m a.t a.s a.order a.values a.room (sym code.number) (rw (of.m_is, of.s_is) at c.in_ok-wrong_count.ensures)
    (rw of.m_is at e.ensures)

pub returns-clause-number : goal.returns-clause-number
returns-clause-number c =
    let a = c.args in
    let code = c.in_ok-code.ensures in
    let of = code.code in
    small a.m a.t a.s a.order a.values a.room (sym code.number) (rw (of.m_is, of.s_is) at c.in_ok-wrong_count.ensures)
    (rw of.m_is at c.in_ok-small_buffer.ensures)
