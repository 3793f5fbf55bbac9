-- The value of a binary word at a^e as a loop over its bits takes it, the lowest first. Assumes nothing.
use mathlib.Core.Path.{◌≡◌, sym, ap, ap₂, ◌∙◌}
use Prim.Native.Nat.{ℕ, zero, suc, ◌*◌, ◌/◌, ◌%◌, ◌^◌, ◌<◌}
use native.Mathlib.Omega.{arith}
use Rattle.field.specs.Field.{◌⊕◌, times, alpha_to, length_of}
use Rattle.field.specs.Laws.{Laws}
use Rattle.field.proofs.XorLaws.{zero_xor, xor_zero, xor_half, xor_odd, xor_assoc}
use Rattle.field.proofs.XorSumLaws.{xorsum_one}
use Rattle.field.proofs.RingLaws.{left_comm, times_zero, zero_times}
use Rattle.codes.specs.Codeword.{bit_of, value_at}
use Rattle.codes.proofs.WordLaws.{bit_power_same, bit_power_other}
use Rattle.codes.proofs.RootLaws.{one_lt}
use Rattle.codes.proofs.GeneratorRight.{at_zero, at_lt, at_bits, at_shift}

halves : (w : ℕ) → w ≡ w % 2 ⊕ w / 2 * 2
halves w =
    let none : w % 2 / 2 ≡ 0 = omega arith in
    let half : w / 2 * 2 / 2 ≡ w / 2 = omega arith in
    let bit : w % 2 % 2 ≡ w % 2 = omega arith in
    let even : w / 2 * 2 % 2 ≡ 0 = omega arith in
    let high : (w % 2 ⊕ w / 2 * 2) / 2 ≡ w / 2 = xor_half (w % 2) (w / 2 * 2) ∙ ap₂ ◌⊕◌ none half ∙ zero_xor (w / 2) in
    let low : (w % 2 ⊕ w / 2 * 2) % 2 ≡ w % 2 = xor_odd (w % 2) (w / 2 * 2) ∙ ap₂ ◌⊕◌ bit even ∙ xor_zero (w % 2) in
    omega arith

module _ (m : ℕ) (F : Laws m) (e : ℕ) where
  open F use {comm, assoc, over_xor, one, pw_zero, n_pos}

  abbrev at : ℕ → ℕ
  at w = value_at m (bit_of w) e

  value_bit : (b : ℕ) → b < 2 → at b ≡ b
  unfolding value_at
  value_bit zero h = at_zero m F e
  value_bit (suc zero) h =
      xorsum_one (length_of m) (λ p. times m (bit_of 1 p) (alpha_to m (p * e))) 0 n_pos
      (λ p _ n. ap (λ (u : ℕ). times m u (alpha_to m (p * e))) (bit_power_other 0 p n) ∙ zero_times m F (alpha_to m (p * e)))
      ∙ ap₂ (times m) (bit_power_same 0) (ap (alpha_to m) (omega arith) ∙ pw_zero) ∙ one 1 (one_lt m F)
  value_bit (suc (suc b)) h = absurd (omega arith)

  value_half : (w : ℕ) → w < 2 ^ length_of m → at w ≡ w % 2 ⊕ times m (alpha_to m e) (at (w / 2))
  value_half w h =
      ap at (halves w) ∙ at_bits m F (w % 2) (w / 2 * 2) e
      ∙ ap₂ ◌⊕◌ (value_bit (w % 2) (omega arith)) (at_shift m F (w / 2) e (omega arith))

  -- one turn: what is summed, and the power times the value of the bits that are left
  module _ (sum power rest : ℕ) (small : rest < 2 ^ length_of m) where
    moved : sum ⊕ times m power (at rest) ≡ sum ⊕ times m power (rest % 2) ⊕ times m (times m (alpha_to m e) power) (at (rest / 2))
    moved =
        ap (λ (u : ℕ). sum ⊕ times m power u) (value_half rest small)
        ∙ ap (λ (u : ℕ). sum ⊕ u) (over_xor power (rest % 2) (times m (alpha_to m e) (at (rest / 2)))
        ∙ ap (λ (u : ℕ). times m power (rest % 2) ⊕ u)
        (left_comm m F power (alpha_to m e) (at (rest / 2)) ∙ sym (assoc (alpha_to m e) power (at (rest / 2)))))
        ∙ sym (xor_assoc sum (times m power (rest % 2)) (times m (times m (alpha_to m e) power) (at (rest / 2))))

    abbrev next : ℕ → ℕ
    next u = u ⊕ times m (times m (alpha_to m e) power) (at (rest / 2))

    pub turn_odd : power < 2 ^ m → rest % 2 ≡ 1 → next (sum ⊕ power) ≡ sum ⊕ times m power (at rest)
    turn_odd h o = sym (moved ∙ ap (λ (u : ℕ). next (sum ⊕ u)) (ap (times m power) o ∙ one power h))

    pub turn_even : rest % 2 ≡ 0 → next sum ≡ sum ⊕ times m power (at rest)
    turn_even o = sym (moved ∙ ap next (ap (λ (u : ℕ). sum ⊕ u) (ap (times m power) o ∙ times_zero m F power) ∙ xor_zero sum))

  pub turn_first : (w : ℕ) → 0 ⊕ times m 1 (at w) ≡ at w
  turn_first w = zero_xor (times m 1 (at w)) ∙ comm 1 (at w) ∙ one (at w) (at_lt m F (bit_of w) e)

  pub turn_last : (sum power : ℕ) → sum ⊕ times m power (at 0) ≡ sum
  turn_last sum power = ap (λ (u : ℕ). sum ⊕ u) (ap (times m power) (at_zero m F e) ∙ times_zero m F power) ∙ xor_zero sum
