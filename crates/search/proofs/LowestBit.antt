-- The lowest set bit, as g & (g - 1) clears it, and one turn of a loop over the set bits of g: j = trailing_zeros(g), then g & (g - 1).
-- Assumes nothing.
use mathlib.Core.Path.{◌≡◌, refl, sym, ap, ◌∙◌}
use Prim.Native.Nat.{ℕ, zero, suc, ◌+◌, ◌-◌, ◌/◌, ◌%◌, ◌^◌, ◌≤◌, ◌<◌}
use native.Mathlib.Nat.{pow-suc, zero-min, min-zero, lt_of_lt_of_le}
use native.Mathlib.Omega.{arith}
use lib.Count.{count_trailing_zeros, under}
use lib.Pow.{pow_mono}
use lib.Bits.{bit_and, and_step, xor_step, and_self, and_le_r, xor_zero_r}
use Rattle.field.specs.Field.{◌⊕◌}
use Rattle.codes.proofs.WordLaws.{half_lt}
use Rattle.codes.proofs.LowestOne.{lowest_set, set_low}
use Rattle.search.specs.ByRank.{xor_bits, sum_bits}
use Rattle.search.proofs.BitSumLaws.{xor_flip, sum_off}

pow_half : (t : ℕ) → 2 ^ suc t / 2 ≡ 2 ^ t
pow_half t = omega (arith, pow-suc 2 t)

pow_even : (t : ℕ) → 2 ^ suc t % 2 ≡ 0
pow_even t = omega (arith, pow-suc 2 t)

-- this clears it
clear_step : (d t g : ℕ) → g % 2 ≡ d → 0 < g → (0 < g / 2 → bit_and (g / 2) (g / 2 - 1) ≡ g / 2 ⊕ 2 ^ t)
    → bit_and g (g - 1) ≡ g ⊕ 2 ^ under d t
unfolding ◌⊕◌
clear_step zero t g e p ih =
    let less : (g - 1) / 2 ≡ g / 2 - 1 = omega arith in
    and_step g (g - 1)
    ∙ rw (less, ih (omega arith), e, zero-min) (sym (xor_step g (2 ^ suc t) ∙ rw (pow_half t, pow_even t, e)))
clear_step (suc zero) t g e p ih =
    let less : (g - 1) / 2 ≡ g / 2 = omega arith in
    let even : (g - 1) % 2 ≡ 0 = omega arith in
    and_step g (g - 1)
    ∙ rw (less, and_self (g / 2), even, min-zero) (sym (xor_step g 1 ∙ rw (xor_zero_r (g / 2), e)))
clear_step (suc (suc d)) t g e p ih = absurd (omega arith)

lowest_clear : (k g : ℕ) → 0 < g → g < 2 ^ k → bit_and g (g - 1) ≡ g ⊕ 2 ^ count_trailing_zeros k g
unfolding count_trailing_zeros
lowest_clear zero g p h = absurd (omega arith)
lowest_clear (suc k) g p h = clear_step (g % 2) (count_trailing_zeros k (g / 2)) g refl p (λ q. lowest_clear k (g / 2) q (half_lt g k h))

-- fewer bits are left
pub turn_less : (g : ℕ) → 0 < g → bit_and g (g - 1) < g
turn_less g p = omega (arith, and_le_r g (g - 1))

-- g has n digits, of the k that its type has
module _ (k n g : ℕ) (p : 0 < g) (h : g < 2 ^ n) (fits : n ≤ k) where
  wide : g < 2 ^ k
  wide = lt_of_lt_of_le h (pow_mono fits)

  pub turn_low : count_trailing_zeros k g < n
  turn_low = set_low n g (count_trailing_zeros k g) h (lowest_set k g p wide)

  pub turn_xor : (F : ℕ → ℕ) → xor_bits F n (bit_and g (g - 1)) ≡ xor_bits F n g ⊕ F (count_trailing_zeros k g)
  turn_xor F = ap (xor_bits F n) (lowest_clear k g p wide) ∙ xor_flip F n g (count_trailing_zeros k g) turn_low

  pub turn_sum : (F : ℕ → ℕ) → sum_bits F n g ≡ sum_bits F n (bit_and g (g - 1)) + F (count_trailing_zeros k g)
  turn_sum F =
      sum_off F n g (count_trailing_zeros k g) turn_low (lowest_set k g p wide)
      ∙ ap (λ (x : ℕ). sum_bits F n x + F (count_trailing_zeros k g)) (sym (lowest_clear k g p wide))
