-- The lowest 1 of a word, as u64::trailing_zeros finds it, from a position on; and a word without a 1 from a position on. Assumes nothing.
use mathlib.Core.Path.{◌≡◌, refl, sym, ap, ◌∙◌, subst}
use mathlib.Core.Logic.{⊎_elim}
use Prim.Native.Nat.{ℕ, zero, suc, ◌+◌, ◌-◌, ◌/◌, ◌%◌, ◌^◌, ◌≤◌, ◌<◌}
use native.Mathlib.Nat.{eq-zero-or-pos}
use native.Mathlib.Omega.{arith}
use lib.Count.{count_trailing_zeros, under}
use lib.Pow.{shr-shr}
use Rattle.field.specs.Lowest.{Lowest}
use Rattle.codes.specs.Codeword.{bit_of}
use Rattle.codes.proofs.WordLaws.{bit_shift, bit_high, bits_zero, half_lt, below_div, high_below}

-- it is set
set_step : (d k g : ℕ) → g % 2 ≡ d → 0 < g → (0 < g / 2 → bit_of (g / 2) (count_trailing_zeros k (g / 2)) ≡ 1)
    → bit_of g (under d (count_trailing_zeros k (g / 2))) ≡ 1
unfolding bit_of
set_step zero k g e p ih = ih (omega arith)
set_step (suc zero) k g e p ih = e
set_step (suc (suc d)) k g e p ih = absurd (omega arith)

pub lowest_set : (k g : ℕ) → 0 < g → g < 2 ^ k → bit_of g (count_trailing_zeros k g) ≡ 1
unfolding count_trailing_zeros
lowest_set zero g p h = absurd (omega arith)
lowest_set (suc k) g p h = set_step (g % 2) k g refl p (λ q. lowest_set k (g / 2) q (half_lt g k h))

-- and none below it is
under_step : (d z g : ℕ) → g % 2 ≡ d → ((i : ℕ) → i < z → bit_of (g / 2) i ≡ 0) → (i : ℕ) → i < under d z → bit_of g i ≡ 0
unfolding bit_of
under_step zero z g e ih zero l = e
under_step zero z g e ih (suc i) l = ih i (omega arith)
under_step (suc d) z g e ih i l = absurd (omega arith)

lowest_under : (k g i : ℕ) → i < count_trailing_zeros k g → bit_of g i ≡ 0
unfolding count_trailing_zeros
lowest_under zero g i l = absurd (omega arith)
lowest_under (suc k) g i l = under_step (g % 2) (count_trailing_zeros k (g / 2)) g refl (lowest_under k (g / 2)) i l

-- a set bit of a word of n digits is one of them
pub set_low : (n g j : ℕ) → g < 2 ^ n → bit_of g j ≡ 1 → j < n
set_low n g j h e =
    ⊎_elim (λ (z : n - j ≡ 0). absurd (omega (arith, bit_high g n j h (omega arith)))) (λ (l : 0 < n - j). omega arith)
    (eq-zero-or-pos (n - j))

bit_above : (w d i : ℕ) → bit_of w (d + i) ≡ bit_of (w / 2 ^ d) i
bit_above w d i = bit_shift w (d + i) ∙ ap (λ (x : ℕ). x % 2) (sym (shr-shr w d i)) ∙ sym (bit_shift (w / 2 ^ d) i)

module _ (k w d : ℕ) (some : 0 < w / 2 ^ d) (fits : w / 2 ^ d < 2 ^ k) where
  abbrev z : ℕ
  z = count_trailing_zeros k (w / 2 ^ d)

  pub lowest_from : Lowest d k (bit_of w) (d + z)
  lowest_from = record {
    low = omega arith;
    high = omega (arith, set_low k (w / 2 ^ d) z fits one);
    nonzero = λ e. omega (arith, one, bit_above w d z);
    lower = λ i l h. let e : d + (i - d) ≡ i = omega arith in
        ap (bit_of w) (sym e) ∙ bit_above w d (i - d) ∙ lowest_under k (w / 2 ^ d) (i - d) (omega arith);
  }
    where
      one : bit_of (w / 2 ^ d) z ≡ 1
      one = lowest_set k (w / 2 ^ d) some fits

-- a word of n bits without a 1 from position d on is one of d bits
pub none_from : (w d n : ℕ) → d ≤ n → w < 2 ^ n → ((p : ℕ) → d ≤ p → p < n → bit_of w p ≡ 0) → w < 2 ^ d
none_from w d n l h z =
    let e : n - d + d ≡ n = omega arith in
    below_div w d (bits_zero (w / 2 ^ d) (n - d) (high_below w d (n - d) (subst (λ (x : ℕ). w < 2 ^ x) (sym e) h))
    (λ p k. sym (bit_above w d p) ∙ z (d + p) (omega arith) (omega arith)))
