-- Sums over the set bits of a word: what a flip of one bit adds to them, and the same sums by rank and by position.
-- Assumes nothing.
use mathlib.Core.Path.{◌≡◌, refl, sym, ap, ap₂, subst, ◌∙◌}
use mathlib.Core.Logic.{◌≢◌, ⊎_elim}
use Prim.Native.Nat.{ℕ, zero, suc, ◌+◌, ◌*◌, ◌^◌, ◌≤◌, ◌<◌}
use native.Mathlib.Nat.{eq-or-lt_of_le, le_of_suc-le-suc, one-mul, zero-mul, mul-suc, mul-le-mul_right}
use native.Mathlib.Omega.{arith}
use Rattle.field.specs.Field.{◌⊕◌}
use Rattle.field.proofs.XorLaws.{xor_zero, zero_xor, xor_self, xor_cancel, xor_right_comm}
use Rattle.codes.specs.Codeword.{bit_of}
use Rattle.codes.proofs.WordLaws.{bit_lt, bit_zero, bit_xor, bit_power_same, flip_other}
use Rattle.search.specs.ByRank.{xor_bits, sum_bits}

-- a bit that is flipped
flip_at : (w j : ℕ) → bit_of (w ⊕ 2 ^ j) j ≡ bit_of w j ⊕ 1
flip_at w j = bit_xor w (2 ^ j) j ∙ ap (λ (x : ℕ). bit_of w j ⊕ x) (bit_power_same j)

turned : (p c x : ℕ) → x < 2 → p ⊕ (x ⊕ 1) * c ≡ p ⊕ x * c ⊕ c
turned p c zero l = rw (zero_xor 1, one-mul, zero-mul, xor_zero p)
turned p c (suc zero) l = rw (xor_self 1, zero-mul, one-mul, xor_zero p) (sym (xor_cancel p c))
turned p c (suc (suc x)) l = absurd (omega arith)

module _ (F : ℕ → ℕ) where
  -- a flip above changes nothing below
  xor_above : (n w j : ℕ) → n ≤ j → xor_bits F n (w ⊕ 2 ^ j) ≡ xor_bits F n w
  unfolding xor_bits
  xor_above zero w j h = refl
  xor_above (suc n) w j h = ap₂ (λ (x y : ℕ). x ⊕ y * F n) (xor_above n w j (omega arith)) (flip_other w j n (λ e. omega arith))

  -- a flip adds what stands at its place
  pub xor_flip : (n w j : ℕ) → j < n → xor_bits F n (w ⊕ 2 ^ j) ≡ xor_bits F n w ⊕ F j
  unfolding xor_bits
  xor_flip zero w j h = absurd (omega arith)
  xor_flip (suc n) w j h =
      ⊎_elim
      (λ (e : j ≡ n).
      subst (λ (x : ℕ). xor_bits F n (w ⊕ 2 ^ x) ⊕ bit_of (w ⊕ 2 ^ x) n * F n ≡ xor_bits F (suc n) w ⊕ F x) (sym e)
      (ap₂ (λ (x y : ℕ). x ⊕ y * F n) (xor_above n w n (omega arith)) (flip_at w n)
      ∙ turned (xor_bits F n w) (F n) (bit_of w n) (bit_lt w n)))
      (λ (l : j < n).
      ap₂ (λ (x y : ℕ). x ⊕ y * F n) (xor_flip n w j l) (flip_other w j n (λ e. omega arith))
      ∙ xor_right_comm (xor_bits F n w) (F j) (bit_of w n * F n))
      (eq-or-lt_of_le (le_of_suc-le-suc h))

  pub xor_none : (n : ℕ) → xor_bits F n 0 ≡ 0
  unfolding xor_bits
  xor_none zero = refl
  xor_none (suc n) = rw (xor_none n, bit_zero n, zero-mul) (xor_self 0)

  sum_above : (n w j : ℕ) → n ≤ j → sum_bits F n (w ⊕ 2 ^ j) ≡ sum_bits F n w
  unfolding sum_bits
  sum_above zero w j h = refl
  sum_above (suc n) w j h = ap₂ (λ (x y : ℕ). x + y * F n) (sum_above n w j (omega arith)) (flip_other w j n (λ e. omega arith))

  -- a bit that is set anew adds what stands at its place
  pub sum_new : (n w j : ℕ) → j < n → bit_of w j ≡ 0 → sum_bits F n (w ⊕ 2 ^ j) ≡ sum_bits F n w + F j
  unfolding sum_bits
  sum_new zero w j h z = absurd (omega arith)
  sum_new (suc n) w j h z =
      ⊎_elim
      (λ (e : j ≡ n).
      let zn : bit_of w n ≡ 0 = subst (λ (x : ℕ). bit_of w x ≡ 0) e z in
      subst (λ (x : ℕ). sum_bits F n (w ⊕ 2 ^ x) + bit_of (w ⊕ 2 ^ x) n * F n ≡ sum_bits F n w + bit_of w n * F n + F x) (sym e)
      (rw (sum_above n w n (omega arith), flip_at w n, zn, zero_xor 1, one-mul, zero-mul) (omega arith)))
      (λ (l : j < n). rw (sum_new n w j l z, flip_other w j n (λ e. omega arith)) (omega arith))
      (eq-or-lt_of_le (le_of_suc-le-suc h))

  -- and one that is cleared takes it away
  pub sum_off : (n w j : ℕ) → j < n → bit_of w j ≡ 1 → sum_bits F n w ≡ sum_bits F n (w ⊕ 2 ^ j) + F j
  sum_off n w j h o =
      let z : bit_of (w ⊕ 2 ^ j) j ≡ 0 = flip_at w j ∙ ap (λ (x : ℕ). x ⊕ 1) o ∙ xor_self 1 in
      rw (xor_cancel w (2 ^ j)) at (sum_new n (w ⊕ 2 ^ j) j h z)

  pub sum_none : (n : ℕ) → sum_bits F n 0 ≡ 0
  unfolding sum_bits
  sum_none zero = refl
  sum_none (suc n) = rw (sum_none n, bit_zero n, zero-mul)

  pub sum_le : (c n w : ℕ) → ((i : ℕ) → i < n → F i ≤ c) → sum_bits F n w ≤ c * n
  unfolding sum_bits
  sum_le c zero w h = omega arith
  sum_le c (suc n) w h =
      rw mul-suc
      (omega (
        arith,
        sum_le c n w (λ i l. h i (omega arith)),
        h n (omega arith),
        one-mul (F n),
        mul-le-mul_right {m = bit_of w n} {n = 1}
            (F n) (omega (arith, bit_lt w n)),
      ))

-- rank i stands at position O i
module _ (O : ℕ → ℕ) where
  -- the word that has the bit of each rank at that rank's position
  abbrev pub spread : ℕ → ℕ → ℕ
  spread = xor_bits (λ i. 2 ^ O i)

  off_step : (x v p q : ℕ) → x < 2 → p ≢ q → bit_of v p ≡ 0 → bit_of (v ⊕ x * 2 ^ q) p ≡ 0
  off_step zero v p q l h z = rw (zero-mul, xor_zero v) z
  off_step (suc zero) v p q l h z = rw one-mul (flip_other v q p h ∙ z)
  off_step (suc (suc x)) v p q l h z = absurd (omega arith)

  -- a position that no rank has is not set
  pub spread_off : (n w p : ℕ) → ((i : ℕ) → i < n → p ≡ O i → ⊥) → bit_of (spread n w) p ≡ 0
  unfolding xor_bits
  spread_off zero w p h = bit_zero p
  spread_off (suc n) w p h =
      off_step (bit_of w n) (spread n w) p (O n) (bit_lt w n) (h n (omega arith)) (spread_off n w p (λ i k. h i (omega arith)))
