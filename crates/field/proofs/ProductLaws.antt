-- The product by shift and reduction: linear, and it commutes with itself, for any m and any modulus. Assumes nothing.
use mathlib.Core.Path.{◌≡◌, refl, sym, ap, ap₂, ◌∙◌}
use Prim.Native.Nat.{ℕ, zero, suc, ◌-◌, ◌*◌, ◌/◌, ◌%◌, ◌^◌, ◌<◌}
use native.Mathlib.Nat.{mod-lt, zero-lt-suc}
use native.Mathlib.Numerals.{add-one}
use native.Mathlib.Omega.{arith}
use lib.Pow.{pow_pos, field, mod-mod-pow}
use Rattle.field.specs.Field.{◌⊕◌, bit_times, times_alpha, shift_add, reduction}
use Rattle.field.proofs.XorLaws.{xor_zero, xor_self, xor_half, xor_odd, xor_swap, xor_mod, xor_shr, xor_double}

pub bit_times_zero : (b : ℕ) → bit_times b 0 ≡ 0
unfolding bit_times
bit_times_zero zero = refl
bit_times_zero (suc b) = refl

pub bit_times_xor : (b y z : ℕ) → bit_times b (y ⊕ z) ≡ bit_times b y ⊕ bit_times b z
unfolding bit_times
bit_times_xor zero y z = sym (xor_zero 0)
bit_times_xor (suc b) y z = refl

pub xor_bit_times : (a b y : ℕ) → a < 2 → b < 2 → bit_times (a ⊕ b) y ≡ bit_times a y ⊕ bit_times b y
unfolding bit_times ◌⊕◌
xor_bit_times zero b y ha hb = refl
xor_bit_times (suc zero) zero y ha hb = sym (xor_zero y)
xor_bit_times (suc zero) (suc zero) y ha hb = sym (xor_self y)
xor_bit_times (suc zero) (suc (suc b)) y ha hb = absurd (omega arith)
xor_bit_times (suc (suc a)) b y ha hb = absurd (omega arith)

pub bit_times_lt : (m b y : ℕ) → y < 2 ^ m → bit_times b y < 2 ^ m
unfolding bit_times
bit_times_lt m zero y h = pow_pos m
bit_times_lt m (suc b) y h = h

-- short names, in this section
module _ (m : ℕ) where
  abbrev up : ℕ → ℕ
  up = times_alpha m

  abbrev scan : ℕ → ℕ → ℕ → ℕ
  scan = shift_add m

  pub alpha_xor : (y z : ℕ) → up (y ⊕ z) ≡ up y ⊕ up z
  unfolding times_alpha
  alpha_xor y z =
      ap₂ ◌⊕◌ (ap (λ (u : ℕ). u % 2 ^ m) (xor_double y z) ∙ xor_mod (y * 2) (z * 2) m)
      (ap (λ (u : ℕ). bit_times u (reduction m)) (ap (λ (u : ℕ). u % 2) (xor_shr y z (m - 1)) ∙ xor_odd (y / 2 ^ (m - 1)) (z / 2 ^ (m - 1)))
      ∙ xor_bit_times (y / 2 ^ (m - 1) % 2) (z / 2 ^ (m - 1) % 2) (reduction m) (mod-lt _ (zero-lt-suc 1)) (mod-lt _ (zero-lt-suc 1)))
      ∙ xor_swap (y * 2 % 2 ^ m) (z * 2 % 2 ^ m) (bit_times (y / 2 ^ (m - 1) % 2) (reduction m))
      (bit_times (z / 2 ^ (m - 1) % 2) (reduction m))

  pub shift_xor : (k x y z : ℕ) → scan k x (y ⊕ z) ≡ scan k x y ⊕ scan k x z
  unfolding shift_add
  shift_xor zero x y z = sym (xor_zero 0)
  shift_xor (suc k) x y z =
      ap₂ ◌⊕◌ (bit_times_xor (x % 2) y z) (ap (scan k (x / 2)) (alpha_xor y z) ∙ shift_xor k (x / 2) (up y) (up z))
      ∙ xor_swap (bit_times (x % 2) y) (bit_times (x % 2) z) (scan k (x / 2) (up y)) (scan k (x / 2) (up z))

  pub xor_shift : (k x w y : ℕ) → scan k (x ⊕ w) y ≡ scan k x y ⊕ scan k w y
  unfolding shift_add
  xor_shift zero x w y = sym (xor_zero 0)
  xor_shift (suc k) x w y =
      ap₂ ◌⊕◌ (ap (λ (u : ℕ). bit_times u y) (xor_odd x w)
      ∙ xor_bit_times (x % 2) (w % 2) y (mod-lt x (zero-lt-suc 1)) (mod-lt w (zero-lt-suc 1)))
      (ap (λ (u : ℕ). scan k u (up y)) (xor_half x w) ∙ xor_shift k (x / 2) (w / 2) (up y))
      ∙ xor_swap (bit_times (x % 2) y) (bit_times (w % 2) y) (scan k (x / 2) (up y)) (scan k (w / 2) (up y))

  pub alpha_zero : up 0 ≡ 0
  alpha_zero = ap up (sym (xor_zero 0)) ∙ alpha_xor 0 0 ∙ xor_self (up 0)

  alpha_bit_times : (b y : ℕ) → up (bit_times b y) ≡ bit_times b (up y)
  unfolding bit_times
  alpha_bit_times zero y = alpha_zero
  alpha_bit_times (suc b) y = refl

  pub shift_alpha : (k x y : ℕ) → scan k x (up y) ≡ up (scan k x y)
  unfolding shift_add
  shift_alpha zero x y = sym alpha_zero
  shift_alpha (suc k) x y =
      ap₂ ◌⊕◌ (sym (alpha_bit_times (x % 2) y)) (shift_alpha k (x / 2) (up y))
      ∙ sym (alpha_xor (bit_times (x % 2) y) (scan k (x / 2) (up y)))

  pub shift_zero : (k x : ℕ) → scan k x 0 ≡ 0
  unfolding shift_add
  shift_zero zero x = refl
  shift_zero (suc k) x = ap₂ ◌⊕◌ (bit_times_zero (x % 2)) (ap (scan k (x / 2)) alpha_zero ∙ shift_zero k (x / 2)) ∙ xor_zero 0

  shift_bit_times : (k x b y : ℕ) → scan k x (bit_times b y) ≡ bit_times b (scan k x y)
  unfolding bit_times
  shift_bit_times k x zero y = shift_zero k x
  shift_bit_times k x (suc b) y = refl

  -- two products change places
  pub shift_shift : (k j x w y : ℕ) → scan k x (scan j w y) ≡ scan j w (scan k x y)
  unfolding shift_add
  shift_shift k zero x w y = shift_zero k x
  shift_shift k (suc j) x w y =
      shift_xor k x (bit_times (w % 2) y) (scan j (w / 2) (up y))
      ∙ ap₂ ◌⊕◌ (shift_bit_times k x (w % 2) y) (shift_shift k j x (w / 2) (up y) ∙ ap (scan j (w / 2)) (shift_alpha k x y))

  -- only the low digits of x are read
  pub shift_low : (k x y : ℕ) → scan k (x % 2 ^ k) y ≡ scan k x y
  unfolding shift_add
  shift_low zero x y = refl
  shift_low (suc k) x y =
      ap₂ (λ (u w : ℕ). bit_times u y ⊕ scan k w (up y))
      (ap (λ (e : ℕ). x % 2 ^ e % 2) (sym (add-one k)) ∙ mod-mod-pow x k 1) (ap (λ (e : ℕ). x % 2 ^ e / 2) (sym (add-one k)) ∙ field x k 1)
      ∙ ap (λ (u : ℕ). bit_times (x % 2) y ⊕ u) (shift_low k (x / 2) (up y))
