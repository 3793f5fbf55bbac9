-- Sums of elements over the numbers below n. Assumes nothing.
use mathlib.Core.Path.{◌≡◌, refl, sym, ap, ap₂, ◌∙◌}
use mathlib.Core.Logic.{◌≢◌, ⊎_elim}
use Prim.Native.Nat.{ℕ, zero, suc, ◌+◌, ◌<◌, ◌≤◌, ◌^◌}
use lib.Pow.{pow_pos}
use native.Mathlib.Nat.{not-suc-le-zero, eq-or-lt_of_le, le_of_suc-le-suc, le_refl, add-suc}
use native.Mathlib.Omega.{arith}
use Rattle.field.specs.Field.{◌⊕◌, xor_sum}
use Rattle.field.proofs.XorLaws.{xor_zero, zero_xor, xor_comm, xor_swap, xor_lt, xor_right_comm}

pub xorsum_suc : (n : ℕ) (f : ℕ → ℕ) → xor_sum (suc n) f ≡ xor_sum n f ⊕ f n
unfolding xor_sum
xorsum_suc n f = refl

pub xorsum_cong : (n : ℕ) (f g : ℕ → ℕ) → ((p : ℕ) → p < n → f p ≡ g p) → xor_sum n f ≡ xor_sum n g
unfolding xor_sum
xorsum_cong zero f g h = refl
xorsum_cong (suc n) f g h = ap₂ ◌⊕◌ (xorsum_cong n f g (λ p l. h p (omega arith))) (h n (omega arith))

pub xorsum_zero : (n : ℕ) (f : ℕ → ℕ) → ((p : ℕ) → p < n → f p ≡ 0) → xor_sum n f ≡ 0
unfolding xor_sum
xorsum_zero zero f h = refl
xorsum_zero (suc n) f h = ap₂ ◌⊕◌ (xorsum_zero n f (λ p l. h p (omega arith))) (h n (omega arith)) ∙ xor_zero 0

pub xorsum_xor : (n : ℕ) (f g : ℕ → ℕ) → xor_sum n (λ p. f p ⊕ g p) ≡ xor_sum n f ⊕ xor_sum n g
unfolding xor_sum
xorsum_xor zero f g = sym (xor_zero 0)
xorsum_xor (suc n) f g = ap (λ (u : ℕ). u ⊕ (f n ⊕ g n)) (xorsum_xor n f g) ∙ xor_swap (xor_sum n f) (xor_sum n g) (f n) (g n)

-- where only one term may differ from 0
pub xorsum_one : (n : ℕ) (f : ℕ → ℕ) (u : ℕ) → u < n → ((p : ℕ) → p < n → p ≢ u → f p ≡ 0) → xor_sum n f ≡ f u
unfolding xor_sum
xorsum_one zero f u l h = absurd (not-suc-le-zero l)
xorsum_one (suc n) f u l h =
    ⊎_elim
    (λ e. ap₂ ◌⊕◌ (xorsum_zero n f (λ p k. h p (omega arith) (omega arith))) (ap f (sym e)) ∙ zero_xor (f u))
    (λ k. ap₂ ◌⊕◌ (xorsum_one n f u k (λ p j. h p (omega arith))) (h n (le_refl (suc n)) (omega arith)) ∙ xor_zero (f u))
    (eq-or-lt_of_le (le_of_suc-le-suc l))

-- a sum of sums, the other way round
pub xorsum_xorsum : (n k : ℕ) (f : ℕ → ℕ → ℕ) → xor_sum n (λ p. xor_sum k (f p)) ≡ xor_sum k (λ j. xor_sum n (λ p. f p j))
unfolding xor_sum
xorsum_xorsum n zero f = xorsum_zero n (λ p. 0) (λ p l. refl)
xorsum_xorsum n (suc k) f =
    xorsum_xor n (λ p. xor_sum k (f p)) (λ p. f p k) ∙ ap (λ (u : ℕ). u ⊕ xor_sum n (λ p. f p k)) (xorsum_xorsum n k f)

-- the same terms but for the first and the last
pub xorsum_shift : (n : ℕ) (f : ℕ → ℕ) → xor_sum n (λ p. f (suc p)) ⊕ f 0 ≡ xor_sum n f ⊕ f n
unfolding xor_sum
xorsum_shift zero f = refl
xorsum_shift (suc n) f =
    xor_right_comm (xor_sum n (λ p. f (suc p))) (f (suc n)) (f 0) ∙ ap (λ (u : ℕ). u ⊕ f (suc n)) (xorsum_shift n f)

pub xorsum_lt : (m n : ℕ) (f : ℕ → ℕ) → ((p : ℕ) → p < n → f p < 2 ^ m) → xor_sum n f < 2 ^ m
unfolding xor_sum
xorsum_lt m zero f h = pow_pos m
xorsum_lt m (suc n) f h = xor_lt m (xor_sum n f) (f n) (xorsum_lt m n f (λ p l. h p (omega arith))) (h n (le_refl (suc n)))

pub xorsum_head : (n : ℕ) (f : ℕ → ℕ) → xor_sum (suc n) f ≡ f 0 ⊕ xor_sum n (λ p. f (suc p))
xorsum_head n f = xorsum_suc n f ∙ sym (xorsum_shift n f) ∙ xor_comm (xor_sum n (λ p. f (suc p))) (f 0)

-- the terms from d on are 0
pub xorsum_short : (d k : ℕ) (f : ℕ → ℕ) → ((p : ℕ) → d ≤ p → f p ≡ 0) → xor_sum (d + k) f ≡ xor_sum d f
xorsum_short d zero f h = ap (λ (x : ℕ). xor_sum x f) (omega arith)
xorsum_short d (suc k) f h =
    ap (λ (x : ℕ). xor_sum x f) (add-suc d k) ∙ xorsum_suc (d + k) f ∙ ap₂ ◌⊕◌ (xorsum_short d k f h) (h (d + k) (omega arith))
    ∙ xor_zero (xor_sum d f)
