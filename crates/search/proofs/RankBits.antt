-- Bits of what a pattern is made of: of a word moved up, of symbols as bits, of ranks spread to their positions; and sums over set
-- bits as sums over all. Assumes nothing.
use mathlib.Core.Path.{◌≡◌, refl, sym, ap, ap₂, ◌∙◌, subst}
use mathlib.Core.Logic.{⊎_elim}
use Prim.Native.Nat.{ℕ, zero, suc, ◌+◌, ◌*◌, ◌^◌, ◌<◌}
use native.Mathlib.Nat.{pow-suc, mul_assoc, suc-add, eq-or-lt_of_le, le_of_suc-le-suc, lt_of_lt_of_le}
use native.Mathlib.Omega.{arith}
use lib.Pow.{pow_pos, pow_mono}
use Rattle.field.specs.Below.{total}
use Rattle.field.specs.Field.{◌⊕◌, xor_sum}
use Rattle.field.proofs.XorLaws.{xor_zero, zero_xor, xor_lt}
use Rattle.codes.specs.Codeword.{bit_of}
use Rattle.codes.proofs.WordLaws.{bit_lt, bit_xor, bit_zero, bit_high, bit_double, bit_double_zero, bit_power_same, bit_power_other}
use Rattle.search.specs.ByRank.{xor_bits, sum_bits, outside}
use Rattle.search.proofs.BitSumLaws.{spread_off}

-- a bit times a word
pub bit_scaled : (x w p : ℕ) → x < 2 → bit_of (x * w) p ≡ x * bit_of w p
bit_scaled zero w p h =
    let e : 0 * w ≡ 0 = omega arith in let z : 0 * bit_of w p ≡ 0 = omega arith in ap (λ (u : ℕ). bit_of u p) e ∙ bit_zero p ∙ sym z
bit_scaled (suc zero) w p h =
    let e : 1 * w ≡ w = omega arith in let z : 1 * bit_of w p ≡ bit_of w p = omega arith in ap (λ (u : ℕ). bit_of u p) e ∙ sym z
bit_scaled (suc (suc x)) w p h = absurd (omega arith)

scaled_lt : (x w k : ℕ) → x < 2 → w < 2 ^ k → x * w < 2 ^ k
scaled_lt zero w k h l = let e : 0 * w ≡ 0 = omega arith in subst (λ (u : ℕ). u < 2 ^ k) (sym e) (pow_pos k)
scaled_lt (suc zero) w k h l = let e : 1 * w ≡ w = omega arith in subst (λ (u : ℕ). u < 2 ^ k) (sym e) l
scaled_lt (suc (suc x)) w k h l = absurd (omega arith)

doubled : (x k : ℕ) → x * 2 ^ suc k ≡ x * 2 ^ k * 2
doubled x k = ap (λ (u : ℕ). x * u) (pow-suc 2 k) ∙ sym (mul_assoc x (2 ^ k) 2)

-- a word moved up by k
pub bit_moved_low : (k x p : ℕ) → p < k → bit_of (x * 2 ^ k) p ≡ 0
bit_moved_low zero x p h = absurd (omega arith)
bit_moved_low (suc k) x zero h = ap (λ (u : ℕ). bit_of u 0) (doubled x k) ∙ bit_double_zero (x * 2 ^ k)
bit_moved_low (suc k) x (suc p) h =
    ap (λ (u : ℕ). bit_of u (suc p)) (doubled x k) ∙ bit_double (x * 2 ^ k) p ∙ bit_moved_low k x p (omega arith)

pub bit_moved : (k x q : ℕ) → bit_of (x * 2 ^ k) (k + q) ≡ bit_of x q
bit_moved zero x q = let e : x * 2 ^ 0 ≡ x = omega arith in let f : 0 + q ≡ q = omega arith in ap₂ bit_of e f
bit_moved (suc k) x q = ap₂ bit_of (doubled x k) (suc-add k q) ∙ bit_double (x * 2 ^ k) (k + q) ∙ bit_moved k x q

-- binary symbols as bits
module _ (S : ℕ → ℕ) where
  pub outside_lt : (n : ℕ) → ((q : ℕ) → q < n → S q < 2) → outside S n < 2 ^ n
  unfolding outside
  outside_lt zero h = omega arith
  outside_lt (suc n) h =
      xor_lt (suc n) (outside S n) (S n * 2 ^ n) (lt_of_lt_of_le (outside_lt n (λ q l. h q (omega arith))) (pow_mono (omega arith)))
      (scaled_lt (S n) (2 ^ n) (suc n) (h n (omega arith)) (omega (arith, pow-suc 2 n, pow_pos n)))

  pub outside_bit : (n : ℕ) → ((q : ℕ) → q < n → S q < 2) → (q : ℕ) → q < n → bit_of (outside S n) q ≡ S q
  unfolding outside
  outside_bit zero h q l = absurd (omega arith)
  outside_bit (suc n) h q l =
      bit_xor (outside S n) (S n * 2 ^ n) q ∙ ap (λ (u : ℕ). bit_of (outside S n) q ⊕ u) (bit_scaled (S n) (2 ^ n) q (h n (omega arith)))
      ∙ ⊎_elim
      (λ e. subst (λ (x : ℕ). bit_of (outside S n) x ⊕ S n * bit_of (2 ^ n) x ≡ S x) (sym e)
      (ap₂ (λ (u v : ℕ). u ⊕ S n * v) (bit_high (outside S n) n n (outside_lt n (λ q l. h q (omega arith))) (omega arith))
      (bit_power_same n)
      ∙ zero_xor (S n * 1) ∙ omega arith))
      (λ k. ap₂ (λ (u v : ℕ). u ⊕ S n * v) (outside_bit n (λ q l. h q (omega arith)) q k) (bit_power_other n q (λ e. omega arith))
      ∙ (let z : S n * 0 ≡ 0 = omega arith in ap (λ (u : ℕ). S q ⊕ u) z) ∙ xor_zero (S q))
      (eq-or-lt_of_le (le_of_suc-le-suc l))

-- the ranks of w at their positions: at the position of rank j stands the bit j
pub spread_at : (O : ℕ → ℕ) (n w : ℕ) → ((i j : ℕ) → i < n → j < n → O i ≡ O j → i ≡ j) → (j : ℕ) → j < n
    → bit_of (xor_bits (λ i. 2 ^ O i) n w) (O j) ≡ bit_of w j
unfolding xor_bits
spread_at O zero w apart j l = absurd (omega arith)
spread_at O (suc n) w apart j l =
    bit_xor (xor_bits (λ i. 2 ^ O i) n w) (bit_of w n * 2 ^ O n) (O j)
    ∙ ap (λ (u : ℕ). bit_of (xor_bits (λ i. 2 ^ O i) n w) (O j) ⊕ u) (bit_scaled (bit_of w n) (2 ^ O n) (O j) (bit_lt w n))
    ∙ ⊎_elim
    (λ e. subst (λ (x : ℕ). bit_of (xor_bits (λ i. 2 ^ O i) n w) (O x) ⊕ bit_of w n * bit_of (2 ^ O n) (O x) ≡ bit_of w x) (sym e)
    (ap₂ (λ (u v : ℕ). u ⊕ bit_of w n * v)
    (spread_off O n w (O n) (λ i k q. let z : n ≡ i = apart n i (omega arith) (omega arith) q in omega arith)) (bit_power_same (O n))
    ∙ zero_xor (bit_of w n * 1) ∙ omega arith))
    (λ k. ap₂ (λ (u v : ℕ). u ⊕ bit_of w n * v) (spread_at O n w (λ i j a c. apart i j (omega arith) (omega arith)) j k)
    (bit_power_other (O n) (O j) (λ e. let z : j ≡ n = apart j n (omega arith) (omega arith) e in omega arith))
    ∙ (let z : bit_of w n * 0 ≡ 0 = omega arith in ap (λ (u : ℕ). bit_of w j ⊕ u) z) ∙ xor_zero (bit_of w j))
    (eq-or-lt_of_le (le_of_suc-le-suc l))

pub spread_lt : (O : ℕ → ℕ) (n k w : ℕ) → ((i : ℕ) → i < n → O i < k) → xor_bits (λ i. 2 ^ O i) n w < 2 ^ k
unfolding xor_bits
spread_lt O zero k w h = pow_pos k
spread_lt O (suc n) k w h =
    xor_lt k (xor_bits (λ i. 2 ^ O i) n w) (bit_of w n * 2 ^ O n) (spread_lt O n k w (λ i l. h i (omega arith)))
    (scaled_lt (bit_of w n) (2 ^ O n) k (bit_lt w n) (lib.Pow.pow-lt (h n (omega arith))))

-- over all ranks, with the bit as a factor
pub sum_bits_total : (F : ℕ → ℕ) (n w : ℕ) → sum_bits F n w ≡ total n (λ i. bit_of w i * F i)
unfolding sum_bits total
sum_bits_total F zero w = refl
sum_bits_total F (suc n) w = ap (λ (u : ℕ). u + bit_of w n * F n) (sum_bits_total F n w)

pub xor_bits_sum : (F : ℕ → ℕ) (n w : ℕ) → xor_bits F n w ≡ xor_sum n (λ i. bit_of w i * F i)
unfolding xor_bits xor_sum
xor_bits_sum F zero w = refl
xor_bits_sum F (suc n) w = ap (λ (u : ℕ). u ⊕ bit_of w n * F n) (xor_bits_sum F n w)
