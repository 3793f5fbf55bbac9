-- The word of a message: the codeword with given high bits exists, and is the only one. Assumes nothing.
use mathlib.Core.Path.{◌≡◌, refl, sym, ap, ap₂, ◌∙◌, subst}
use Prim.Native.Nat.{ℕ, zero, suc, ◌+◌, ◌*◌, ◌/◌, ◌^◌, ◌<◌, ◌≤◌}
use native.Mathlib.Nat.{pow-suc, add-suc, add-zero, le_trans, mul_assoc, mod-eq_of_lt, zero-div, div-eq_of_lt, div-lt_iff_lt-mul}
use native.Mathlib.Omega.{arith}
use lib.Pow.{pow_pos, pow_mono, shl_lt, shl-shr, shr-shr}
use lib.Dec.{T, eqb, eqb→eq}
use Rattle.field.specs.Below.{all}
use Rattle.field.specs.Field.{◌⊕◌, times, alpha_to, length_of, bit_times}
use Rattle.field.specs.Laws.{Laws}
use Rattle.field.proofs.XorLaws.{xor_zero, xor_self, xor_eq, xor_shr}
use Rattle.field.proofs.FieldLaws.{laws}
use Rattle.field.proofs.RingLaws.{times_zero}
use Rattle.codes.specs.Codeword.{bit_of, value_at, ZeroFrom, Codeword}
use Rattle.codes.specs.Code.{entry_of, dimension_of, parity_of, generator_of, Known}
use Rattle.codes.specs.Generator.{systematic, remainder_by, with_parity}
use Rattle.codes.proofs.WordLaws.{bit_shift, bit_lt, below_div, top_lt, high_lt}
use Rattle.codes.proofs.ShapeLaws.{each_code, parity_full}
use Rattle.codes.proofs.GeneratorRight.{at_bits, at_bit_times, at_shift, good}

module _ (m : ℕ) (F : Laws m) (o r d : ℕ) (low : (c : ℕ) → c < 2 ^ d → ZeroFrom m o r (bit_of c) → c ≡ 0) where
  -- at most one codeword has the high bits
  pub same_high : (w v : ℕ) → ZeroFrom m o r (bit_of w) → ZeroFrom m o r (bit_of v) → w / 2 ^ d ≡ v / 2 ^ d → w ≡ v
  same_high w v hw hv e =
      xor_eq w v (low (w ⊕ v) (below_div (w ⊕ v) d (xor_shr w v d ∙ ap (λ (u : ℕ). u ⊕ v / 2 ^ d) e ∙ xor_self (v / 2 ^ d)))
      (λ i a b. at_bits m F w v i ∙ ap₂ ◌⊕◌ (hw i a b) (hv i a b) ∙ xor_zero 0))

bit_times_shr : (b y s : ℕ) → bit_times b y / 2 ^ s ≡ bit_times b (y / 2 ^ s)
unfolding bit_times
bit_times_shr zero y s = zero-div (2 ^ s)
bit_times_shr (suc b) y s = refl

bit_times_one : (b : ℕ) → b < 2 → bit_times b 1 ≡ b
unfolding bit_times
bit_times_one zero h = refl
bit_times_one (suc b) h = omega arith

module _ (d g : ℕ) (top : g / 2 ^ d ≡ 1) where
  cleared : (k c : ℕ) → c < 2 ^ (d + suc k) → c ⊕ bit_times (bit_of c (d + k)) (g * 2 ^ k) < 2 ^ (d + k)
  cleared k c h =
      below_div (c ⊕ bit_times b (g * 2 ^ k)) (d + k)
      (xor_shr c (bit_times b (g * 2 ^ k)) (d + k)
      ∙ ap₂ ◌⊕◌ (sym is_top) (bit_times_shr b (g * 2 ^ k) (d + k) ∙ ap (bit_times b) one ∙ bit_times_one b (bit_lt c (d + k))) ∙ xor_self b)
    where
      b : ℕ
      b = bit_of c (d + k)

      is_top : b ≡ c / 2 ^ (d + k)
      is_top =
          bit_shift c (d + k)
          ∙ mod-eq_of_lt ((div-lt_iff_lt-mul (pow_pos (d + k))).1
          (subst (λ (x : ℕ). c < x) (ap (λ (x : ℕ). 2 ^ x) (add-suc d k) ∙ pow-suc 2 (d + k) ∙ omega arith) h))

      one : g * 2 ^ k / 2 ^ (d + k) ≡ 1
      one = ap (λ (x : ℕ). g * 2 ^ k / 2 ^ x) (omega arith) ∙ sym (shr-shr (g * 2 ^ k) k d) ∙ ap (λ (x : ℕ). x / 2 ^ d) (shl-shr g k) ∙ top

  remainder_lt : (k c : ℕ) → c < 2 ^ (d + k) → remainder_by d g k c < 2 ^ d
  unfolding remainder_by
  remainder_lt zero c h = subst (λ (x : ℕ). c < 2 ^ x) (add-zero d) h
  remainder_lt (suc k) c h = remainder_lt k (c ⊕ bit_times (bit_of c (d + k)) (g * 2 ^ k)) (cleared k c h)

  pub parity_high : (k M : ℕ) → M < 2 ^ k → with_parity d g k M / 2 ^ d ≡ M
  unfolding with_parity
  parity_high k M h =
      xor_shr (M * 2 ^ d) (remainder_by d g k (M * 2 ^ d)) d
      ∙ ap₂ ◌⊕◌ (shl-shr M d) (div-eq_of_lt
      (remainder_lt k (M * 2 ^ d) (subst (λ (x : ℕ). M * 2 ^ d < 2 ^ x) (omega arith) (shl_lt k d h))))
      ∙ xor_zero M

  module _ (m : ℕ) (F : Laws m) (o r : ℕ) (z : ZeroFrom m o r (bit_of g)) where
    shifted : (k : ℕ) → d + k < length_of m → ZeroFrom m o r (bit_of (g * 2 ^ k))
    shifted zero h e a b = ap (λ (u : ℕ). value_at m (bit_of u) e) (omega arith) ∙ z e a b
    shifted (suc k) h e a b =
        ap (λ (u : ℕ). value_at m (bit_of u) e) twice
        ∙ at_shift m F (g * 2 ^ k) e (subst (λ (u : ℕ). u < 2 ^ length_of m) twice
        (le_trans (shl_lt (suc d) (suc k) (top_lt g d top)) (pow_mono {i = suc d + suc k} (omega arith))))
        ∙ ap (times m (alpha_to m e)) (shifted k (omega arith) e a b) ∙ times_zero m F (alpha_to m e)
      where
        twice : g * 2 ^ suc k ≡ g * 2 ^ k * 2
        twice = ap (λ (x : ℕ). g * x) (pow-suc 2 k) ∙ sym (mul_assoc g (2 ^ k) 2)

    remainder_at : (k c e : ℕ) → d + k ≤ length_of m → o ≤ e → e < o + r → value_at m (bit_of (remainder_by d g k c)) e
        ≡ value_at m (bit_of c) e
    unfolding remainder_by
    remainder_at zero c e h a b = refl
    remainder_at (suc k) c e h a b =
        remainder_at k (c ⊕ bit_times (bit_of c (d + k)) (g * 2 ^ k)) e (omega arith) a b
        ∙ at_bits m F c (bit_times (bit_of c (d + k)) (g * 2 ^ k)) e
        ∙ ap (λ (u : ℕ). value_at m (bit_of c) e ⊕ u) (at_bit_times m F (bit_of c (d + k)) (g * 2 ^ k) e (shifted k (omega arith) e a b))
        ∙ xor_zero (value_at m (bit_of c) e)

    pub parity_roots : (k M : ℕ) → d + k ≤ length_of m → ZeroFrom m o r (bit_of (with_parity d g k M))
    unfolding with_parity
    parity_roots k M h e a b =
        at_bits m F (M * 2 ^ d) (remainder_by d g k (M * 2 ^ d)) e
        ∙ ap (λ (u : ℕ). value_at m (bit_of (M * 2 ^ d)) e ⊕ u) (remainder_at k (M * 2 ^ d) e h a b)
        ∙ xor_self (value_at m (bit_of (M * 2 ^ d)) e)

-- the generators' top coefficients
tops : T (all 3 (λ i. all 3 (λ j. eqb (generator_of (4 + i) (1 + j) / 2 ^ parity_of (4 + i) (1 + j)) 1)))
unfolding entry_of dimension_of parity_of generator_of length_of
tops = tt

pub top : (m t : ℕ) → Known m t → generator_of m t / 2 ^ parity_of m t ≡ 1
top m t k = eqb→eq _ _ (each_code (λ m t. eqb (generator_of m t / 2 ^ parity_of m t) 1) tops m t k)

-- the word of a message is a codeword, has the message at the top, and is the only one that has
module _ (m t M : ℕ) (K : Known m t) (small : M < 2 ^ dimension_of m t) where
  pub systematic_high : systematic m t M / 2 ^ parity_of m t ≡ M
  unfolding systematic
  systematic_high = parity_high (parity_of m t) (generator_of m t) (top m t K) (dimension_of m t) M small

  pub systematic_codeword : Codeword m t (systematic m t M)
  unfolding systematic
  systematic_codeword = record {
    bits = subst (λ (x : ℕ). systematic m t M < 2 ^ x) (omega (arith, parity_full m t K))
        (high_lt (systematic m t M) (parity_of m t) (dimension_of m t)
        (subst (λ (x : ℕ). x < 2 ^ dimension_of m t) (sym systematic_high) small));
    roots =
        parity_roots (parity_of m t) (generator_of m t) (top m t K) m (laws m K.m_low K.m_high) 1 (2 * t) (good m t K).roots
        (dimension_of m t) M
        (omega (arith, parity_full m t K));
  }

pub codeword_high : (m t : ℕ) → Known m t → (w v : ℕ) → Codeword m t w → Codeword m t v → w / 2 ^ parity_of m t ≡ v / 2 ^ parity_of m t
    → w ≡ v
codeword_high m t k w v hw hv =
    same_high m (laws m k.m_low k.m_high) 1 (2 * t) (parity_of m t) (good m t k).low w v hw.roots hv.roots
