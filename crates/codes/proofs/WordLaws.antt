-- The bits of a word: of a sum, of a double, of a word with one bit changed; a word by its bits. Assumes nothing.
use mathlib.Core.Path.{◌≡◌, refl, sym, ap, ◌∙◌, subst}
use Prim.Native.Nat.{ℕ, zero, suc, ◌+◌, ◌*◌, ◌/◌, ◌%◌, ◌^◌, ◌<◌, ◌≤◌}
use native.Mathlib.Nat.{mod-lt, zero-lt-suc, mul-div_cancel, mul-mod_left, pow-suc, div-lt_iff_lt-mul}
use native.Mathlib.Omega.{arith}
use lib.Arith.{lt-one}
use lib.Pow.{shr-shr, pow_pos, pow-add}
use mathlib.Core.Logic.{◌≢◌}
use Rattle.field.specs.Field.{◌⊕◌}
use Rattle.field.proofs.XorLaws.{xor_half, xor_odd, xor_eq, xor_lt, xor_self, xor_zero}
use Rattle.codes.specs.Codeword.{bit_of, word_of}

pub bit_shift : (w p : ℕ) → bit_of w p ≡ w / 2 ^ p % 2
unfolding bit_of
bit_shift w zero = ap (λ (x : ℕ). x % 2) (omega arith)
bit_shift w (suc p) = bit_shift (w / 2) p ∙ ap (λ (x : ℕ). x % 2) (shr-shr w 1 p ∙ ap (λ (e : ℕ). w / 2 ^ e) (omega arith))

pub bit_lt : (w p : ℕ) → bit_of w p < 2
unfolding bit_of
bit_lt w zero = mod-lt w (zero-lt-suc 1)
bit_lt w (suc p) = bit_lt (w / 2) p

pub bit_xor : (w v p : ℕ) → bit_of (w ⊕ v) p ≡ bit_of w p ⊕ bit_of v p
unfolding bit_of
bit_xor w v zero = xor_odd w v
bit_xor w v (suc p) = ap (λ (x : ℕ). bit_of x p) (xor_half w v) ∙ bit_xor (w / 2) (v / 2) p

pub bit_zero : (p : ℕ) → bit_of 0 p ≡ 0
unfolding bit_of
bit_zero zero = refl
bit_zero (suc p) = bit_zero p

pub half_lt : (w k : ℕ) → w < 2 ^ suc k → w / 2 < 2 ^ k
half_lt w k h = omega (arith, pow-suc 2 k)

pub bit_high : (w k p : ℕ) → w < 2 ^ k → k ≤ p → bit_of w p ≡ 0
unfolding bit_of
bit_high w zero p h l = ap (λ (x : ℕ). bit_of x p) (lt-one h) ∙ bit_zero p
bit_high w (suc k) zero h l = absurd (omega arith)
bit_high w (suc k) (suc p) h l = bit_high (w / 2) k p (half_lt w k h) (omega arith)

-- a number without a bit
pub bits_zero : (w k : ℕ) → w < 2 ^ k → ((p : ℕ) → p < k → bit_of w p ≡ 0) → w ≡ 0
unfolding bit_of
bits_zero w zero h z = lt-one h
bits_zero w (suc k) h z =
    let a : w / 2 ≡ 0 = bits_zero (w / 2) k (half_lt w k h) (λ p l. z (suc p) (omega arith)) in
    let b : w % 2 ≡ 0 = z 0 (omega arith) in
    omega arith

pub bit_double_zero : (w : ℕ) → bit_of (w * 2) 0 ≡ 0
unfolding bit_of
bit_double_zero w = mul-mod_left w 2

pub bit_double : (w p : ℕ) → bit_of (w * 2) (suc p) ≡ bit_of w p
unfolding bit_of
bit_double w p = ap (λ (x : ℕ). bit_of x p) (mul-div_cancel w (zero-lt-suc 1))

-- two numbers with the same bits
pub bit_ext : (w v k : ℕ) → w < 2 ^ k → v < 2 ^ k → ((p : ℕ) → p < k → bit_of w p ≡ bit_of v p) → w ≡ v
bit_ext w v k hw hv h =
    xor_eq w v (bits_zero (w ⊕ v) k (xor_lt k w v hw hv)
    (λ p l. bit_xor w v p ∙ ap (λ (u : ℕ). u ⊕ bit_of v p) (h p l) ∙ xor_self (bit_of v p)))

pub word_lt : (k : ℕ) (c : ℕ → ℕ) → ((p : ℕ) → p < k → c p < 2) → word_of k c < 2 ^ k
unfolding word_of
word_lt zero c h = zero-lt-suc 0
word_lt (suc k) c h = omega (arith, pow-suc 2 k, word_lt k (λ p. c (suc p)) (λ p l. h (suc p) (omega arith)), h 0 (omega arith))

pub bit_word : (k : ℕ) (c : ℕ → ℕ) → ((p : ℕ) → p < k → c p < 2) → (p : ℕ) → p < k → bit_of (word_of k c) p ≡ c p
unfolding word_of bit_of
bit_word zero c h p l = absurd (omega arith)
bit_word (suc k) c h zero l = omega (arith, h 0 l)
bit_word (suc k) c h (suc p) l =
    let e : (word_of k (λ p. c (suc p)) * 2 + c 0) / 2 ≡ word_of k (λ p. c (suc p)) = omega (arith, h 0 (omega arith)) in
    ap (λ (x : ℕ). bit_of x p) e ∙ bit_word k (λ p. c (suc p)) (λ p l. h (suc p) (omega arith)) p (omega arith)

-- a word with one bit changed
half_power : (q : ℕ) → 2 ^ suc q / 2 ≡ 2 ^ q
half_power q = omega (arith, pow-suc 2 q)

pub bit_power_same : (q : ℕ) → bit_of (2 ^ q) q ≡ 1
unfolding bit_of
bit_power_same zero = refl
bit_power_same (suc q) = ap (λ (x : ℕ). bit_of x q) (half_power q) ∙ bit_power_same q

pub bit_power_other : (q p : ℕ) → p ≢ q → bit_of (2 ^ q) p ≡ 0
unfolding bit_of
bit_power_other zero zero n = absurd (n refl)
bit_power_other zero (suc p) n = bit_zero p
bit_power_other (suc q) zero n = omega (arith, pow-suc 2 q)
bit_power_other (suc q) (suc p) n = ap (λ (x : ℕ). bit_of x p) (half_power q) ∙ bit_power_other q p (λ e. n (ap suc e))

pub flip_other : (v q p : ℕ) → p ≢ q → bit_of (v ⊕ 2 ^ q) p ≡ bit_of v p
flip_other v q p n = bit_xor v (2 ^ q) p ∙ ap (λ (x : ℕ). bit_of v p ⊕ x) (bit_power_other q p n) ∙ xor_zero (bit_of v p)

xor_one : (x : ℕ) → x < 2 → x ⊕ 1 ≢ x
unfolding ◌⊕◌
xor_one zero l e = omega arith
xor_one (suc zero) l e = omega arith
xor_one (suc (suc x)) l e = omega arith

pub flip_same : (v q : ℕ) → bit_of (v ⊕ 2 ^ q) q ≢ bit_of v q
flip_same v q e =
    xor_one (bit_of v q) (bit_lt v q) (sym (bit_xor v (2 ^ q) q ∙ ap (λ (x : ℕ). bit_of v q ⊕ x) (bit_power_same q)) ∙ e)

-- a word against what is above its lowest d bits
pub below_div : (w d : ℕ) → w / 2 ^ d ≡ 0 → w < 2 ^ d
below_div w d e = let h : w < 1 * 2 ^ d = (div-lt_iff_lt-mul (pow_pos d)).0 (omega arith) in omega arith

pub top_lt : (w d : ℕ) → w / 2 ^ d ≡ 1 → w < 2 ^ suc d
top_lt w d e = let h : w < 2 * 2 ^ d = (div-lt_iff_lt-mul (pow_pos d)).0 (omega arith) in omega (arith, pow-suc 2 d)

pub high_lt : (w d k : ℕ) → w / 2 ^ d < 2 ^ k → w < 2 ^ (k + d)
high_lt w d k h = subst (λ (x : ℕ). w < x) (sym (pow-add 2 k d)) ((div-lt_iff_lt-mul (pow_pos d)).0 h)

pub high_below : (w d k : ℕ) → w < 2 ^ (k + d) → w / 2 ^ d < 2 ^ k
high_below w d k h = (div-lt_iff_lt-mul (pow_pos d)).1 (subst (λ (x : ℕ). w < x) (pow-add 2 k d) h)
