-- The bits of a word above a place, and those of the places outside. Assumes nothing.
use mathlib.Core.Path.{◌≡◌, sym, ap, subst, ◌∙◌}
use mathlib.Core.List.{List}
use Prim.Native.Nat.{ℕ, zero, suc, ◌+◌, ◌-◌, ◌*◌, ◌/◌, ◌^◌, ◌<◌, ◌≤◌}
use native.Mathlib.Nat.{pow-suc, div-one, div-div-eq-div-mul, lt_of_lt_of_le, pow-le-pow_right}
use native.Mathlib.Omega.{arith}
use Rattle.codes.specs.Codeword.{bit_of, word_of}
use Rattle.codes.proofs.WordLaws.{bit_lt, word_lt}
use Rattle.codes.proofs.WordSteps.{word_cong}
use Rattle.ranks.specs.Places.{place_in}
use Rattle.ranks.specs.declared.Position.{Position}
use Rattle.prepare.specs.Inner.ByRank.{ranked}

-- the bits above the first s
pub word_above : (s k : ℕ) (c : ℕ → ℕ) → ((p : ℕ) → p < s + k → c p < 2) → word_of (s + k) c / 2 ^ s ≡ word_of k (λ q. c (s + q))
unfolding word_of
word_above zero k c h =
    ap (λ (u : ℕ). word_of u c / 1) (let e : 0 + k ≡ k = omega arith in e) ∙ div-one (word_of k c)
    ∙ word_cong k c (λ q. c (0 + q)) (λ q _. ap c (omega arith))
word_above (suc s) k c h =
    let w = word_of (s + k) (λ p. c (suc p)) in
    ap (λ (u : ℕ). word_of u c / 2 ^ suc s) (let e : suc s + k ≡ suc (s + k) = omega arith in e)
    ∙ ap (λ (u : ℕ). (w * 2 + c 0) / u) (pow-suc 2 s ∙ omega arith)
    ∙ sym (div-div-eq-div-mul (w * 2 + c 0) 2 (2 ^ s))
    ∙ ap (λ (u : ℕ). u / 2 ^ s) (let e : (w * 2 + c 0) / 2 ≡ w = omega (arith, h 0 (omega arith)) in e)
    ∙ word_above s k (λ p. c (suc p)) (λ p l. h (suc p) (omega arith))
    ∙ word_cong k (λ q. c (suc (s + q))) (λ q. c (suc s + q)) (λ q _. ap c (omega arith))

-- the bits of the places outside are few
pub sides_lt : (n s w : ℕ) (order : List Position) → s ≤ n → n ≤ s + 6 → ranked n w order / 2 ^ s < 64
unfolding ranked
sides_lt n s w order l h =
    let e : n ≡ s + (n - s) = omega arith in
    subst (λ (x : ℕ). x < 64)
    (sym (ap (λ (u : ℕ). word_of u bit / 2 ^ s) e ∙ word_above s (n - s) bit (λ i _. bit_lt w (place_in order i))))
    (lt_of_lt_of_le (word_lt (n - s) (λ q. bit (s + q)) (λ q _. bit_lt w (place_in order (s + q))))
    (pow-le-pow_right {n = 2} (omega arith) {i = n - s} {j = 6} (omega arith)))
  where
    bit : ℕ → ℕ
    bit i = bit_of w (place_in order i)
