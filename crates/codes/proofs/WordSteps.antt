-- A word bit by bit from the highest, as a loop takes it, and with zeros past its end. Assumes nothing.
use mathlib.Core.Path.{◌≡◌, refl, ap, ap₂, ◌∙◌}
use Prim.Native.Nat.{ℕ, zero, suc, ◌+◌, ◌-◌, ◌*◌, ◌^◌, ◌<◌, ◌≤◌}
use native.Mathlib.Nat.{lt_of_lt_of_le, pow-le-pow_right}
use native.Mathlib.Omega.{arith}
use Rattle.codes.specs.Codeword.{word_of}
use Rattle.codes.proofs.WordLaws.{word_lt}

pub word_cong : (k : ℕ) (c d : ℕ → ℕ) → ((p : ℕ) → p < k → c p ≡ d p) → word_of k c ≡ word_of k d
unfolding word_of
word_cong zero c d h = refl
word_cong (suc k) c d h =
    ap₂ (λ (x y : ℕ). x * 2 + y) (word_cong k (λ p. c (suc p)) (λ p. d (suc p)) (λ p l. h (suc p) (omega arith))) (h 0 (omega arith))

-- the bits c i, .., c (n - 1) as a word
unfoldable pub word_from : ℕ → (ℕ → ℕ) → ℕ → ℕ
word_from n c i = word_of (n - i) (λ k. c (i + k))

pub word_from_none : (n : ℕ) (c : ℕ → ℕ) → word_from n c n ≡ 0
unfolding word_from word_of
word_from_none n c = let e : n - n ≡ 0 = omega arith in ap (λ (u : ℕ). word_of u (λ k. c (n + k))) e

pub word_from_all : (n : ℕ) (c : ℕ → ℕ) → word_from n c 0 ≡ word_of n c
unfolding word_from
word_from_all n c =
    let e : n - 0 ≡ n = omega arith in
    ap (λ (u : ℕ). word_of u (λ k. c (0 + k))) e ∙ word_cong n (λ k. c (0 + k)) c (λ k _. ap c (omega arith))

pub word_from_more : (n : ℕ) (c : ℕ → ℕ) (i : ℕ) → i < n → word_from n c i ≡ word_from n c (i + 1) * 2 + c i
unfolding word_from word_of
word_from_more n c i l =
    ap (λ (u : ℕ). word_of u (λ k. c (i + k))) (let e : n - i ≡ suc (n - (i + 1)) = omega arith in e)
    ∙ ap₂ (λ (x y : ℕ). x * 2 + y) (word_cong (n - (i + 1)) (λ k. c (i + suc k)) (λ k. c (i + 1 + k)) (λ k _. ap c (omega arith)))
    (ap c (omega arith))

pub word_from_lt : (n : ℕ) (c : ℕ → ℕ) → ((p : ℕ) → p < n → c p < 2) → n ≤ 63 → (i : ℕ) → i ≤ n → word_from n c i < 2 ^ 63
unfolding word_from
word_from_lt n c h fit i l =
    lt_of_lt_of_le (word_lt (n - i) (λ k. c (i + k)) (λ k lk. h (i + k) (omega arith)))
    (pow-le-pow_right {n = 2} (omega arith) {i = n - i} {j = 63} (omega arith))

pub word_longer : (n k : ℕ) (c : ℕ → ℕ) → k ≤ n → ((j : ℕ) → k ≤ j → c j ≡ 0) → word_of n c ≡ word_of k c
unfolding word_of
word_longer zero zero c l z = refl
word_longer zero (suc k) c l z = absurd (omega arith)
word_longer (suc n) zero c l z =
    omega (arith, word_longer n zero (λ j. c (suc j)) (omega arith) (λ j h. z (suc j) (omega arith)), z 0 (omega arith))
word_longer (suc n) (suc k) c l z =
    ap (λ (x : ℕ). x * 2 + c 0) (word_longer n k (λ j. c (suc j)) (omega arith) (λ j h. z (suc j) (omega arith)))
