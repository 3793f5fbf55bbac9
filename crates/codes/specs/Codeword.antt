-- Words as numbers, and what a codeword is: by its roots (document 000, equations (1) and (3), with 2t as the last power; document 01,
-- "Fields and codes"). The first root's exponent b and the number r of consecutive roots are parameters.
--   bit_of w j           bit j of the word w
--   word_of n c          the word whose bits are c 0, .., c (n - 1)
--   WordOver m c        c is a word of field elements: a symbol for each position
--   value_at m c e       the polynomial with the coefficients c 0, .., c (n - 1), at a^e
--   ZeroFrom m b r c    it is zero at a^b, .., a^(b + r - 1)
--   RootsFrom m b r w   the same of a word of n bits
--   Codeword m t w      "its polynomial is zero at a^1, a^2, .., a^(2t)"
-- Assumes nothing.
use Rattle.std.specs.Prelude.{◌≡◌, ℕ, zero, suc, ◌+◌, ◌*◌, ◌/◌, ◌%◌, ◌^◌, ◌<◌, ◌≤◌}
use Rattle.field.specs.Field.{xor_sum, times, alpha_to, length_of}

-- "A word is n bits; bit j is the coefficient of x^j and weighs 2^j in the word's number."
unfoldable pub bit_of : ℕ → ℕ → ℕ
bit_of w zero = w % 2
bit_of w (suc j) = bit_of (w / 2) j

unfoldable pub word_of : ℕ → (ℕ → ℕ) → ℕ
word_of zero c = 0
word_of (suc n) c = word_of n (λ j. c (suc j)) * 2 + c 0

abbrev pub WordOver : ℕ → (ℕ → ℕ) → Type 0
WordOver m c = (p : ℕ) → p < length_of m → c p < 2 ^ m

unfoldable pub value_at : ℕ → (ℕ → ℕ) → ℕ → ℕ
value_at m c e = xor_sum (length_of m) (λ p. times m (c p) (alpha_to m (p * e)))

abbrev pub ZeroFrom : ℕ → ℕ → ℕ → (ℕ → ℕ) → Type 0
ZeroFrom m b r c = (e : ℕ) → b ≤ e → e < b + r → value_at m c e ≡ 0

pub record RootsFrom (m b r w : ℕ) : Type 0 where
  pub bits : w < 2 ^ length_of m
  pub roots : ZeroFrom m b r (bit_of w)

abbrev pub Codeword : ℕ → ℕ → ℕ → Type 0
Codeword m t w = RootsFrom m 1 (2 * t) w
