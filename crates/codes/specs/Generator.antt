-- Multiples of a generator, and the word that a message is sent as (document 01, "Fields and codes", "Shortening"). A number is
-- a polynomial with coefficients 0 and 1, bit j the coefficient of x^j.
--   multiple k q g        q times g, q of degree below k
--   remainder_by d g k c   what is left of c, of degree below d + k, when it is divided by g, of degree d
--   systematic m t M      the word with the message M at the top and the parity that makes it a codeword below
-- Assumes nothing.
use Rattle.std.specs.Prelude.{ℕ, zero, suc, ◌+◌, ◌*◌, ◌/◌, ◌%◌, ◌^◌}
use Rattle.field.specs.Field.{◌⊕◌, bit_times}
use Rattle.codes.specs.Codeword.{bit_of}
use Rattle.codes.specs.Code.{dimension_of, parity_of, generator_of}

unfoldable pub multiple : ℕ → ℕ → ℕ → ℕ
multiple zero q g = 0
multiple (suc k) q g = bit_times (q % 2) g ⊕ multiple k (q / 2) g * 2

-- g is taken off at d + k - 1, .., d, wherever a coefficient is there
unfoldable pub remainder_by : ℕ → ℕ → ℕ → ℕ → ℕ
remainder_by d g zero c = c
remainder_by d g (suc k) c = remainder_by d g k (c ⊕ bit_times (bit_of c (d + k)) (g * 2 ^ k))

-- "Message bit i stands at position n-k+i .. the low n-k positions are the parity that makes a codeword."
unfoldable pub with_parity : ℕ → ℕ → ℕ → ℕ → ℕ
with_parity d g k M = M * 2 ^ d ⊕ remainder_by d g k (M * 2 ^ d)

unfoldable pub systematic : ℕ → ℕ → ℕ → ℕ
systematic m t M = with_parity (parity_of m t) (generator_of m t) (dimension_of m t) M
