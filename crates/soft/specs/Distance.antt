-- How far a word is from what was received (document 01, "Soft values and distance", "The search"). Everything here computes.
--   differs soft w p           the word w differs from the hard decision at p
--   soft_distance m soft w      its soft distance
--   flips_of m soft w           at how many positions it differs
--   reliable_flips m r soft w   at how many of the reliable set
-- Assumes nothing.
use Rattle.std.specs.Prelude.{Bool, not, ◌&&◌, List, ℕ, eqb, ℤ}
use Rattle.field.specs.Below.{sum_where, count_where}
use Rattle.field.specs.Field.{length_of}
use Rattle.codes.specs.Codeword.{bit_of}
use Rattle.soft.specs.Value.{hard, reliability}
use Rattle.soft.specs.Order.{reliable}

unfoldable pub differs : List ℤ → ℕ → ℕ → Bool
differs soft w p = not (eqb (bit_of w p) (hard soft p))

-- "the sum of the reliabilities at the positions where it differs from the hard decisions"
unfoldable pub soft_distance : ℕ → List ℤ → ℕ → ℕ
soft_distance m soft w = sum_where (length_of m) (differs soft w) (reliability soft)

-- "the number of positions where it differs from the hard decisions (flips)"
unfoldable pub flips_of : ℕ → List ℤ → ℕ → ℕ
flips_of m soft w = count_where (length_of m) (differs soft w)

-- "at most tau positions of the reliable set"
unfoldable pub reliable_flips : ℕ → ℕ → List ℤ → ℕ → ℕ
reliable_flips m r soft w = count_where (length_of m) (λ p. reliable m r soft p && differs soft w p)
