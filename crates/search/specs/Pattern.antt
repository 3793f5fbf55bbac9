-- A pattern (document 01, "The search"): the set of the reliable ranks that are flipped, bit j for rank j.
--   Pattern m r tau f        f is a pattern with at most tau flips
--   flipped_by m r R soft f   the hard decisions with the ranks of f flipped
--   choose k i               the binomial coefficient C(k, i)
-- Assumes nothing.
use Rattle.std.specs.Prelude.{List, ℕ, zero, suc, ◌+◌, ◌-◌, ◌^◌, ◌<◌, ◌≤◌, ℤ}
use Rattle.field.specs.Field.{◌⊕◌, length_of}
use Rattle.codes.specs.Codeword.{word_of}
use Rattle.soft.specs.Value.{hard}
use Rattle.search.specs.ByRank.{xor_bits, sum_bits}

pub record Pattern (m r tau f : ℕ) : Type 0 where
  pub ranks : f < 2 ^ (length_of m - r)
  pub few : sum_bits (λ j. 1) (length_of m - r) f ≤ tau

unfoldable pub flipped_by : ℕ → ℕ → (ℕ → ℕ) → List ℤ → ℕ → ℕ
flipped_by m r R soft f = word_of (length_of m) (hard soft) ⊕ xor_bits (λ j. 2 ^ R j) (length_of m - r) f

unfoldable pub choose : ℕ → ℕ → ℕ
choose k zero = 1
choose zero (suc i) = 0
choose (suc k) (suc i) = choose k (suc i) + choose k i
