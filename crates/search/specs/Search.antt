-- The search (document 01, "The search"): keep before flip, from rank 0 on. R is the order, rank to position; b the first root's
-- exponent; r the number of roots. Everything here computes.
--   patterns k may       how many patterns of k ranks have at most `may` flips
--   best_over             the best over all patterns of the ranks left
--   symbol m b r R v p   the symbol at p of the Reed-Solomon word that v's reliable bits fix
--   binary, completed    whether that word is binary, and the word
--   searched             the best over all patterns
-- Assumes nothing.
use Rattle.std.specs.Prelude.{Bool, true, false, List, ℕ, zero, suc, ◌+◌, ◌-◌, ◌^◌, ltb, ℤ}
use Rattle.field.specs.Below.{all}
use Rattle.field.specs.Field.{◌⊕◌, length_of}
use Rattle.codes.specs.Codeword.{bit_of, word_of}
use Rattle.codes.specs.Lagrange.{lagrange}
use Rattle.soft.specs.Value.{hard}
use Rattle.soft.specs.Distance.{soft_distance, flips_of}
use Rattle.search.specs.Best.{Best, Weighed, none, better}

abbrev pub weighed : ℕ → List ℤ → ℕ → Weighed
weighed m soft w = record { word = w; distance = soft_distance m soft w; flips = flips_of m soft w }

-- how many patterns of k ranks have at most `may` flips: "the sum of C(n-2t, i) for i from 0 to tau"
unfoldable pub patterns : ℕ → ℕ → ℕ
patterns zero may = 1
patterns (suc k) zero = patterns k zero
patterns (suc k) (suc may) = patterns k (suc may) + patterns k may

-- "Each reliable position, from rank 0 on, is either kept or flipped": the best over all patterns of the k ranks from i on,
-- with at most `may` flips among them; v is the hard decisions with the flips made so far, and `leaf` what a whole pattern does
module _ (R : ℕ → ℕ) (leaf : ℕ → Best → Best) where
  unfoldable pub best_over : ℕ → ℕ → ℕ → ℕ → Best → Best
  best_over zero i may v x = leaf v x
  best_over (suc k) i zero v x = best_over k (suc i) zero v x
  best_over (suc k) i (suc may) v x = best_over k (suc i) may (v ⊕ 2 ^ R i) (best_over k (suc i) (suc may) v x)

module _ (m b r : ℕ) (R : ℕ → ℕ) where
  -- "the resulting n-2t bits fix one Reed-Solomon word": its symbol at p, from the bits of v on the reliable ranks
  unfoldable pub symbol : ℕ → ℕ → ℕ
  symbol v p = lagrange m (1 - b) R (length_of m - r) (λ j. bit_of v (R j)) p

  -- "That word is dropped at its first symbol other than 0 or 1"
  unfoldable pub binary : ℕ → Bool
  binary v = all r (λ i. ltb (symbol v (R (length_of m - r + i))) 2)

  -- "otherwise it is a codeword"
  unfoldable pub completed : ℕ → ℕ
  completed v = word_of (length_of m) (symbol v)

  module _ (soft : List ℤ) where
    abbrev pub see_if : Bool → ℕ → Best → Best
    see_if true v x = better x (weighed m soft (completed v))
    see_if false v x = x

    abbrev pub see_pattern : ℕ → Best → Best
    see_pattern v x = see_if (binary v) v x

    unfoldable pub searched : ℕ → Best
    searched tau = best_over R see_pattern (length_of m - r) 0 tau (word_of (length_of m) (hard soft)) none
