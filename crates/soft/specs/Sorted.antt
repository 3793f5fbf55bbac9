-- The positions by rank, as an array has them. What is claimed of a call does not speak of it: Order has the ranks themselves.
-- Assumes nothing.
use Rattle.std.specs.Prelude.{List, ℕ, ◌<◌, T, ℤ}
use Rattle.field.specs.Field.{length_of}
use Rattle.codes.specs.Lagrange.{AllPlaces}
use Rattle.soft.specs.Order.{before}

-- all the positions, each once, each before the next
pub record Sorted (m : ℕ) (soft : List ℤ) (R : ℕ → ℕ) : Type 0 where
  pub order : AllPlaces m R
  pub rises : (i j : ℕ) → i < j → j < length_of m → T (before soft (R i) (R j))
