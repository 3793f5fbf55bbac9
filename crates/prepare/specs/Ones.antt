-- A turn of a walk over the set bits of a word.
--   Took g j h          j is the lowest set bit of g, and h the others
--   TakesLowest g r h   r is that bit, or None where no bit is set
-- Assumes nothing.
use Rattle.std.specs.Prelude.{◌≡◌, ℕ, ◌-◌, ◌<◌, bit_and, Option, MatchOption}
use lib.Count.{count_trailing_zeros}

pub record Took (g j h : ℕ) : Type 0 where
  pub some : 0 < g
  pub lowest : j ≡ count_trailing_zeros 64 g
  pub left : h ≡ bit_and g (g - 1)

abbrev pub TakesLowest : ℕ → Option ℕ → ℕ → Type 0
TakesLowest g r h = MatchOption r (g ≡ 0) (λ j. Took g j h)
