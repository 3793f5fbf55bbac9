-- The lowest of the numbers b, .., b + r - 1 at which f is not 0.
--   Lowest b r f e   it is e
--   lowest_of b r f   the number itself, and b + r where f is 0 at all of them; it computes
-- Assumes nothing.
use Rattle.std.specs.Prelude.{◌≡◌, ◌≢◌, cond, ℕ, zero, suc, ◌+◌, ◌<◌, ◌≤◌, eqb}

pub record Lowest (b r : ℕ) (f : ℕ → ℕ) (e : ℕ) : Type 0 where
  pub low : b ≤ e
  pub high : e < b + r
  pub nonzero : f e ≢ 0
  pub lower : (i : ℕ) → b ≤ i → i < e → f i ≡ 0

unfoldable pub lowest_of : ℕ → ℕ → (ℕ → ℕ) → ℕ
lowest_of b zero f = b
lowest_of b (suc r) f = cond (eqb (f b) 0) (lowest_of (suc b) r f) b
