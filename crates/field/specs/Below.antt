-- What is said of all the numbers below n: a test of each, a sum over them, a count of them. Everything here computes.
--   all n t          t passes at every number below n
--   last_of n t       the last number below n at which t passes, 0 where none does
--   only b x         x where the test b passes, else 0
--   total n f        f 0 + f 1 + .. + f (n - 1)
--   sum_where n t f   the sum of f p over the p below n where t p passes
--   count_where n t   how many p below n pass t
-- Assumes nothing.
use Rattle.std.specs.Prelude.{Bool, true, false, cond, ◌&&◌, ℕ, zero, suc, ◌+◌}

abbrev pub all : ℕ → (ℕ → Bool) → Bool
all zero t = true
all (suc n) t = t n && all n t

unfoldable pub last_of : ℕ → (ℕ → Bool) → ℕ
last_of zero t = 0
last_of (suc n) t = cond (t n) n (last_of n t)

abbrev pub only : Bool → ℕ → ℕ
only true x = x
only false x = 0

unfoldable pub total : ℕ → (ℕ → ℕ) → ℕ
total zero f = 0
total (suc n) f = total n f + f n

abbrev pub sum_where : ℕ → (ℕ → Bool) → (ℕ → ℕ) → ℕ
sum_where n t f = total n (λ p. only (t p) (f p))

abbrev pub count_where : ℕ → (ℕ → Bool) → ℕ
count_where n t = total n (λ p. only (t p) 1)
