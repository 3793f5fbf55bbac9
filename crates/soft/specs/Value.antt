-- Hard decisions and reliabilities (document 01, "Soft values and distance"; document 002). Everything here computes.
--   soft_at soft p        the value at position p
--   hard soft p          the hard decision there
--   reliability soft p   its reliability
-- Assumes nothing.
use Rattle.std.specs.Prelude.{List, ℕ, ℤ, pos, negsuc, nat_abs, get_or}

-- "n-s signed values of eight bits, position 0 first .. An unsent position counts as the value 127."
unfoldable pub soft_at : List ℤ → ℕ → ℤ
soft_at soft p = get_or soft p (pos 127)

-- "A negative value is hard decision 1, zero or above is 0."
abbrev pub hard_of : ℤ → ℕ
hard_of (pos x) = 0
hard_of (negsuc x) = 1

unfoldable pub hard : List ℤ → ℕ → ℕ
hard soft p = hard_of (soft_at soft p)

-- "The reliability is the size of the value, so -128 has reliability 128."
unfoldable pub reliability : List ℤ → ℕ → ℕ
reliability soft p = nat_abs (soft_at soft p)
