-- What an unsent position is: hard decision 0, reliability 127. Assumes nothing.
use mathlib.Core.Path.{◌≡◌, ap}
use mathlib.Core.List.{List}
use Prim.Native.Nat.{ℕ, ◌≤◌}
use lib.IntN.{ℤ, pos, nat_abs}
use lib.ListN.{length, get_or-eq_default}
use Rattle.soft.specs.Value.{soft_at, hard_of, hard, reliability}

module _ (soft : List ℤ) (p : ℕ) (l : length soft ≤ p) where
  pub hard_unsent : hard soft p ≡ 0
  unfolding hard soft_at
  hard_unsent = ap hard_of (get_or-eq_default soft (pos 127) l)

  pub reliability_unsent : reliability soft p ≡ 127
  unfolding reliability soft_at
  reliability_unsent = ap nat_abs (get_or-eq_default soft (pos 127) l)
