-- `table::products::Logs::positions` meets its contract. The loop's invariant: every entry is below n, and the first p that are positions
-- are their own. Assumes nothing.
use mathlib.Core.Path.{◌≡◌}
use mathlib.Core.List.{List}
use Prim.Native.Nat.{ℕ, ◌<◌}
use lib.ListN.{length, get_or}
use Rattle.table.specs.Exponents.{Below}
use Rattle.table.proofs.products.Logs.positions.Given as goal

pub record Started (n p : ℕ) (l : List ℕ) : Type 0 where
  pub size : length l ≡ 64
  pub below : Below n 64 l
  pub own : (i : ℕ) → i < p → i < n → get_or l i 0 ≡ i

abbrev pub invariant-loop-p : goal.invariant-loop-p
invariant-loop-p l = Started l.self.n l.p l.list
