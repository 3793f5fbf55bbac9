-- `table::symbol_table` meets its contract. The loop's invariant: the columns of the first j ranks are in their places, each cell the
-- power of its exponent. Assumes nothing.
use mathlib.Core.Path.{◌≡◌}
use mathlib.Core.List.{List}
use Prim.Native.Nat.{ℕ, ◌+◌, ◌*◌, ◌<◌}
use lib.ListN.{length, get_or}
use Rattle.ranks.specs.Places.{place_in}
use Rattle.table.proofs.symbol_table.Given as goal

pub record Columns (powers exponents : List ℕ) (place : ℕ → ℕ) (j : ℕ) (l : List ℕ) : Type 0 where
  pub full : length l ≡ 378
  pub cells : (q i : ℕ) → q < 6 → i < j → get_or l (q * 63 + i) 0 ≡ get_or powers (get_or exponents (q * 64 + place i) 0) 0

abbrev pub invariant-loop-j : goal.invariant-loop-j
invariant-loop-j l = Columns l.powers l.exponents (place_in l.reliable) l.j l.table
