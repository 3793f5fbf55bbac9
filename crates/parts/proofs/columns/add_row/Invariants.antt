-- `add_row` meets its contract. The loop's invariant: the parts before j have the row added, and those from j on are as they were.
-- Assumes nothing.
use mathlib.Core.Path.{◌≡◌}
use Prim.Native.Nat.{ℕ, ◌+◌, ◌*◌, ◌/◌, ◌^◌, ◌≤◌, ◌<◌}
use lib.ListN.{length, get_or}
use Rattle.field.specs.Field.{◌⊕◌}
use Rattle.parts.proofs.columns.add_row.Given as goal

abbrev pub invariant-loop-j : goal.invariant-loop-j
invariant-loop-j l =
    (length l.parts ≡ 64)
    × ((k : ℕ) → k < l.j → get_or l.parts k 0 ≡ get_or l.initial.parts k 0 ⊕ get_or l.symbols (l.q * 63 + k) 0 / 2 * 2 ^ (4 * l.q))
    × ((k : ℕ) → l.j ≤ k → get_or l.parts k 0 ≡ get_or l.initial.parts k 0)
