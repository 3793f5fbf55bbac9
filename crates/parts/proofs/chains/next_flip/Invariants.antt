-- `next_flip` meets its contract. The loop's invariant: the flips of the ranks from j on lead nowhere. Assumes nothing.
use mathlib.Core.List.{List}
use Prim.Native.Nat.{ℕ, ◌+◌, ◌≤◌, ◌<◌}
use lib.ListN.{get_or}
use Rattle.field.specs.Field.{◌⊕◌}
use Rattle.parts.specs.Chains.{Shut}
use Rattle.parts.proofs.chains.next_flip.Given as goal

-- what the walk passes over
abbrev pub Passed : List ℕ → List ℕ → ℕ → ℕ → ℕ → ℕ → Type 0
Passed parts chains part from to r = (from ≤ r) × (r ≤ to) × ((i : ℕ) → r ≤ i → i < to → Shut chains (i + 1) (part ⊕ get_or parts i 0))

abbrev pub invariant-loop-j : goal.invariant-loop-j
invariant-loop-j l = Passed l.parts l.chains l.part l.from.0 l.fn.to.0 l.j
