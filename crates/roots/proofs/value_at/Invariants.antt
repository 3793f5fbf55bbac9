-- `roots::value_at` meets its contract. The loop's invariant: the sum so far and the power times the value of what is left of the word make
-- the word's value. The measure is what is left. Assumes nothing.
use mathlib.Core.Path.{◌≡◌}
use Prim.Native.Nat.{◌^◌, ◌<◌}
use Rattle.field.specs.Field.{◌⊕◌, times, length_of}
use Rattle.codes.specs.Codeword.{bit_of, value_at}
use Rattle.roots.proofs.value_at.Given as goal

abbrev pub invariant-loop-rest : goal.invariant-loop-rest
invariant-loop-rest l =
    let m = l.m in
    (l.sum ⊕ times m l.power (value_at m (bit_of l.rest) l.e) ≡ value_at m (bit_of l.word) l.e) × (l.power < 2 ^ m)
    × (l.rest < 2 ^ length_of m)

abbrev pub decreases-loop-rest : goal.decreases-loop-rest
decreases-loop-rest l = l.rest
