-- `roots::lowest_power` meets its contract. The loop's invariant: e is odd, and the word is zero at every power below it. At the even power
-- after e it is zero too, since the lowest power at which a word is not zero is odd. Assumes nothing.
use mathlib.Core.Path.{◌≡◌}
use Prim.Native.Nat.{ℕ, ◌+◌, ◌*◌, ◌%◌, ◌<◌, ◌≤◌}
use Rattle.codes.specs.Codeword.{bit_of, value_at}
use Rattle.roots.proofs.lowest_power.Given as goal

-- zero at a^1, .., a^(e-1)
abbrev pub ZeroBelow : (ℕ → ℕ) → ℕ → Type 0
ZeroBelow f e = (i : ℕ) → 1 ≤ i → i < e → f i ≡ 0

abbrev pub invariant-loop-e : goal.invariant-loop-e
invariant-loop-e l = (l.e % 2 ≡ 1) × (l.e ≤ 1 + 2 * l.t) × ZeroBelow (value_at l.m (bit_of l.word)) l.e
