-- `words::packing::word_in` meets its contract. The loop's invariant: the word so far is that of the bytes from i on. Assumes nothing.
use mathlib.Core.Path.{◌≡◌}
use mathlib.Core.List.{List}
use Prim.Native.Nat.{ℕ, ◌-◌, ◌^◌, ◌≤◌, ◌<◌}
use lib.ListN.{drop}
use Rattle.words.specs.Packing.{unpacked}
use Rattle.words.proofs.packing.word_in.Given as goal

-- the word of the n bytes from i on
pub record From (bytes : List ℕ) (n word i : ℕ) : Type 0 where
  pub at : i ≤ n
  pub value : word ≡ unpacked (drop i bytes) (n - i)
  pub low : word < 256 ^ (n - i)

abbrev pub invariant-loop-i : goal.invariant-loop-i
invariant-loop-i l = From l.bytes l.n l.word l.i
