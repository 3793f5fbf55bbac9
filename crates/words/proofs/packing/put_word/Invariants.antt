-- `words::packing::put_word` meets its contract. The loop's invariant: the first bytes are written, and x holds those that are still to
-- be written. Assumes nothing.
use mathlib.Core.Path.{◌≡◌}
use mathlib.Core.List.{List, ◌++◌}
use Prim.Native.Nat.{ℕ, ◌-◌, ◌≤◌}
use lib.ListN.{length, take}
use Rattle.words.specs.Packing.{packed}
use Rattle.words.proofs.packing.put_word.Given as goal

-- of the bytes that take the word the first i are written, and x holds the others
pub record Put (word n : ℕ) (bytes : List ℕ) (x i : ℕ) : Type 0 where
  pub at : i ≤ n
  pub size : length bytes ≡ n
  pub front : take i bytes ++ packed x (n - i) ≡ packed word n

abbrev pub invariant-loop-byte : goal.invariant-loop-byte
invariant-loop-byte l = Put l.word l.n l.byte-items l.x l.byte-index
