-- `by_rank::gather` meets its contract. The loop's invariant: what the ranks from i on have is in its places. Assumes nothing.
use mathlib.Core.Path.{◌≡◌}
use mathlib.Core.List.{List}
use Prim.Native.Nat.{ℕ, ◌<◌, ◌≤◌}
use lib.ListN.{length, get_or}
use Rattle.codes.specs.Codeword.{bit_of}
use Rattle.codes.proofs.WordSteps.{word_from}
use Rattle.ranks.specs.Places.{place_in}
use Rattle.ranks.specs.declared.Position.{Position}
use Rattle.prepare.proofs.by_rank.gather.Given as goal

-- a list of 63 has F i, .., F (n - 1) at their places
pub record From (n : ℕ) (F : ℕ → ℕ) (i : ℕ) (l : List ℕ) : Type 0 where
  pub full : length l ≡ 63
  pub right : (j : ℕ) → i ≤ j → j < n → get_or l j 0 ≡ F j

abbrev pub bit_at : ℕ → List Position → ℕ → ℕ
bit_at word order i = bit_of word (place_in order i)

abbrev pub value_at : List ℕ → List Position → ℕ → ℕ
value_at values order i = get_or values (place_in order i) 0

abbrev pub invariant-loop-i : goal.invariant-loop-i
invariant-loop-i l =
    (l.i ≤ l.n) × From l.n (value_at l.reliability l.order) l.i l.weight × (l.bits ≡ word_from l.n (bit_at l.hards l.order) l.i)
