-- Where a line ends in a block. Assumes nothing.
use Rattle.std.specs.Prelude.{◌≡◌, Bool, false, ◌==◌, ◌||◌, List, ℕ, ◌<◌, ◌≤◌, length, get_or, fold, Option, None, Some}
use Rattle.output_lines.specs.Text.{newline}

-- no newline from the one place to the other
abbrev pub Clear : List ℕ → ℕ → ℕ → Type 0
Clear block from end = (k : ℕ) → from ≤ k → k < end → get_or block k 0 ≡ newline → ⊥

-- and there one stands, or the block ends
pub record Found (block : List ℕ) (from end : ℕ) : Type 0 where
  pub after : from ≤ end
  pub within : end ≤ length block
  pub none : Clear block from end
  pub here : end < length block → get_or block end 0 ≡ newline

-- the place where one stands; none is the block's end
abbrev pub FoundFirst : List ℕ → ℕ → Option ℕ → Type 0
FoundFirst block from (Some end) = Found block from end × (end < length block)
FoundFirst block from None = Found block from (length block)

-- whether a newline is among the bytes, of which none ends the fold
abbrev pub newline_among : List ℕ → Bool
newline_among bytes = fold (λ near b. near || b == newline) false bytes
