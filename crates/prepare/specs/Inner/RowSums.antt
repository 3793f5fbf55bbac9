-- The sums of the symbol table's rows.
--   AddsColumn, row_sum, RowSums   the sum of a row's cells at the set bits, and all rows' sums as a list
-- Assumes nothing.
use Rattle.std.specs.Prelude.{◌≡◌, List, ℕ, ◌+◌, ◌*◌, ◌<◌, length, get_or}
use Rattle.field.specs.Field.{◌⊕◌}
use Rattle.search.specs.ByRank.{xor_bits}

-- a column is added to the rows' sums
pub record AddsColumn (j : ℕ) (symbols before after : List ℕ) : Type 0 where
  pub full : length after ≡ 6
  pub sums : (q : ℕ) → q < 6 → get_or after q 0 ≡ get_or before q 0 ⊕ get_or symbols (q * 63 + j) 0

unfoldable pub row_sum : List ℕ → ℕ → ℕ → ℕ → ℕ
row_sum symbols bits size q = xor_bits (λ j. get_or symbols (q * 63 + j) 0) size bits

abbrev pub RowSums : List ℕ → ℕ → ℕ → List ℕ → Type 0
RowSums symbols bits size l = (q : ℕ) → q < 6 → get_or l q 0 ≡ row_sum symbols bits size q
