-- The non-binary part of a pattern's symbols, all their bits but the lowest: of "that word is dropped at its first symbol other
-- than 0 or 1" (document 01, "The search") what can be told of many patterns at once. Everything here computes.
--   part_over S n        the non-binary parts of S 0, .., S (n - 1), four bits apart and added without carries
--   part_of p k f        that of the pattern f in the first k rows
--   column_part p k j    that of the column of rank j
-- Assumes nothing.
use Rattle.std.specs.Prelude.{ℕ, zero, suc, ◌*◌, ◌/◌, ◌^◌}
use Rattle.field.specs.Field.{◌⊕◌}
use Rattle.search.specs.Plan.{Plan}
use Rattle.search.specs.ByRank.{rank_symbol}

unfoldable pub part_over : (ℕ → ℕ) → ℕ → ℕ
part_over S zero = 0
part_over S (suc q) = part_over S q ⊕ S q / 2 * 2 ^ (4 * q)

unfoldable pub part_of : Plan → ℕ → ℕ → ℕ
part_of p k f = part_over (rank_symbol p f) k

unfoldable pub column_part : Plan → ℕ → ℕ → ℕ
column_part p k j = part_over (λ q. p.column q j) k
