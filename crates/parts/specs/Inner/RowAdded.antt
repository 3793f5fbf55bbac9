-- The parts of one row more.
--   RowAdded symbols q l m   m has the parts of l with those of row q
-- Assumes nothing.
use Rattle.std.specs.Prelude.{◌≡◌, List, ℕ, ◌+◌, ◌*◌, ◌/◌, ◌^◌, ◌<◌, get_or}
use Rattle.field.specs.Field.{◌⊕◌}

abbrev pub RowAdded : List ℕ → ℕ → List ℕ → List ℕ → Type 0
RowAdded symbols q l m = (j : ℕ) → j < 64 → get_or m j 0 ≡ get_or l j 0 ⊕ get_or symbols (q * 63 + j) 0 / 2 * 2 ^ (4 * q)
