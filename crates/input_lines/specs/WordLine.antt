-- A word line: which soft values its text is (document 01, "The program"). Everything here computes.
--   is_value item    the item is a number of eight bits, with an optional minus
--   value_of item    which value
--   values_of text   the values of a word line, none where it is of another form
-- Assumes nothing.
use Rattle.std.specs.Prelude.{Bool, cond, ◌&&◌, List, map, ℕ, leb, Option, Some, None, ℤ, pos, neg_ℤ}
use Rattle.items.specs.Line.{line_fits, items, is_number, number_of, every}
use Rattle.items.specs.Number.{negative, after_minus}

-- "a value outside -128 to 127" makes a line wrong; `-0` is the value 0
unfoldable pub is_value : List ℕ → Bool
is_value item = is_number (after_minus item) && leb (number_of (after_minus item)) (cond (negative item) 128 127)

abbrev pub signed : Bool → ℕ → ℤ
signed minus n = cond minus (neg_ℤ (pos n)) (pos n)

unfoldable pub value_of : List ℕ → ℤ
value_of item = signed (negative item) (number_of (after_minus item))

-- "A wrong or too long word line, a blank one, or a value outside -128 to 127": a blank line's one item has no digit
unfoldable pub values_of : List ℕ → Option (List ℤ)
values_of text = cond (line_fits text && every is_value (items text)) (Some (map value_of (items text))) None
