-- The first line: which header its text is (document 01, "The program"; Req 01). Everything here computes.
--   header_with      a header with these four numbers
--   header_in ns     the header whose numbers are ns
--   header_of text   the header that a text is, none where it is no header
-- Assumes nothing.
use Rattle.std.specs.Prelude.{cond, ◌&&◌, List, [], ◌∷◌, map, ℕ, Option, Some, None}
use Rattle.items.specs.Line.{line_fits, items, is_number, number_of, every}
use Rattle.input_lines.specs.declared.header.Header.{Header}

abbrev pub header_with : ℕ → ℕ → ℕ → ℕ → Header
header_with m t s order = record { m = m; t = t; s = s; order = order }

-- "The header is `m t s order`" (document 01). Req 01: "A header of three numbers now means order t."
abbrev pub header_in : List ℕ → Option Header
header_in (m ∷ t ∷ s ∷ []) = Some (header_with m t s t)
header_in (m ∷ t ∷ s ∷ order ∷ []) = Some (header_with m t s order)
header_in [] = None
header_in (m ∷ []) = None
header_in (m ∷ t ∷ []) = None
header_in (m ∷ t ∷ s ∷ order ∷ n ∷ ns) = None

-- "Numbers are one to three digits .. parted by single spaces, no other byte." A header's numbers have no minus.
unfoldable pub header_of : List ℕ → Option Header
header_of text = cond (line_fits text && every is_number (items text)) (header_in (map number_of (items text))) None
