-- Lines of the paper and of the requests that are computed, so that a wrong definition fails here. Assumes nothing.
use mathlib.Core.Path.{◌≡◌, refl}
use mathlib.Core.Bool.{false}
use mathlib.Core.List.{[], ◌∷◌, map}
use lib.IntN.{pos, negsuc}
use Rattle.std.specs.Prelude.{Some, None, option_map}
use Rattle.codes.specs.Code.{entry_of, dimension_of}
use Rattle.frame.specs.Refusal.{header_refusal}
use Rattle.items.specs.Line.{items, is_number, number_of}
use Rattle.input_lines.specs.Header.{header_with, header_of}
use Rattle.input_lines.specs.WordLine.{is_value, value_of, values_of}
use Rattle.output_lines.specs.Text.{bytes_in}
use Rattle.output_lines.specs.Output.{decimal_in, decimal, hex_of, refused_line, ok_line}
use Rattle.lines.specs.Answer.{refusal_of, call_of}
use Rattle.lines.specs.Program.{lines_of}

-- the example's header, and one with zeros before its numbers
headers : map header_of (bytes_in "4 1 0 1" ∷ bytes_in "04 001 0 3" ∷ []) ≡ Some (header_with 4 1 0 1) ∷ Some (header_with 4 1 0 3) ∷ []
unfolding header_of items is_number number_of
headers = refl

-- Req 01: an order that is left out is t, with zeros before it too
left_out : map header_of (bytes_in "4 1 0" ∷ bytes_in "4 2 0" ∷ bytes_in "4 02 000" ∷ bytes_in "6 3 0" ∷ [])
    ≡ Some (header_with 4 1 0 1) ∷ Some (header_with 4 2 0 2) ∷ Some (header_with 4 2 0 2) ∷ Some (header_with 6 3 0 3) ∷ []
unfolding header_of items is_number number_of
left_out = refl

-- and a header's order is the one that decode is given: `4 2 0` asks for order 2, `4 2 0 1` for 1
orders_asked : map (λ text. option_map (λ h. (call_of h []).order) (header_of text)) (bytes_in "4 2 0" ∷ bytes_in "4 2 0 1" ∷ [])
    ≡ Some 2 ∷ Some 1 ∷ []
unfolding header_of items is_number number_of
orders_asked = refl

-- too few numbers, too many, two spaces, a space at the end, a minus, and a blank line
wrong_headers : map header_of (bytes_in "4 1" ∷ bytes_in "4 1 0 1 1" ∷ bytes_in "4  1 0" ∷ bytes_in "4 1 0 " ∷ bytes_in "4 1 -0" ∷ [] ∷ [])
    ≡ None ∷ None ∷ None ∷ None ∷ None ∷ None ∷ []
unfolding header_of items is_number number_of
wrong_headers = refl

-- `260 1 0 1` is refused with 1, `4 1 11 4` with 2, `4 1 10 4` with 3, and `4 1 10 3` is not refused
header_refusals : map refusal_of (header_with 260 1 0 1 ∷ header_with 4 1 11 4 ∷ header_with 4 1 10 4 ∷ header_with 4 1 10 3 ∷ [])
    ≡ 1 ∷ 2 ∷ 3 ∷ 0 ∷ []
unfolding header_refusal dimension_of entry_of
header_refusals = refl

-- an unknown t is refused with 1 and not, as an order, with 3: `4 0 0`, `4 5 0` and `4 257 0`; `4 2 7` with 2
left_out_refusals : map (λ text. option_map refusal_of (header_of text))
    (bytes_in "4 0 0" ∷ bytes_in "4 5 0" ∷ bytes_in "4 257 0" ∷ bytes_in "4 2 7" ∷ [])
    ≡ Some 1 ∷ Some 1 ∷ Some 1 ∷ Some 2 ∷ []
unfolding header_of items is_number number_of header_refusal dimension_of entry_of
left_out_refusals = refl

-- values, and what is "outside -128 to 127" or no number
values_read : values_of (bytes_in "-128 127 -0 007") ≡ Some (negsuc 127 ∷ pos 127 ∷ pos 0 ∷ pos 7 ∷ [])
unfolding values_of items is_value value_of is_number number_of
values_read = refl

outside : map is_value (bytes_in "-129" ∷ bytes_in "128" ∷ bytes_in "--1" ∷ bytes_in "0001" ∷ []) ≡ false ∷ false ∷ false ∷ false ∷ []
unfolding is_value is_number number_of
outside = refl

-- the lines of P9 and P12, and a refusal
p9_line : ok_line (4 ∷ 96 ∷ []) 10 2 1 ≡ bytes_in "ok 0460 10 2 1\n"
unfolding ok_line hex_of decimal decimal_in
p9_line = refl

p12_line : ok_line (0 ∷ 0 ∷ []) 128 1 4 ≡ bytes_in "ok 0000 128 1 4\n"
unfolding ok_line hex_of decimal decimal_in
p12_line = refl

refused_4 : refused_line 4 ≡ bytes_in "refused 4\n"
unfolding refused_line decimal decimal_in
refused_4 = refl

-- an empty input has no line
anchor_empty : lines_of [] ≡ []
unfolding lines_of
anchor_empty = refl

-- a lone newline ends a blank line, and nothing after a final newline is no line
anchor_blank : lines_of (bytes_in "\n") ≡ [] ∷ []
unfolding lines_of
anchor_blank = refl

-- a blank line among others, and a last newline that is missing
anchor_lines : lines_of (bytes_in "12\n\n3") ≡ bytes_in "12" ∷ [] ∷ bytes_in "3" ∷ []
unfolding lines_of
anchor_lines = refl
