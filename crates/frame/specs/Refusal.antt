-- What each call says no to before it looks at a word (document 01, "What each call says no to"), over numbers: `room` is the
-- length of the lent buffer, `values` the count of soft values. 0 is no refusal, 1 an unknown code, 2 s too large, 3 the order,
-- 4 the count, 5 the buffer, 7 the message; 6, no candidate, and 8, 9 and 10, a word not to be read, speak of words and are not here.
--   Check            a row of the table: whether it is met, and its number; the rows are unknown_code to large_message
--   first_met         the number of the first of a list that is met, 0 where none is
--   code_refusal      of the rows with which every call begins; header_refusal: of those that a header decides; encode_refusal,
--                    read_refusal, decode_refusal: of each call's
-- Assumes nothing.
use Rattle.std.specs.Prelude.{Bool, not, cond, ◌&&◌, List, [], ◌∷◌, ℕ, ◌-◌, ◌^◌, leb, ltb, eqb}
use Rattle.field.specs.Field.{length_of}
use Rattle.codes.specs.Code.{dimension_of}
use Rattle.words.specs.Packing.{bytes_of}

abbrev pub Check : Type 0
Check = Bool × ℕ

-- "m not 4 to 6, or t not 1 to 3"
abbrev pub unknown_code : ℕ → ℕ → Check
unknown_code m t = (not (leb 4 m && leb m 6 && (leb 1 t && leb t 3)), 1)

-- "s is k or more"
abbrev pub too_short : ℕ → ℕ → ℕ → Check
too_short m t s = (leb (dimension_of m t) s, 2)

-- "order above 3"
abbrev pub high_order : ℕ → Check
high_order order = (ltb 3 order, 3)

-- "count of soft values is not n-s"
abbrev pub wrong_count : ℕ → ℕ → ℕ → Check
wrong_count m s values = (not (eqb values (length_of m - s)), 4)

-- "the lent word buffer has fewer than W bytes"
abbrev pub small_buffer : ℕ → ℕ → Check
small_buffer m room = (ltb room (bytes_of m), 5)

-- "the message is 2^(k-s) or more"
abbrev pub large_message : ℕ → ℕ → ℕ → ℕ → Check
large_message m t s message = (leb (2 ^ (dimension_of m t - s)) message, 7)

-- "The first that applies is given"
abbrev pub first_met : List Check → ℕ
first_met [] = 0
first_met (c ∷ cs) = cond c.0 c.1 (first_met cs)

unfoldable pub code_refusal : ℕ → ℕ → ℕ → ℕ
code_refusal m t s = first_met (unknown_code m t ∷ too_short m t s ∷ [])

-- "refusals 1 to 3": of the rows that a header of the program decides
unfoldable pub header_refusal : ℕ → ℕ → ℕ → ℕ → ℕ
header_refusal m t s order = first_met (unknown_code m t ∷ too_short m t s ∷ high_order order ∷ [])

-- "in this order: encode 1, 2, 7, 5; decode 1, 2, 3, 4, 5, 6; read 1, 2, 5, 8"; Req 02 has made 8, 9 and 10, in this order, of read's 8
unfoldable pub encode_refusal : ℕ → ℕ → ℕ → ℕ → ℕ → ℕ
encode_refusal m t s message room = first_met (unknown_code m t ∷ too_short m t s ∷ large_message m t s message ∷ small_buffer m room ∷ [])

unfoldable pub read_refusal : ℕ → ℕ → ℕ → ℕ → ℕ
read_refusal m t s room = first_met (unknown_code m t ∷ too_short m t s ∷ small_buffer m room ∷ [])

unfoldable pub decode_refusal : ℕ → ℕ → ℕ → ℕ → ℕ → ℕ → ℕ
decode_refusal m t s order values room =
    first_met (unknown_code m t ∷ too_short m t s ∷ high_order order ∷ wrong_count m s values ∷ small_buffer m room ∷ [])
