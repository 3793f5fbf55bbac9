-- The lines that are printed (document 01, "The program"): bytes, each line with one newline at its end. Everything here computes.
--   decimal n      n in decimal, without leading zeros
--   hex_of bytes    two lower-case hexadecimal digits for each byte
--   header_line, line_line, refused_line, ok_line   the four answers
-- Assumes nothing.
use Rattle.std.specs.Prelude.{cond, List, [], ◌∷◌, ◌++◌, ℕ, zero, suc, ◌+◌, ◌/◌, ◌%◌, ltb}
use Rattle.io.specs.Digits.{hex_digit_ascii}
use Rattle.output_lines.specs.Text.{newline, bytes_in}

-- the digits of n, the first weighs most; n has at most `most` of them
unfoldable pub decimal_in : ℕ → ℕ → List ℕ
decimal_in zero n = []
decimal_in (suc most) n = cond (ltb n 10) ((48 + n) ∷ []) (decimal_in most (n / 10) ++ ((48 + n % 10) ∷ []))

unfoldable pub decimal : ℕ → List ℕ
decimal n = decimal_in (suc n) n

-- "lower-case hex in buffer order"
unfoldable pub hex_of : List ℕ → List ℕ
hex_of [] = []
hex_of (b ∷ bytes) = hex_digit_ascii (b / 16) ∷ hex_digit_ascii (b % 16) ∷ hex_of bytes

-- a number with the space before it
abbrev pub figure : ℕ → List ℕ
figure n = 32 ∷ decimal n

-- "prints `header`"
unfoldable pub header_line : List ℕ
header_line = bytes_in "header\n"

-- "prints `line`"
unfoldable pub line_line : List ℕ
line_line = bytes_in "line\n"

-- "print `refused N`"
unfoldable pub refused_line : ℕ → List ℕ
refused_line N = bytes_in "refused" ++ figure N ++ newline ∷ []

-- "prints `ok WORD distance flips candidates`, WORD being the W bytes in lower-case hex in buffer order"
unfoldable pub ok_line : List ℕ → ℕ → ℕ → ℕ → List ℕ
ok_line bytes distance flips candidates =
    bytes_in "ok " ++ hex_of bytes ++ figure distance ++ figure flips ++ figure candidates ++ newline ∷ []
