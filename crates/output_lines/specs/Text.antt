-- Texts as bytes. Everything here computes.
--   newline       the byte that ends a line
--   bytes_in text  the bytes of a text
-- Assumes nothing.
use mathlib.Core.List as L
use Rattle.std.specs.Prelude.{ℕ}
use Prim.Native.Char.{code}
use Prim.Native.String.{String, [], ◌∷◌}

abbrev pub newline : ℕ
newline = 10

abbrev pub bytes_in : String → L.List ℕ
bytes_in [] = L.[]
bytes_in (c ∷ text) = L.◌∷◌ (code c) (bytes_in text)
