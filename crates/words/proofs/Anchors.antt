-- Facts of the paper that are computed, so that a wrong definition fails here. Assumes nothing.
use mathlib.Core.Path.{◌≡◌, refl}
use mathlib.Core.List.{[], ◌∷◌, map}
use Rattle.words.specs.Packing.{bytes_of, packed, unpacked, written, word_in}

-- "2, 4 or 8 for m = 4, 5, 6"
bytes : map bytes_of (4 ∷ 5 ∷ 6 ∷ []) ≡ 2 ∷ 4 ∷ 8 ∷ []
unfolding bytes_of
bytes = refl

-- "m=6: t=3, cf 82 07 and five zero bytes", and a byte of the buffer past them
bytes_written : written 6 0x782cf (1 ∷ 2 ∷ 3 ∷ 4 ∷ 5 ∷ 6 ∷ 7 ∷ 8 ∷ 9 ∷ []) ≡ 0xcf ∷ 0x82 ∷ 0x07 ∷ 0 ∷ 0 ∷ 0 ∷ 0 ∷ 0 ∷ 9 ∷ []
unfolding written packed bytes_of
bytes_written = refl

-- "m=5: t=2, 69 07 00 00", and a byte past them
bytes_read : word_in 5 (0x69 ∷ 0x07 ∷ 0 ∷ 0 ∷ 9 ∷ []) ≡ 0x769
unfolding unpacked bytes_of
bytes_read = refl
