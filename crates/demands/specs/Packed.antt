-- "Bit j is bit j mod 8 (weight 2^(j mod 8)) of byte j div 8" (document 01, "Packing"), of the bytes that the calls write and of those that
-- they read: so the position that read's 9 gives, and the pad bit, are those of the host's own bytes.
-- Assumes nothing.
use Rattle.std.specs.Prelude.{◌≡◌, List, ℕ, ◌*◌, ◌/◌, ◌%◌, ◌<◌, get_or}
use Rattle.codes.specs.Codeword.{bit_of}
use Rattle.words.specs.Packing.{packed, unpacked}

abbrev pub BitsArePacked : Type 0
BitsArePacked = (n w j : ℕ) → j < 8 * n → bit_of (get_or (packed w n) (j / 8) 0) (j % 8) ≡ bit_of w j

abbrev pub BitsAreUnpacked : Type 0
BitsAreUnpacked = (n : ℕ) (bytes : List ℕ) (j : ℕ) → j < 8 * n → bit_of (unpacked bytes n) j ≡ bit_of (get_or bytes (j / 8) 0) (j % 8)
