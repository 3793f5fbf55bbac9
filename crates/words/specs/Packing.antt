-- A word as bytes (document 01, "Packing"). Everything here computes.
--   bytes_of m            W, the number of bytes that a word fills
--   packed w n           the low n bytes of the number w, the lowest first
--   unpacked bytes n     the number that the first n bytes are
--   written m w before   the buffer `before` with the word w in its first W bytes
--   word_in m bytes       the word that stands in the first W bytes
-- Assumes nothing.
use Rattle.std.specs.Prelude.{cond, List, [], ◌∷◌, ◌++◌, ℕ, zero, suc, ◌+◌, ◌*◌, ◌/◌, ◌%◌, eqb, drop}

-- "A word fills W bytes: 2, 4 or 8 for m = 4, 5, 6."
unfoldable pub bytes_of : ℕ → ℕ
bytes_of m = cond (eqb m 4) 2 (cond (eqb m 5) 4 8)

-- "Bit j is bit j mod 8 (weight 2^(j mod 8)) of byte j div 8."
unfoldable pub packed : ℕ → ℕ → List ℕ
packed w zero = []
packed w (suc n) = w % 256 ∷ packed (w / 256) n

-- the same read back; a number that is no byte counts by its low eight bits, so that n bytes have 8n bits whatever is given
unfoldable pub unpacked : List ℕ → ℕ → ℕ
unpacked bytes zero = 0
unpacked [] (suc n) = 0
unpacked (b ∷ bytes) (suc n) = b % 256 + 256 * unpacked bytes n

-- "Success in encode and decode writes exactly the first W bytes."
unfoldable pub written : ℕ → ℕ → List ℕ → List ℕ
written m w before = packed w (bytes_of m) ++ drop (bytes_of m) before

-- "Read looks at the first W bytes"
abbrev pub word_in : ℕ → List ℕ → ℕ
word_in m bytes = unpacked bytes (bytes_of m)
