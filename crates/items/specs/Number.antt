-- What an item of a line is, as a number. Everything here computes.
--   negative, after_minus   its sign, and the bytes after it
--   signed_in minus digits  the number that these digits are, with this sign, where they are one
--   number_in item          the number that an item is, where it is one
-- Assumes nothing.
use Rattle.std.specs.Prelude.{Bool, false, cond, List, [], ◌∷◌, ℕ, eqb, Option, Some, None}
use Rattle.items.specs.Line.{is_number, number_of}
use Rattle.items.specs.declared.Number.{Number}

-- "in word lines with an optional minus"
abbrev pub negative : List ℕ → Bool
negative [] = false
negative (b ∷ item) = eqb b 45

abbrev pub after_minus : List ℕ → List ℕ
after_minus [] = []
after_minus (b ∷ item) = cond (eqb b 45) item (b ∷ item)

-- "Numbers are one to three digits"
unfoldable pub signed_in : Bool → List ℕ → Option Number
signed_in minus digits = cond (is_number digits) (Some (record { minus = minus; size = number_of digits })) None

unfoldable pub number_in : List ℕ → Option Number
number_in item = signed_in (negative item) (after_minus item)
