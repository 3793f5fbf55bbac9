-- A line's text and the numbers in it (document 01, "The program"). A text is the line's bytes without its newline. Everything here
-- computes.
--   line_fits text      the line is not too long
--   items text         the text cut at each space
--   is_number item      the item is a number without a sign
--   number_of item      which number
--   every test items   all items pass a test
-- Assumes nothing.
use Rattle.std.specs.Prelude.{Bool, true, cond, ◌&&◌, List, [], ◌∷◌, ℕ, ◌+◌, ◌-◌, ◌*◌, leb, eqb, length}

-- "Lines have at most 512 bytes before the newline"
abbrev pub line_fits : List ℕ → Bool
line_fits text = leb (length text) 512

-- "parted by single spaces, no other byte": cut at each space, so that a second space in a row, or one at an end, leaves an item with no
-- byte
abbrev pub on_first : ℕ → List (List ℕ) → List (List ℕ)
on_first b [] = []
on_first b (item ∷ others) = (b ∷ item) ∷ others

unfoldable pub items : List ℕ → List (List ℕ)
items [] = [] ∷ []
items (b ∷ text) = cond (eqb b 32) ([] ∷ items text) (on_first b (items text))

-- "Numbers are one to three digits"
abbrev pub is_digit : ℕ → Bool
is_digit b = leb 48 b && leb b 57

abbrev pub all_digits : List ℕ → Bool
all_digits [] = true
all_digits (b ∷ item) = is_digit b && all_digits item

unfoldable pub is_number : List ℕ → Bool
is_number item = leb 1 (length item) && leb (length item) 3 && all_digits item

-- the first digit weighs most
abbrev pub number_from : ℕ → List ℕ → ℕ
number_from n [] = n
number_from n (b ∷ item) = number_from (n * 10 + (b - 48)) item

unfoldable pub number_of : List ℕ → ℕ
number_of item = number_from 0 item

abbrev pub every : (List ℕ → Bool) → List (List ℕ) → Bool
every test [] = true
every test (item ∷ others) = test item && every test others
