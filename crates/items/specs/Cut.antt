-- The items of a line as they are read one after another, none beyond its fifth byte. Everything here computes.
--   cut_off items   the items up to the first of more than four bytes, of which the first five stand for it and for all that follows
--   FirstSpace start i   i is the place of the first space among these bytes, or none is
--   left_of rest    what comes of the rest of a line, and nothing where no rest is left
-- Assumes nothing.
use Rattle.std.specs.Prelude.{◌≡◌, ◌≢◌, ◌<◌, cond, List, [], ◌∷◌, ℕ, leb, length, take, Option, Some, None, MatchOption}
use Rattle.std.specs.List.{AllWithin, HoldsAt}
use denote.Ref.{Bor}
use Rattle.items.specs.Line.{items}

-- "Numbers are one to three digits", with a minus or none: an item of more than four bytes is no number
unfoldable pub cut_off : List (List ℕ) → List (List ℕ)
cut_off [] = []
cut_off (item ∷ others) = cond (leb (length item) 4) (item ∷ cut_off others) (take 5 item ∷ [])

abbrev pub FirstSpace : List ℕ → Option ℕ → Type 0
FirstSpace start r =
    MatchOption r (AllWithin (λ b. b ≢ 32) start 0 (length start))
    (λ i. (i < length start) × HoldsAt (λ b. b ≡ 32) start i × AllWithin (λ b. b ≢ 32) start 0 i)

abbrev pub left_of : Option (Bor (List ℕ)) → List (List ℕ)
left_of None = []
left_of (Some text) = cut_off (items text.now)
