-- The smallest reliabilities at the right bits, computed. Assumes nothing.
use mathlib.Core.Path.{◌≡◌, refl}
use mathlib.Core.List.{List, [], ◌∷◌, ◌++◌}
use lib.IntN.{ℤ, pos, negsuc}
use lib.ListN.{replicate}
use Rattle.field.specs.Below.{total}
use Rattle.field.specs.Field.{length_of}
use Rattle.codes.specs.Codeword.{bit_of}
use Rattle.soft.specs.Value.{soft_at, hard, reliability}
use Rattle.soft.specs.Distance.{differs, soft_distance, flips_of}
use Rattle.sent.specs.Smallest.{insert, sorted, added, smallest, values_where, right_reliabilities}

-- "smallest": not the first, not the largest
pub two_of_four : smallest 2 (7 ∷ 3 ∷ 9 ∷ 5 ∷ []) ≡ 8
unfolding smallest sorted insert added
two_of_four = refl

-- "unsent positions are among its right bits, with their 127": position 0 is right with 5, position 1 wrong, the others unsent
pub unsent_are_right : smallest 2 (right_reliabilities 4 (pos 5 ∷ negsuc 127 ∷ []) 0) ≡ 132
unfolding smallest sorted insert added right_reliabilities values_where differs hard reliability soft_at bit_of length_of
unsent_are_right = refl

-- the first line of document 01's whole example: values 10, but -10 at position 2 and 5 at positions 13 and 14
abbrev tied : List ℤ
tied = pos 10 ∷ pos 10 ∷ negsuc 9 ∷ replicate 10 (pos 10) ++ (pos 5 ∷ pos 5 ∷ [])

-- the word 04 60 has two wrong bits there, and its margin is none: both sums are 10, as is the zero word's distance
pub no_margin : (flips_of 4 tied 0x6004 ≡ 2) × (soft_distance 4 tied 0x6004 ≡ 10) × (smallest 1 (right_reliabilities 4 tied 0x6004) ≡ 10)
    × (soft_distance 4 tied 0 ≡ 10)
unfolding smallest sorted insert added right_reliabilities values_where differs hard reliability soft_at bit_of length_of soft_distance
    flips_of
    total
no_margin = (refl, refl, refl, refl)
