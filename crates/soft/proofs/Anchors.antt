-- Values of the paper, computed: what no settled example reaches. Assumes nothing.
use mathlib.Core.Path.{◌≡◌, refl}
use mathlib.Core.List.{[], ◌∷◌}
use lib.IntN.{pos, negsuc}
use Rattle.field.specs.Below.{total}
use Rattle.field.specs.Field.{length_of}
use Rattle.soft.specs.Value.{soft_at, hard, reliability}
use Rattle.soft.specs.Order.{before, rank_of}

-- "An unsent position counts as the value 127"; "-128 has reliability 128"; "zero or above is 0"
pub values : (hard [] 3 ≡ 0) × (reliability [] 3 ≡ 127) × (hard (negsuc 127 ∷ []) 0 ≡ 1) × (reliability (negsuc 127 ∷ []) 0 ≡ 128)
    × (hard (pos 0 ∷ []) 0 ≡ 0)
unfolding hard reliability soft_at
values = (refl, refl, refl, refl, refl)

-- "Higher reliability first; among equals the smaller position first.": position 0 has 5, position 1 has 128, the others 127
pub ranks : (rank_of 4 (pos 5 ∷ negsuc 127 ∷ []) 1 ≡ 0) × (rank_of 4 (pos 5 ∷ negsuc 127 ∷ []) 2 ≡ 1)
    × (rank_of 4 (pos 5 ∷ negsuc 127 ∷ []) 0 ≡ 14)
unfolding rank_of before reliability soft_at total length_of
ranks = (refl, refl, refl)
