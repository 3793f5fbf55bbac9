-- Numbers of the paper, computed: "For m=6, t=3, tau=3 it is 30,914", and the tie rule. Assumes nothing.
use mathlib.Core.Path.{◌≡◌, refl}
use mathlib.Core.Bool.{true}
use Rattle.search.specs.Best.{stays, better}
use Rattle.search.specs.Search.{patterns}

pub patterns_63_45 : (patterns 57 3 ≡ 30914) × (patterns 57 0 ≡ 1) × (patterns 13 1 ≡ 14)
unfolding patterns
patterns_63_45 = (refl, refl, refl)

-- "Among candidates of equal distance the one with the lowest number wins."
pub lowest_wins :
    better (record { found = true; word = 0x6004; distance = 10; flips = 2; count = 1 }) (record { word = 0; distance = 10; flips = 1 })
    ≡ record { found = true; word = 0; distance = 10; flips = 1; count = 2 }
unfolding better stays
lowest_wins = refl
