-- What is shown of the order of positions and of distances: each claim a type, each proved in proofs/OrderLaws or DistanceLaws under
-- the name beside it.
-- Assumes nothing.
use Rattle.std.specs.Prelude.{◌≡◌, ◌↔◌, List, ℕ, ◌-◌, ◌*◌, ◌<◌, ◌≤◌, T, ℤ}
use Rattle.field.specs.Field.{length_of}
use Rattle.soft.specs.Value.{reliability}
use Rattle.soft.specs.Order.{rank_of, reliable}
use Rattle.soft.specs.Sorted.{Sorted}
use Rattle.soft.specs.Distance.{soft_distance}

-- rank_at: a sorted array agrees with the definition, in which a position's rank is how many come before it
abbrev pub SortedByRank : Type 0
SortedByRank = (m : ℕ) (soft : List ℤ) (R : ℕ → ℕ) → Sorted m soft R → (i : ℕ) → i < length_of m → rank_of m soft (R i) ≡ i

-- reliable_says: "The first n-2t are the reliable set."
abbrev pub FirstAreReliable : Type 0
FirstAreReliable = (m : ℕ) (soft : List ℤ) (R : ℕ → ℕ) → Sorted m soft R → (r p : ℕ) → p < length_of m
    → T (reliable m r soft p) ↔ ((i : ℕ) × (i < length_of m - r) × (p ≡ R i))

-- distance_at_most: "The largest possible sum is 63 times 128, which is 8,064." A value of eight bits has a reliability of at most 128
abbrev pub DistancesAreSmall : Type 0
DistancesAreSmall =
    (m : ℕ) (soft : List ℤ) (w : ℕ) → ((p : ℕ) → p < length_of m → reliability soft p ≤ 128) → soft_distance m soft w ≤ length_of m * 128
