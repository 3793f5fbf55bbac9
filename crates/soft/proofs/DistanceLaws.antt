-- How large a soft distance can be, so that it fits its sixteen bits. Assumes nothing.
use mathlib.Core.List.{List}
use Prim.Native.Nat.{ℕ, ◌*◌, ◌<◌, ◌≤◌}
use native.Mathlib.Nat.{le_trans, mul-le-mul_right}
use lib.IntN.{ℤ}
use Rattle.field.specs.Field.{length_of}
use Rattle.field.proofs.TotalLaws.{count_most, total_most}
use Rattle.soft.specs.Value.{reliability}
use Rattle.soft.specs.Distance.{differs, soft_distance}

pub distance_at_most : (m : ℕ) (soft : List ℤ) (w : ℕ) → ((p : ℕ) → p < length_of m → reliability soft p ≤ 128)
    → soft_distance m soft w ≤ length_of m * 128
unfolding soft_distance
distance_at_most m soft w h =
    le_trans (total_most (length_of m) 128 (differs soft w) (reliability soft) (λ p l _. h p l))
    (mul-le-mul_right 128 (count_most (length_of m) (differs soft w)))
