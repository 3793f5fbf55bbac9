-- Demand 3's margin by the size of the values, for r roots, fewer than there are positions. Where no wrong bit has a reliability above v
-- and no right one below it, v is not 0, and at most r/2 bits are wrong, the wrong sum is less than the right one: e wrong bits sum to at
-- most e v, and the r+1-e smallest right ones to at least (r+1-e) v. Assumes nothing.
use mathlib.Core.Path.{◌≡◌, refl, sym, ◌∙◌}
use mathlib.Core.Bool.{Bool, true, false, not}
use mathlib.Core.List.{List}
use Prim.Native.Nat.{ℕ, suc, ◌+◌, ◌-◌, ◌*◌, ◌<◌, ◌≤◌}
use native.Mathlib.Nat.{suc-mul, mul-le-mul_right}
use native.Mathlib.Omega.{arith}
use lib.Dec.{T}
use lib.IntN.{ℤ}
use Rattle.field.specs.Below.{only, total}
use Rattle.field.specs.Field.{length_of}
use Rattle.field.proofs.TotalLaws.{total_cong, total_plus, total_ones, total_most}
use Rattle.soft.specs.Value.{reliability}
use Rattle.soft.specs.Distance.{differs, soft_distance, flips_of}
use Rattle.sent.specs.Smallest.{smallest, right_reliabilities}
use Rattle.sent.proofs.SmallestLaws.{smallest_from, values_from, chosen_few}

one_or_other : (a : Bool) → only (not a) 1 + only a 1 ≡ 1
one_or_other true = refl
one_or_other false = refl

module _ (m r v : ℕ) (soft : List ℤ) (w : ℕ) where
  abbrev n : ℕ
  n = length_of m

  abbrev wrong : ℕ → Bool
  wrong p = differs soft w p

  abbrev right : ℕ → Bool
  right p = not (differs soft w p)

  right_count : total n (λ p. only (right p) 1) + flips_of m soft w ≡ n
  unfolding flips_of
  right_count =
      sym (total_plus n (λ p. only (right p) 1) (λ p. only (wrong p) 1))
      ∙ total_cong n _ (λ p. 1) (λ p _. one_or_other (wrong p)) ∙ total_ones n

  module _ (some : 1 ≤ v) (wide : r < n) (few : 2 * flips_of m soft w ≤ r)
      (most : (p : ℕ) → p < n → T (wrong p) → reliability soft p ≤ v)
      (least : (p : ℕ) → p < n → T (right p) → v ≤ reliability soft p) where
    abbrev e : ℕ
    e = flips_of m soft w

    wrong_sum_lem : soft_distance m soft w ≤ e * v
    unfolding soft_distance flips_of
    wrong_sum_lem = total_most n v wrong (reliability soft) most

    right_sum_lem : (r + 1 - e) * v ≤ smallest (r + 1 - e) (right_reliabilities m soft w)
    unfolding right_reliabilities
    right_sum_lem =
        smallest_from v (r + 1 - e) _ (values_from v n right (reliability soft) least)
        (omega (arith, right_count, chosen_few n right right (reliability soft) (λ p _ t. t)))

    pub margin_by_size : soft_distance m soft w < smallest (r + 1 - e) (right_reliabilities m soft w)
    margin_by_size = omega (arith, wrong_sum_lem, right_sum_lem, suc-mul e v, mul-le-mul_right {m = suc e} {n = r + 1 - e} v (omega arith))
