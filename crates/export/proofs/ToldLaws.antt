-- What a host is told, as the code copies it: as many numbers as there is room for, and what was past them. Assumes nothing.
use mathlib.Core.Path.{◌≡◌, refl, ap}
use mathlib.Core.List.{List, [], ◌∷◌, ◌++◌}
use Prim.Native.Nat.{ℕ, zero, suc, ◌≤◌, min}
use native.Mathlib.Omega.{arith}
use lib.ListN.{length, take, drop}
use Rattle.export.specs.Told.{placed, told}

module _ {A : Type 0} where
  placed_copied : (numbers before : List A) (n : ℕ) → n ≡ min (length numbers) (length before)
      → take n numbers ++ drop n before ≡ placed numbers before
  placed_copied [] before n e = let z : n ≡ 0 = omega arith in rw z
  placed_copied (x ∷ xs) [] n e = let z : n ≡ 0 = omega arith in rw z
  placed_copied (x ∷ xs) (y ∷ ys) n e =
      let z : n ≡ suc (min (length xs) (length ys)) = omega arith in
      rw z (ap (λ (r : List A). x ∷ r) (placed_copied xs ys (min (length xs) (length ys)) refl))

  pub told_copied : (N : ℕ) (numbers before : List A) (n : ℕ) → N ≤ 0 → n ≡ min (length numbers) (length before)
      → take n numbers ++ drop n before ≡ told N numbers before
  told_copied zero numbers before n h e = placed_copied numbers before n e
  told_copied (suc N) numbers before n h e = absurd (omega arith)
