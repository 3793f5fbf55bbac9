-- A shift of 1 as code does it, and that W bytes hold a word and one bit more. Assumes nothing.
use mathlib.Core.Path.{◌≡◌}
use Prim.Native.Nat.{ℕ, suc, ◌*◌, ◌%◌, ◌^◌, ◌<◌, ◌≤◌}
use native.Mathlib.Nat.{one-mul, mod-eq_of_lt, pow-suc}
use native.Mathlib.Omega.{arith}
use lib.Pow.{pow-lt}
use lib.Dec.{eqb, eqb→eq}
use Rattle.field.specs.Field.{length_of}
use Rattle.codes.proofs.ShapeLaws.{each_m}
use Rattle.words.specs.Packing.{bytes_of}

-- 1 shifted left, as the code does it
pub one_shifted : {k : ℕ} → k < 64 → 1 * 2 ^ k % 2 ^ 64 ≡ 2 ^ k
one_shifted {k} l = rw one-mul (mod-eq_of_lt (pow-lt l))

-- "The one pad bit at the top": W bytes have one bit more than a word
pub bytes_filled : (m : ℕ) → 4 ≤ m → m ≤ 6 → 256 ^ bytes_of m ≡ 2 ^ suc (length_of m)
unfolding length_of bytes_of
bytes_filled m a c =
    eqb→eq (256 ^ bytes_of m) (2 ^ suc (length_of m)) (each_m (λ x. eqb (256 ^ bytes_of x) (2 ^ suc (length_of x))) tt m a c)

pub word_fits : (m : ℕ) → 4 ≤ m → m ≤ 6 → 2 ^ length_of m ≤ 256 ^ bytes_of m
word_fits m a c = omega (arith, bytes_filled m a c, pow-suc 2 (length_of m))
