-- A number in decimal and bytes in hexadecimal.
--   decimal_is     the fewest digits that hold a number, as io says it, are its decimal
--   decimal_most   a number below 10^k has at most k digits
--   hex_more, hex_length   a byte more, and how long
-- Assumes nothing.
use mathlib.Core.Path.{◌≡◌, refl, sym, ap, ap₂, ◌∙◌}
use mathlib.Core.Bool.{Bool, true, false, cond}
use mathlib.Core.List.{List, [], ◌∷◌, ◌++◌}
use Prim.Native.Nat.{ℕ, zero, suc, ◌+◌, ◌-◌, ◌*◌, ◌/◌, ◌%◌, ◌^◌, ◌≤◌, ◌<◌}
use native.Mathlib.Nat.{pow-suc, pow-le-pow_right, mod-eq_of_lt}
use native.Mathlib.Omega.{arith}
use borrow.Author.Tests.{lt-ltb, le-ltb}
use lib.Dec.{ltb}
use lib.ListN.{length, length-append}
use Rattle.io.specs.Digits.{hex_digit_ascii, last_digits, IsDigitCount}
use Rattle.output_lines.specs.Output.{decimal_in, decimal, hex_of}

one_digit : (most n : ℕ) → n < 10 → decimal_in (suc most) n ≡ (48 + n) ∷ []
unfolding decimal_in
one_digit most n h = rw (lt-ltb n 10 h)

more_digits : (most n : ℕ) → 10 ≤ n → decimal_in (suc most) n ≡ decimal_in most (n / 10) ++ ((48 + n % 10) ∷ [])
unfolding decimal_in
more_digits most n h = rw (le-ltb n 10 h)

digit_glyph : (d : ℕ) → d < 10 → hex_digit_ascii d ≡ 48 + d
digit_glyph d h = rw (lt-ltb d 10 h)

-- with two digits or more: the number is 10 or more, and the digits before the last are the fewest too
two_or_more : (n k : ℕ) → IsDigitCount 10 1 n (suc (suc k)) → 10 ^ suc k ≤ n
two_or_more n k f = let e : suc (suc k) - 1 ≡ suc k = omega arith in rw e at (f.2 (omega arith))

ten_or_more : (n k : ℕ) → 10 ^ suc k ≤ n → 10 ≤ n
ten_or_more n k h = omega (arith, pow-suc 10 k, pow-le-pow_right {n = 10} (omega arith) {i = 0} {j = k} (omega arith))

fewer : (n k : ℕ) → IsDigitCount 10 1 n (suc (suc k)) → IsDigitCount 10 1 (n / 10) (suc k)
fewer n k f = (
  omega arith,
  omega (arith, f.1, pow-suc 10 (suc k)),
  λ l. let e : suc k - 1 ≡ k = omega arith in rw e (omega (arith, two_or_more n k f, pow-suc 10 k)),
)

decimal_in_lem : (most n k : ℕ) → n ≤ most → IsDigitCount 10 1 n k → last_digits 10 k n ≡ decimal_in (suc most) n
decimal_in_lem most n zero h f = absurd (omega (arith, f.0))
decimal_in_lem most n (suc zero) h f =
    let l : n < 10 = omega (arith, f.1) in
    ap (λ (x : ℕ). x ∷ []) (ap hex_digit_ascii (mod-eq_of_lt l) ∙ digit_glyph n l) ∙ sym (one_digit most n l)
decimal_in_lem zero n (suc (suc k)) h f = absurd (omega (arith, ten_or_more n k (two_or_more n k f)))
decimal_in_lem (suc most) n (suc (suc k)) h f =
    let l : 10 ≤ n = ten_or_more n k (two_or_more n k f) in
    ap₂ ◌++◌ (decimal_in_lem most (n / 10) (suc k) (omega arith) (fewer n k f))
    (ap (λ (x : ℕ). x ∷ []) (digit_glyph (n % 10) (omega arith)))
    ∙ sym (more_digits (suc most) n l)

pub decimal_is : (n k : ℕ) → IsDigitCount 10 1 n k → last_digits 10 k n ≡ decimal n
unfolding decimal
decimal_is n k f = decimal_in_lem n n k (omega arith) f

most_in : (most n k : ℕ) → n < 10 ^ suc k → length (decimal_in most n) ≤ suc k
unfolding decimal_in
most_in zero n k h = omega arith
most_in (suc most) n zero h = rw (lt-ltb n 10 (omega arith)) (omega arith)
most_in (suc most) n (suc k) h = go (ltb n 10) (most_in most (n / 10) k (omega (arith, pow-suc 10 (suc k))))
  where
    go : (t : Bool) → length (decimal_in most (n / 10)) ≤ suc k
        → length (cond t ((48 + n) ∷ []) (decimal_in most (n / 10) ++ ((48 + n % 10) ∷ []))) ≤ suc (suc k)
    go true l = omega arith
    go false l = simp length-append (omega arith)

pub decimal_most : (n k : ℕ) → n < 10 ^ suc k → length (decimal n) ≤ suc k
unfolding decimal
decimal_most n k h = most_in (suc n) n k h

pub hex_more : (bytes : List ℕ) (b : ℕ)
    → hex_of (bytes ++ (b ∷ [])) ≡ hex_of bytes ++ (hex_digit_ascii (b / 16) ∷ hex_digit_ascii (b % 16) ∷ [])
unfolding hex_of
hex_more [] b = refl
hex_more (x ∷ bytes) b = ap (λ (l : List ℕ). hex_digit_ascii (x / 16) ∷ hex_digit_ascii (x % 16) ∷ l) (hex_more bytes b)

pub hex_length : (bytes : List ℕ) → length (hex_of bytes) ≡ 2 * length bytes
unfolding hex_of
hex_length [] = refl
hex_length (b ∷ bytes) = omega (arith, hex_length bytes)
