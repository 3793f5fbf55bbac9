-- What an item is, by the number that was read.
--   plain, plain_is     a header's number
--   valued, valued_is   a word line's value
--   number_full, value_full   each has a byte
--   value_short               and a value has no more than four
-- Assumes nothing.
use mathlib.Core.Path.{◌≡◌, refl, sym, ap, ◌∙◌}
use mathlib.Core.Bool.{Bool, true, false, cond, ◌&&◌, true≢false}
use mathlib.Core.List.{List, [], ◌∷◌}
use Prim.Native.Nat.{ℕ, suc, ◌+◌, ◌<◌, ◌≤◌}
use native.Mathlib.Omega.{arith}
use borrow.Author.Tests.{ne_eqb}
use lib.Dec.{T, leb, eqb, leb→le}
use lib.IntN.{ℤ}
use lib.ListN.{length}
use Rattle.field.proofs.TestLaws.{and_left, and_right, is_true, is_false}
use Rattle.std.specs.Prelude.{Option, Some, None}
use Rattle.items.specs.Line.{is_digit, all_digits, is_number, number_of}
use Rattle.items.specs.Number.{negative, after_minus, signed_in, number_in}
use Rattle.items.specs.declared.Number.{Number}
use Rattle.items.proofs.DigitLaws.{digit_low}
use Rattle.input_lines.specs.WordLine.{is_value, signed, value_of}

-- a number without a sign begins with a digit, so with no minus
signless : (w : List ℕ) → T (is_number w) → negative w ≡ false
unfolding is_number
signless [] t = refl
signless (b ∷ w) t =
    let digit = is_true (is_digit b)
    (and_left (is_digit b) (all_digits w) (and_right (leb 1 (suc (length w)) && leb (suc (length w)) 3) (all_digits (b ∷ w)) t)) in
    ne_eqb b 45 (λ e. omega (arith, digit_low b digit))

all_of_it : (w : List ℕ) → negative w ≡ false → after_minus w ≡ w
all_of_it [] e = refl
all_of_it (b ∷ w) e = rw e

-- a number with no minus
abbrev pub plain : Option Number → Option ℕ
plain None = None
plain (Some n) = cond n.minus None (Some n.size)

pub plain_is : (w : List ℕ) → plain (number_in w) ≡ cond (is_number w) (Some (number_of w)) None
unfolding number_in signed_in
plain_is w = go (negative w) refl
  where
    none : (t : Bool) → plain (cond t (Some (record { minus = true; size = number_of (after_minus w) })) None) ≡ None
    none true = refl
    none false = refl

    some : (t : Bool) (n : ℕ) → plain (cond t (Some (record { minus = false; size = n })) None) ≡ cond t (Some n) None
    some true n = refl
    some false n = refl

    go : (u : Bool) → negative w ≡ u
        → plain (cond (is_number (after_minus w)) (Some (record { minus = u; size = number_of (after_minus w) })) None)
        ≡ cond (is_number w) (Some (number_of w)) None
    go true e = none (is_number (after_minus w)) ∙ rw (is_false (is_number w) (λ t. true≢false (sym e ∙ signless w t)))
    go false e =
        some (is_number (after_minus w)) (number_of (after_minus w))
        ∙ ap (λ (v : List ℕ). cond (is_number v) (Some (number_of v)) None) (all_of_it w e)

-- a number from -128 to 127
abbrev pub valued : Option Number → Option ℤ
valued None = None
valued (Some n) = cond (leb n.size (cond n.minus 128 127)) (Some (signed n.minus n.size)) None

pub valued_is : (w : List ℕ) → valued (number_in w) ≡ cond (is_value w) (Some (value_of w)) None
unfolding number_in signed_in is_value value_of
valued_is w = go (is_number (after_minus w))
  where
    go : (t : Bool)
        → valued (cond t (Some (record { minus = negative w; size = number_of (after_minus w) })) None)
        ≡ cond (t && leb (number_of (after_minus w)) (cond (negative w) 128 127))
        (Some (signed (negative w) (number_of (after_minus w)))) None
    go true = refl
    go false = refl

-- a number has a byte, and so has a value
pub number_full : (w : List ℕ) → T (is_number w) → 0 < length w
unfolding is_number
number_full w t =
    leb→le 1 (length w) (and_left (leb 1 (length w)) (leb (length w) 3) (and_left (leb 1 (length w) && leb (length w) 3) (all_digits w) t))

pub value_full : (w : List ℕ) → T (is_value w) → 0 < length w
unfolding is_value is_number
value_full [] t = absurd t
value_full (b ∷ w) t = omega arith

-- a value has no more than four bytes
minus_one : (w : List ℕ) → length w ≤ length (after_minus w) + 1
minus_one [] = omega arith
minus_one (b ∷ w) = go (eqb b 45)
  where
    go : (t : Bool) → length (b ∷ w) ≤ length (cond t w (b ∷ w)) + 1
    go true = omega arith
    go false = omega arith

number_short : (w : List ℕ) → T (is_number w) → length w ≤ 3
unfolding is_number
number_short w t =
    leb→le (length w) 3 (and_right (leb 1 (length w)) (leb (length w) 3) (and_left (leb 1 (length w) && leb (length w) 3) (all_digits w) t))

pub value_short : (w : List ℕ) → T (is_value w) → length w ≤ 4
unfolding is_value
value_short w t =
    let n = number_short (after_minus w)
    (and_left (is_number (after_minus w)) (leb (number_of (after_minus w)) (cond (negative w) 128 127)) t) in
    omega (arith, minus_one w, n)
