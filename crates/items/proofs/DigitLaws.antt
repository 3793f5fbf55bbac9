-- A number, digit by digit.
--   digit_low   how large a digit is
--   wrong_length, other_byte, one, two, three   what bytes are as a number: not one to three, one that is no digit, so many digits
--   whole   and all digits, read one after another to their end
--   number_minus, number_plain   what an item is, by whether it begins with a minus
--   first_minus, first_plain   and by its first byte
--   no_digit, a_digit   what a byte is by the answer to it
-- Assumes nothing.
use mathlib.Core.Path.{◌≡◌, refl, sym, ap, subst, ◌∙◌}
use mathlib.Core.Bool.{Bool, true, false, cond, ◌&&◌, and-false, and-true, true≢false}
use mathlib.Core.Logic.{by_cases}
use mathlib.Core.List.{List, [], ◌∷◌}
use Prim.Native.Nat.{ℕ, zero, suc, ◌+◌, ◌-◌, ◌*◌, ◌≤◌, ◌<◌}
use native.Mathlib.Decide.{dec_le}
use native.Mathlib.Omega.{arith}
use borrow.Author.Tests.{le-leb, lt-leb, eq-eqb, ne_eqb}
use lib.Dec.{T, leb, eqb, leb→le}
use lib.ListN.{length, get_or, take, drop, drop_of_length-le}
use lib.Pointwise.{pointwise}
use Rattle.field.proofs.TestLaws.{and_left}
use Rattle.std.specs.Prelude.{Option, Some, None}
use Rattle.items.specs.Line.{is_digit, all_digits, is_number, number_from, number_of}
use Rattle.items.specs.Number.{signed_in, number_in}
use Rattle.items.specs.declared.Number.{Number}
use Rattle.items.proofs.CutLaws.{drop_all}

pub is_so : {b : Bool} → b ≡ true → T b
is_so e = subst T (sym e) tt

pub digit_low : (b : ℕ) → is_digit b ≡ true → 48 ≤ b
digit_low b e = leb→le 48 b (and_left (leb 48 b) (leb b 57) (is_so e))

-- digits that are no number, and those that are one
all_other : (digits : List ℕ) (i : ℕ) → i < length digits → is_digit (get_or digits i 0) ≡ false → all_digits digits ≡ false
all_other [] i l n = absurd (omega arith)
all_other (b ∷ digits) zero l n = rw n
all_other (b ∷ digits) (suc i) l n = rw (all_other digits i (omega arith) n, and-false (is_digit b))

module _ (minus : Bool) where
  abbrev pub number : ℕ → Option Number
  number size = Some (record { minus = minus; size = size })

  module _ (digits : List ℕ) where
    pub wrong_length : (1 ≤ length digits → length digits ≤ 3 → ⊥) → signed_in minus digits ≡ None
    unfolding signed_in is_number
    wrong_length n =
        by_cases (dec_le 1 (length digits))
        (λ h. rw (lt-leb (length digits) 3 (omega arith), and-false (leb 1 (length digits))))
        (λ h. rw (lt-leb 1 (length digits) (omega arith)))

    pub other_byte : (i : ℕ) → i < length digits → is_digit (get_or digits i 0) ≡ false → signed_in minus digits ≡ None
    unfolding signed_in is_number
    other_byte i l n = rw (all_other digits i l n, and-false (leb 1 (length digits) && leb (length digits) 3))

    -- where no more of them is left, the number so far is all of it
    pub whole : (i size : ℕ) → 1 ≤ length digits → length digits ≤ 3 → length digits ≤ i
        → all_digits (drop i digits) ≡ all_digits digits → number_from size (drop i digits) ≡ number_from 0 digits
        → signed_in minus digits ≡ Some (record { minus = minus; size = size })
    unfolding signed_in is_number number_of
    whole i size low high h e f =
        let none : drop i digits ≡ [] = drop_of_length-le digits h in
        let all : all_digits digits ≡ true = sym e ∙ ap all_digits none in
        rw (le-leb 1 (length digits) low, le-leb (length digits) 3 high, all) (ap number (sym f ∙ ap (number_from size) none))

  pub one : (digits : List ℕ) → length digits ≡ 1 → is_digit (get_or digits 0 0) ≡ true
      → signed_in minus digits ≡ number (get_or digits 0 0 - 48)
  unfolding signed_in is_number number_of
  one [] l a = absurd (omega arith)
  one (x ∷ []) l a = rw a (ap number (omega arith))
  one (x ∷ y ∷ digits) l a = absurd (omega arith)

  pub two : (digits : List ℕ) → length digits ≡ 2 → is_digit (get_or digits 0 0) ≡ true → is_digit (get_or digits 1 0) ≡ true
      → signed_in minus digits ≡ number ((get_or digits 0 0 - 48) * 10 + (get_or digits 1 0 - 48))
  unfolding signed_in is_number number_of
  two [] l a b = absurd (omega arith)
  two (x ∷ []) l a b = absurd (omega arith)
  two (x ∷ y ∷ []) l a b = rw (a, b) (ap number (omega arith))
  two (x ∷ y ∷ z ∷ digits) l a b = absurd (omega arith)

  pub three : (digits : List ℕ) → length digits ≡ 3 → is_digit (get_or digits 0 0) ≡ true → is_digit (get_or digits 1 0) ≡ true
      → is_digit (get_or digits 2 0) ≡ true
      → signed_in minus digits ≡ number ((get_or digits 0 0 - 48) * 100 + (get_or digits 1 0 - 48) * 10 + (get_or digits 2 0 - 48))
  unfolding signed_in is_number number_of
  three [] l a b d = absurd (omega arith)
  three (x ∷ []) l a b d = absurd (omega arith)
  three (x ∷ y ∷ []) l a b d = absurd (omega arith)
  three (x ∷ y ∷ z ∷ []) l a b d = rw (a, b, d) (ap number (omega arith))
  three (x ∷ y ∷ z ∷ w ∷ digits) l a b d = absurd (omega arith)

-- an item is a number with a minus or without, by whether it begins with one
pub number_minus : (item : List ℕ) → pointwise eqb (take 1 item) (45 ∷ []) ≡ true → number_in item ≡ signed_in true (drop 1 item)
unfolding number_in
number_minus [] e = absurd (true≢false (sym e))
number_minus (b ∷ item) e = rw (sym (and-true (eqb b 45)) ∙ e)

pub number_plain : (item : List ℕ) → pointwise eqb (take 1 item) (45 ∷ []) ≡ false → number_in item ≡ signed_in false item
unfolding number_in
number_plain [] e = refl
number_plain (b ∷ item) e = rw (sym (and-true (eqb b 45)) ∙ e)

-- and by its first byte: the same, since the first byte of no bytes is told as 0
first_byte : (item : List ℕ) → pointwise eqb (take 1 item) (45 ∷ []) ≡ eqb (get_or item 0 0) 45
first_byte [] = refl
first_byte (b ∷ item) = and-true (eqb b 45)

has_byte : (item : List ℕ) → get_or item 0 0 ≡ 45 → 1 ≤ length item
has_byte [] e = absurd (omega (arith, e))
has_byte (b ∷ item) e = omega arith

pub first_minus : (item : List ℕ) → 1 ≤ length item → get_or item 0 0 ≡ 45
    → number_in item ≡ signed_in true (take (length item - 1) (drop 1 item))
first_minus item l e =
    number_minus item (first_byte item ∙ eq-eqb (get_or item 0 0) 45 e) ∙ ap (signed_in true) (sym (drop_all 1 item))

pub first_plain : (item : List ℕ) → (1 ≤ length item → get_or item 0 0 ≡ 45 → ⊥) → number_in item ≡ signed_in false item
first_plain item n = number_plain item (first_byte item ∙ ne_eqb (get_or item 0 0) 45 (λ e. n (has_byte item e) e))

-- a byte by the digit that it is
pub no_digit : (b : ℕ) → ◌≡◌ {A = Option ℕ} None (cond (is_digit b) (Some (b - 48)) None) → is_digit b ≡ false
no_digit b = go (is_digit b)
  where
    go : (t : Bool) → ◌≡◌ {A = Option ℕ} None (cond t (Some (b - 48)) None) → t ≡ false
    go true e = cc
    go false e = refl

pub record Digit (b n : ℕ) : Type 0 where
  pub test : is_digit b ≡ true
  pub value : n ≡ b - 48

pub a_digit : (b n : ℕ) → Some n ≡ cond (is_digit b) (Some (b - 48)) None → Digit b n
a_digit b n = go (is_digit b) refl
  where
    go : (t : Bool) → is_digit b ≡ t → Some n ≡ cond t (Some (b - 48)) None → Digit b n
    go true q e = record { test = q; value = cc }
    go false q e = cc
