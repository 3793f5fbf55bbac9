-- The fields of 2^m elements, m = 4, 5, 6 (document 01, "Fields and codes"). Everything here computes.
--   x ⊕ y            the sum of two elements
--   xor_sum n f       f 0 ⊕ f 1 ⊕ .. ⊕ f (n - 1)
--   bit_times b y     a binary coefficient times an element: 0 for the bit 0, else y
--   modulus m        the polynomial by which products are reduced
--   times_alpha m y   a times y
--   times m x y      the product
--   alpha_to m i      a^i
--   inverse_of m x    the inverse, 0 for 0
--   length_of m       n, the number of elements other than 0
-- Assumes nothing.
use Rattle.std.specs.Prelude.{cond, ℕ, zero, suc, ◌-◌, ◌*◌, ◌/◌, ◌%◌, ◌^◌, eqb}
use Rattle.std.specs.Int.Bits.{bit_xor}
use Rattle.field.specs.Below.{last_of}

-- "Addition is exclusive or."
infixl 60 ◌⊕◌
unfoldable pub ◌⊕◌ : ℕ → ℕ → ℕ
◌⊕◌ x y = bit_xor x y

unfoldable pub xor_sum : ℕ → (ℕ → ℕ) → ℕ
xor_sum zero f = 0
xor_sum (suc n) f = xor_sum n f ⊕ f n

unfoldable pub bit_times : ℕ → ℕ → ℕ
bit_times zero y = 0
bit_times (suc b) y = y

-- "The product is reduced by x^4+x+1 for m=4, x^5+x^2+1 for m=5, x^6+x+1 for m=6."
unfoldable pub modulus : ℕ → ℕ
modulus m = cond (eqb m 4) 0b10011 (cond (eqb m 5) 0b100101 0b1000011)

-- so x^m is what the modulus has below it
unfoldable pub reduction : ℕ → ℕ
reduction m = modulus m - 2 ^ m

-- "n = 2^m - 1."
unfoldable pub length_of : ℕ → ℕ
length_of m = 2 ^ m - 1

-- "A field element is a number below 2^m, its bits the coefficients of a polynomial in a, with a itself the number 2."
module _ (m : ℕ) where
  -- each coefficient moves up by one, and a^m, where the top one was 1, is reduced
  unfoldable pub times_alpha : ℕ → ℕ
  times_alpha y = y * 2 % 2 ^ m ⊕ bit_times (y / 2 ^ (m - 1) % 2) (reduction m)

  -- the sum of a^i y over the coefficients i of x that are 1, of the lowest k
  unfoldable pub shift_add : ℕ → ℕ → ℕ → ℕ
  shift_add zero x y = 0
  shift_add (suc k) x y = bit_times (x % 2) y ⊕ shift_add k (x / 2) (times_alpha y)

  -- all m coefficients; y is made an element first, so that the product is one whatever it is given
  unfoldable pub times : ℕ → ℕ → ℕ
  times x y = shift_add m x (y % 2 ^ m)

  unfoldable pub alpha_to : ℕ → ℕ
  alpha_to zero = 1
  alpha_to (suc i) = times_alpha (alpha_to i)

  -- the element whose product with x is 1; "the inverse of 0 is set to 0"
  unfoldable pub inverse_of : ℕ → ℕ
  inverse_of x = last_of (2 ^ m) (λ y. eqb (times x y) 1)
