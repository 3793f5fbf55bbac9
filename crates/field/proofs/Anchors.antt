-- The reduction polynomials of the paper, computed: x^4 is x+1, x^5 is x^2+1, x^6 is x+1, and some products. Assumes nothing.
use mathlib.Core.Path.{◌≡◌, refl}
use Rattle.field.specs.Below.{last_of}
use Rattle.field.specs.Field.{◌⊕◌, bit_times, modulus, reduction, length_of, times_alpha, shift_add, times, alpha_to, inverse_of}

pub reductions : (alpha_to 4 4 ≡ 0b11) × (alpha_to 5 5 ≡ 0b101) × (alpha_to 6 6 ≡ 0b11)
unfolding modulus reduction ◌⊕◌ bit_times times_alpha alpha_to
reductions = (refl, refl, refl)

pub alpha_is_two : (alpha_to 4 1 ≡ 2) × (alpha_to 5 1 ≡ 2) × (alpha_to 6 1 ≡ 2)
unfolding modulus reduction ◌⊕◌ bit_times times_alpha alpha_to
alpha_is_two = (refl, refl, refl)

-- (a^3 + 1)(a^2 + a) is a^5 + a^4 + a^2 + a, which is a + 1 in the field of 16; "the inverse of 0 is set to 0"
pub products : (times 4 0b1001 0b0110 ≡ 0b0011) × (inverse_of 4 2 ≡ 9) × (inverse_of 4 0 ≡ 0)
unfolding modulus reduction ◌⊕◌ bit_times times_alpha shift_add times inverse_of last_of
products = (refl, refl, refl)

pub lengths : (length_of 4 ≡ 15) × (length_of 5 ≡ 31) × (length_of 6 ≡ 63)
unfolding length_of
lengths = (refl, refl, refl)
