-- Words of the paper, computed: message 1 in each code whose bytes document 01 gives, and the table of k. Assumes nothing.
use mathlib.Core.Path.{◌≡◌, refl}
use Rattle.field.specs.Field.{◌⊕◌, bit_times, length_of}
use Rattle.codes.specs.Codeword.{bit_of}
use Rattle.codes.specs.Code.{entry_of, dimension_of, parity_of, generator_of}
use Rattle.codes.specs.Generator.{remainder_by, with_parity, systematic}

-- "m=5: t=2, 69 07 00 00; t=3, af 8f 00 00. m=6: t=3, cf 82 07 and five zero bytes."
pub words : (systematic 5 2 1 ≡ 0x0769) × (systematic 5 3 1 ≡ 0x8faf) × (systematic 6 3 1 ≡ 0x0782cf)
unfolding length_of entry_of dimension_of parity_of generator_of systematic with_parity remainder_by bit_of bit_times ◌⊕◌
words = (refl, refl, refl)

-- the table's k and octal generators, at its corners
pub table : (dimension_of 4 1 ≡ 11) × (dimension_of 4 3 ≡ 5) × (dimension_of 6 1 ≡ 57) × (dimension_of 6 3 ≡ 45)
    × (generator_of 5 2 ≡ 0o3551)
unfolding entry_of dimension_of generator_of
table = (refl, refl, refl, refl, refl)
