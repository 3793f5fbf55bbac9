-- Facts of the paper that are computed, so that a wrong definition fails here. Assumes nothing.
use mathlib.Core.Path.{◌≡◌, refl}
use mathlib.Core.List.{[], ◌∷◌, map}
use Rattle.field.specs.Field.{length_of}
use Rattle.codes.specs.Code.{entry_of, dimension_of}
use Rattle.words.specs.Packing.{bytes_of}
use Rattle.frame.specs.Refusal.{encode_refusal, read_refusal, decode_refusal}

-- "Message 2047 with m=4, t=1 gives ff 7f (P4); 2048 is refused with 7; with s=1, 1024 is refused with 7 and 1023 is not."
messages :
    encode_refusal 4 1 0 2047 2 ∷ encode_refusal 4 1 0 2048 2 ∷ encode_refusal 4 1 1 1024 2 ∷ encode_refusal 4 1 1 1023 2 ∷ []
    ≡ 0 ∷ 7 ∷ 7 ∷ 0 ∷ []
unfolding encode_refusal dimension_of entry_of bytes_of
messages = refl

-- "Order 3 is taken and 4 refused; 15 values are taken, 14 and 16 refused with 4; s=10 is taken and 11 refused with 2."
orders : decode_refusal 4 1 0 3 15 2 ∷ decode_refusal 4 1 0 4 15 2 ∷ [] ≡ 0 ∷ 3 ∷ []
unfolding decode_refusal dimension_of entry_of length_of bytes_of
orders = refl

counts : map (λ values. decode_refusal 4 1 0 1 values 2) (14 ∷ 15 ∷ 16 ∷ []) ≡ 4 ∷ 0 ∷ 4 ∷ []
unfolding decode_refusal dimension_of entry_of length_of bytes_of
counts = refl

shortenings :
    encode_refusal 4 1 10 0 2 ∷ read_refusal 4 1 10 2 ∷ decode_refusal 4 1 10 1 5 2 ∷ []
    ≡ 0 ∷ 0 ∷ 0 ∷ []
unfolding encode_refusal read_refusal decode_refusal dimension_of entry_of length_of bytes_of
shortenings = refl

shortened_out :
    encode_refusal 4 1 11 0 2 ∷ read_refusal 4 1 11 2 ∷ decode_refusal 4 1 11 1 4 2 ∷ []
    ≡ 2 ∷ 2 ∷ 2 ∷ []
unfolding encode_refusal read_refusal decode_refusal dimension_of entry_of
shortened_out = refl

-- "m not 4 to 6, or t not 1 to 3", at each edge
codes_named : map (λ m. read_refusal m 1 0 8) (3 ∷ 4 ∷ 6 ∷ 7 ∷ []) ≡ 1 ∷ 0 ∷ 0 ∷ 1 ∷ []
unfolding read_refusal dimension_of entry_of bytes_of
codes_named = refl

roots_named : map (λ t. read_refusal 4 t 0 2) (0 ∷ 1 ∷ 3 ∷ 4 ∷ []) ≡ 1 ∷ 0 ∷ 0 ∷ 1 ∷ []
unfolding read_refusal dimension_of entry_of bytes_of
roots_named = refl

-- "the lent word buffer has fewer than W bytes", one byte fewer
buffers : encode_refusal 4 1 0 0 1 ∷ read_refusal 5 1 0 3 ∷ decode_refusal 6 1 0 1 63 7 ∷ [] ≡ 5 ∷ 5 ∷ 5 ∷ []
unfolding encode_refusal read_refusal decode_refusal dimension_of entry_of length_of bytes_of
buffers = refl

-- "in this order: encode 1, 2, 7, 5": all four met, then all but the first, and so on
encode_order :
    encode_refusal 7 1 99 2048 0 ∷ encode_refusal 4 1 99 2048 0 ∷ encode_refusal 4 1 0 2048 0 ∷ encode_refusal 4 1 0 0 0 ∷ []
    ≡ 1 ∷ 2 ∷ 7 ∷ 5 ∷ []
unfolding encode_refusal dimension_of entry_of bytes_of
encode_order = refl

-- "read 1, 2, 5, 8"
read_order : read_refusal 7 1 99 0 ∷ read_refusal 4 1 99 0 ∷ read_refusal 4 1 0 0 ∷ [] ≡ 1 ∷ 2 ∷ 5 ∷ []
unfolding read_refusal dimension_of entry_of bytes_of
read_order = refl

-- "decode 1, 2, 3, 4, 5, 6"
decode_order :
    decode_refusal 7 1 99 4 14 0
    ∷ decode_refusal 4 1 99 4 14 0
    ∷ decode_refusal 4 1 0 4 14 0
    ∷ decode_refusal 4 1 0 3 14 0
    ∷ decode_refusal 4 1 0 3 15 0
    ∷ []
    ≡ 1 ∷ 2 ∷ 3 ∷ 4 ∷ 5 ∷ []
unfolding decode_refusal dimension_of entry_of length_of bytes_of
decode_order = refl
