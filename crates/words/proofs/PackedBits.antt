-- "Bit j is bit j mod 8 (weight 2^(j mod 8)) of byte j div 8", of the definitions by remainders. Assumes nothing.
use mathlib.Core.Path.{◌≡◌, sym, ap, ◌∙◌}
use mathlib.Core.List.{List, [], ◌∷◌}
use Prim.Native.Nat.{ℕ, zero, suc, ◌+◌, ◌*◌, ◌/◌, ◌%◌, ◌<◌}
use native.Mathlib.Omega.{arith}
use lib.ListN.{get_or}
use Rattle.codes.specs.Codeword.{bit_of}
use Rattle.codes.proofs.WordLaws.{bit_zero}
use Rattle.words.specs.Packing.{packed, unpacked}

low_bit : (w j : ℕ) → j < 8 → bit_of (w % 256) j ≡ bit_of w j
unfolding bit_of
low_bit w zero l = omega arith
low_bit w (suc zero) l = omega arith
low_bit w (suc (suc zero)) l = omega arith
low_bit w (suc (suc (suc zero))) l = omega arith
low_bit w (suc (suc (suc (suc zero)))) l = omega arith
low_bit w (suc (suc (suc (suc (suc zero))))) l = omega arith
low_bit w (suc (suc (suc (suc (suc (suc zero)))))) l = omega arith
low_bit w (suc (suc (suc (suc (suc (suc (suc zero))))))) l = omega arith
low_bit w (suc (suc (suc (suc (suc (suc (suc (suc j)))))))) l = absurd (omega arith)

high_bit : (w j : ℕ) → bit_of (w / 256) j ≡ bit_of w (suc (suc (suc (suc (suc (suc (suc (suc j))))))))
unfolding bit_of
high_bit w j =
    let e : w / 256 ≡ w / 2 / 2 / 2 / 2 / 2 / 2 / 2 / 2 = omega arith in
    ap (λ (x : ℕ). bit_of x j) e

byte_bit : (n w i b : ℕ) → i < n → b < 8 → bit_of (get_or (packed w n) i 0) b ≡ bit_of w (8 * i + b)
unfolding packed
byte_bit zero w i b l h = absurd (omega arith)
byte_bit (suc n) w zero b l h = let e : b ≡ 8 * zero + b = omega arith in low_bit w b h ∙ ap (bit_of w) e
byte_bit (suc n) w (suc i) b l h =
    let e : suc (suc (suc (suc (suc (suc (suc (suc (8 * i + b)))))))) ≡ 8 * suc i + b = omega arith in
    byte_bit n (w / 256) i b (omega arith) h ∙ high_bit w (8 * i + b) ∙ ap (bit_of w) e

pub packed_bit : (n w j : ℕ) → j < 8 * n → bit_of (get_or (packed w n) (j / 8) 0) (j % 8) ≡ bit_of w j
packed_bit n w j l =
    let e : 8 * (j / 8) + j % 8 ≡ j = omega arith in
    byte_bit n w (j / 8) (j % 8) (omega arith) (omega arith) ∙ ap (bit_of w) e

-- and of the number that the bytes are
bit_byte : (n : ℕ) (bytes : List ℕ) (i b : ℕ) → i < n → b < 8 → bit_of (unpacked bytes n) (8 * i + b) ≡ bit_of (get_or bytes i 0) b
unfolding unpacked
bit_byte zero bytes i b l h = absurd (omega arith)
bit_byte (suc n) [] i b l h = bit_zero (8 * i + b) ∙ sym (bit_zero b)
bit_byte (suc n) (x ∷ bytes) zero b l h =
    let w = x % 256 + 256 * unpacked bytes n in
    let e : 8 * zero + b ≡ b = omega arith in
    let low : w % 256 ≡ x % 256 = omega arith in
    ap (bit_of w) e ∙ sym (low_bit w b h) ∙ ap (λ (v : ℕ). bit_of v b) low ∙ low_bit x b h
bit_byte (suc n) (x ∷ bytes) (suc i) b l h =
    let w = x % 256 + 256 * unpacked bytes n in
    let e : 8 * suc i + b ≡ suc (suc (suc (suc (suc (suc (suc (suc (8 * i + b)))))))) = omega arith in
    let high : w / 256 ≡ unpacked bytes n = omega arith in
    ap (bit_of w) e ∙ sym (high_bit w (8 * i + b)) ∙ ap (λ (v : ℕ). bit_of v (8 * i + b)) high ∙ bit_byte n bytes i b (omega arith) h

pub unpacked_bit : (n : ℕ) (bytes : List ℕ) (j : ℕ) → j < 8 * n → bit_of (unpacked bytes n) j ≡ bit_of (get_or bytes (j / 8) 0) (j % 8)
unpacked_bit n bytes j l =
    let e : 8 * (j / 8) + j % 8 ≡ j = omega arith in
    ap (bit_of (unpacked bytes n)) (sym e) ∙ bit_byte n bytes (j / 8) (j % 8) (omega arith) (omega arith)
