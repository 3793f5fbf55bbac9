-- A word as eight bytes, in the library's terms and in those of the definitions. Assumes nothing.
use mathlib.Core.Path.{◌≡◌, sym, ap, ◌∙◌}
use mathlib.Core.List.{List}
use Prim.Native.Nat.{ℕ, ◌^◌, ◌<◌}
use native.Mathlib.Omega.{arith}
use lib.ListN.{length, get_or}
use Rattle.std.specs.Int.{w64, to_le_bytes, from_le_bytes}
use Rattle.std.proofs.lemmas.Nat.{from_le_bytes-to_le_bytes_8, le_bytes_8}
use Rattle.words.specs.Packing.{unpacked}

-- what is written so is read back
pub unpacked_bytes : (n : ℕ) → n < 2 ^ 64 → unpacked (to_le_bytes w64 n) 8 ≡ n
unfolding unpacked
unpacked_bytes n fits =
    let e : unpacked (to_le_bytes w64 n) 8 ≡ from_le_bytes w64 (to_le_bytes w64 n) = omega arith in
    e ∙ from_le_bytes-to_le_bytes_8 n fits

-- and what is read so is what the bytes are
pub bytes_unpacked : (bs : List ℕ) (n : ℕ) → length bs ≡ 8 → ((i : ℕ) → get_or bs i 0 < 256) → n < 2 ^ 64
    → n ≡ from_le_bytes w64 bs → n ≡ unpacked bs 8
bytes_unpacked bs n full small fits e =
    sym (unpacked_bytes n fits) ∙ ap (λ (l : List ℕ). unpacked l 8) (le_bytes_8 bs n full small e)
