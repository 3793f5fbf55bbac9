-- A word's bytes give the word back, its bytes written over themselves change nothing, and no other byte of the buffer
-- changes. Assumes nothing.
use mathlib.Core.Path.{◌≡◌, refl, sym, ap, ap₂, ◌∙◌, subst}
use mathlib.Core.List.{List, [], ◌∷◌, ◌++◌}
use Prim.Native.Nat.{ℕ, zero, suc, ◌+◌, ◌*◌, ◌/◌, ◌%◌, ◌^◌, ◌<◌, ◌≤◌}
use native.Mathlib.Nat.{pow-suc, le_trans}
use native.Mathlib.Omega.{arith}
use lib.ListN.{length, take, drop, get_or, length-append, length-drop, take-append-drop}
use Rattle.field.specs.Field.{length_of}
use Rattle.words.specs.Packing.{bytes_of, packed, unpacked, written, word_in}
use Rattle.words.proofs.ShapeLaws.{word_fits, bytes_filled}

pub packed_length : (w n : ℕ) → length (packed w n) ≡ n
unfolding packed
packed_length w zero = refl
packed_length w (suc n) = ap suc (packed_length (w / 256) n)

pub unpacked_packed : (n w : ℕ) (rest : List ℕ) → w < 256 ^ n → unpacked (packed w n ++ rest) n ≡ w
unfolding packed unpacked
unpacked_packed zero w rest h = omega arith
unpacked_packed (suc n) w rest h =
    let i : unpacked (packed (w / 256) n ++ rest) n ≡ w / 256 = unpacked_packed n (w / 256) rest (omega (arith, pow-suc 256 n)) in
    omega arith

pub packed_unpacked : (n : ℕ) (bytes : List ℕ) → n ≤ length bytes → ((i : ℕ) → i < n → get_or bytes i 0 < 256)
    → packed (unpacked bytes n) n ≡ take n bytes
unfolding packed unpacked
packed_unpacked zero bytes l h = refl
packed_unpacked (suc n) [] l h = absurd (omega arith)
packed_unpacked (suc n) (b ∷ bytes) l h =
    let low : b < 256 = h 0 (omega arith) in
    let e : (b % 256 + 256 * unpacked bytes n) / 256 ≡ unpacked bytes n = omega arith in
    ap₂ ◌∷◌ (omega arith)
    (ap (λ (w : ℕ). packed w n) e ∙ packed_unpacked n bytes (omega arith) (λ i k. h (suc i) (omega arith)))

unpacked_lt : (n : ℕ) (bytes : List ℕ) → unpacked bytes n < 256 ^ n
unfolding unpacked
unpacked_lt zero bytes = omega arith
unpacked_lt (suc n) [] = omega (arith, pow-suc 256 n, unpacked_lt n [])
unpacked_lt (suc n) (b ∷ bytes) = omega (arith, pow-suc 256 n, unpacked_lt n bytes)

-- the n positions and the pad bit
pub word_in_lt : (m : ℕ) (bytes : List ℕ) → 4 ≤ m → m ≤ 6 → word_in m bytes < 2 ^ suc (length_of m)
word_in_lt m bytes a c = subst (λ (x : ℕ). word_in m bytes < x) (bytes_filled m a c) (unpacked_lt (bytes_of m) bytes)

pub written_length : (m w : ℕ) (before : List ℕ) → bytes_of m ≤ length before → length (written m w before) ≡ length before
unfolding written
written_length m w before h =
    length-append (packed w (bytes_of m)) (drop (bytes_of m) before)
    ∙ omega (arith, packed_length w (bytes_of m), length-drop (bytes_of m) before)

pub written_read : (m w : ℕ) (before : List ℕ) → 4 ≤ m → m ≤ 6 → w < 2 ^ length_of m → word_in m (written m w before) ≡ w
unfolding written
written_read m w before a c h = unpacked_packed (bytes_of m) w (drop (bytes_of m) before) (le_trans h (word_fits m a c))

pub written_same : (m w : ℕ) (bytes : List ℕ) → bytes_of m ≤ length bytes → ((i : ℕ) → i < bytes_of m → get_or bytes i 0 < 256)
    → word_in m bytes ≡ w
    → written m w bytes ≡ bytes
unfolding written
written_same m w bytes l h e =
    ap (λ (x : ℕ). packed x (bytes_of m) ++ drop (bytes_of m) bytes) (sym e)
    ∙ ap (λ (front : List ℕ). front ++ drop (bytes_of m) bytes) (packed_unpacked (bytes_of m) bytes l h)
    ∙ take-append-drop (bytes_of m) bytes
