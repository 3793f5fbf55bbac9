-- `words::packing::word_in` meets its contract. The loop's invariant: the word so far is that of the bytes from i on. Assumes nothing.
use mathlib.Core.Path.{◌≡◌}
use mathlib.Core.List.{List, ◌∷◌}
use Prim.Native.Nat.{ℕ, suc, ◌+◌, ◌-◌, ◌*◌, ◌%◌, ◌^◌, ◌≤◌, ◌<◌}
use native.Mathlib.Nat.{pow-suc, pow-le-pow_right, sub_self}
use native.Mathlib.Omega.{arith}
use lib.ListN.{length, drop, get_or}
use lib.Seq.{drop-cons}
use Rattle.words.specs.Packing.{unpacked}
use Rattle.words.proofs.packing.word_in.Invariants.{From}
use Rattle.words.proofs.packing.word_in.Goals as goal

-- one byte more fits, where at most 8 are taken
sum_fits : (k word : ℕ) {b : ℕ} → word < 256 ^ k → k < 8 → b < 256 → word * 256 + b < 2 ^ 64
sum_fits k word w l b =
    let u : 256 ^ suc k ≤ 256 ^ 8 = pow-le-pow_right {n = 256} (omega arith) {i = suc k} {j = 8} (omega arith) in
    omega (arith, pow-suc 256 k)

byte_before : (bytes : List ℕ) (n word i : ℕ) → From bytes n word i → 0 < i → n ≤ length bytes → get_or bytes (i - 1) 0 < 256
    → From bytes n (word * 256 + get_or bytes (i - 1) 0) (i - 1)
unfolding unpacked
byte_before bytes n word i r h l b =
    let e : n - (i - 1) ≡ suc (n - i) = omega (arith, r.at) in
    let f : suc (i - 1) ≡ i = omega arith in
    let d : drop (i - 1) bytes ≡ get_or bytes (i - 1) 0 ∷ drop i bytes = rw f at (drop-cons bytes (i - 1) 0 (omega (arith, r.at))) in
    let step : unpacked (drop (i - 1) bytes) (n - (i - 1)) ≡ get_or bytes (i - 1) 0 % 256 + 256 * unpacked (drop i bytes) (n - i) =
    rw (e, d) in
    record { at = omega (arith, r.at); value = omega (arith, step, r.value); low = rw (e, pow-suc 256 (n - i)) (omega (arith, r.low)) }

pub loop-i-init : goal.loop-i-init
unfolding unpacked
loop-i-init c = let e = sub_self c.args.n in record { at = omega arith; value = rw e; low = rw e (omega arith) }

pub overflow_mul-word : goal.overflow_mul-word
overflow_mul-word c =
    let l = c.loop-i in
    omega (arith, sum_fits (c.args.n - l.i) l.word {b = 0} l.invariant.low (omega arith) (omega arith))

pub overflow_add-word : goal.overflow_add-word
overflow_add-word c =
    let l = c.loop-i in
    let byte = c.type_inv.bytes (l.i - 1) in
    record { fits = rw c.from.ensures (sum_fits (c.args.n - l.i) l.word l.invariant.low (omega arith) byte.fits) }

pub loop-i-preserved : goal.loop-i-preserved
loop-i-preserved c =
    let a = c.args in
    let l = c.loop-i in
    let byte = c.type_inv.bytes (l.i - 1) in
    rw c.from.ensures (byte_before a.bytes.now a.n l.word l.i l.invariant (omega arith) (omega arith) byte.fits)
