-- The two codewords of the settled examples, for m = 4 and t = 1: computed. Assumes nothing.
use mathlib.Core.Path.{◌≡◌, refl, ap}
use mathlib.Core.List.{List, [], ◌∷◌}
use Prim.Native.Nat.{ℕ, zero, suc, ◌<◌, ◌≤◌}
use native.Mathlib.Omega.{arith}
use lib.Dec.{ltb→lt, leb→le}
use lib.IntN.{ℤ}
use lib.ListN.{length}
use Rattle.codes.specs.Codeword.{bit_of, Codeword, value_at}
use Rattle.soft.specs.Candidate.{Candidate}
use Rattle.words.specs.Packing.{written}
use Rattle.frame.specs.Refusal.{decode_refusal}
use Rattle.decode.specs.Call.{checks_of}
use Rattle.settled.specs.SettledCalls.{lent, calling, clean}
use Rattle.settled.proofs.Computing.{computing}

-- 15 values pass the checks, at order 0 and at order 1
pub passes_0 : (soft : List ℤ) → length soft ≡ 15 → checks_of (calling 0 soft) ≡ 0
unfolding computing
passes_0 soft e = ap (λ (n : ℕ). decode_refusal 4 1 0 0 n 3) e

pub passes_1 : (soft : List ℤ) → length soft ≡ 15 → checks_of (calling 1 soft) ≡ 0
unfolding computing
passes_1 soft e = ap (λ (n : ℕ). decode_refusal 4 1 0 1 n 3) e

-- a word is zero at a and a^2
roots_by : (w : ℕ) → value_at 4 (bit_of w) 1 ≡ 0 → value_at 4 (bit_of w) 2 ≡ 0 → (e : ℕ) → 1 ≤ e → e < 3 → value_at 4 (bit_of w) e ≡ 0
roots_by w p q zero a l = absurd (omega arith)
roots_by w p q (suc zero) a l = p
roots_by w p q (suc (suc zero)) a l = q
roots_by w p q (suc (suc (suc e))) a l = absurd (omega arith)

pub zero_word : Codeword 4 1 0
unfolding computing
zero_word = record { bits = ltb→lt _ _ tt; roots = roots_by 0 refl refl }

-- 04 60, with ones at 2, 13, 14
pub other_word : Codeword 4 1 0x6004
unfolding computing
other_word = record { bits = ltb→lt _ _ tt; roots = roots_by 0x6004 refl refl }

-- P6's other candidate
pub other_among : Candidate 4 1 2 1 clean 0x6004
unfolding computing
other_among = record { codeword = other_word; near = leb→le _ _ tt }

-- the bytes of the two words, in the lent buffer
pub zero_bytes : written 4 0 lent ≡ 0 ∷ 0 ∷ 255 ∷ []
unfolding computing
zero_bytes = refl

pub other_bytes : written 4 0x6004 lent ≡ 0x04 ∷ 0x60 ∷ 255 ∷ []
unfolding computing
other_bytes = refl
