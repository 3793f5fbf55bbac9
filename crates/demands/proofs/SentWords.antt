-- The two codewords of the settled examples as sent words, and a hard-sliced word: computed. Assumes nothing.
use mathlib.Core.Path.{◌≡◌, refl}
use mathlib.Core.List.{List, [], ◌∷◌, ◌++◌}
use Prim.Native.Nat.{ℕ, zero, suc, ◌<◌, ◌≤◌}
use native.Mathlib.Omega.{arith}
use lib.Dec.{ltb→lt, leb→le}
use lib.IntN.{ℤ, pos, negsuc}
use Rattle.field.proofs.TestLaws.{agree}
use Rattle.codes.specs.Codeword.{bit_of, value_at}
use Rattle.soft.specs.Value.{reliability}
use Rattle.decode.specs.Call.{Call, checks_of}
use Rattle.settled.specs.SettledCalls.{lent, calling, tens, clean, fifth, tied}
use Rattle.settled.proofs.Computing.{computing}
use Rattle.settled.proofs.SettledWords.{zero_word, other_word}
use Rattle.demands.specs.Demand3.{wrong_sum, right_sum, Sent}
use Rattle.demands.specs.HardSliced.{HardSliced}

-- P5's values are those of the zero word, sent without an error
pub sent_clean : Sent (calling 0 clean) 0
unfolding computing
sent_clean = record { codeword = zero_word; unsent = ltb→lt _ _ tt; few = leb→le _ _ tt; allowed = leb→le _ _ tt }

pub margin_clean : wrong_sum (calling 0 clean) 0 < right_sum (calling 0 clean) 0
unfolding computing
margin_clean = ltb→lt _ _ tt

-- P8's are those of the zero word with one error, at a reliable place
pub sent_fifth : Sent (calling 1 fifth) 0
unfolding computing
sent_fifth = record { codeword = zero_word; unsent = ltb→lt _ _ tt; few = leb→le _ _ tt; allowed = leb→le _ _ tt }

pub margin_fifth : wrong_sum (calling 1 fifth) 0 < right_sum (calling 1 fifth) 0
unfolding computing
margin_fifth = ltb→lt _ _ tt

-- the word 04 60, sent without an error
abbrev pub other : List ℤ
other = tens 2 ++ (negsuc 9 ∷ (tens 10 ++ (negsuc 9 ∷ negsuc 9 ∷ [])))

pub sent_other : Sent (calling 0 other) 0x6004
unfolding computing
sent_other = record { codeword = other_word; unsent = ltb→lt _ _ tt; few = leb→le _ _ tt; allowed = leb→le _ _ tt }

pub margin_other : wrong_sum (calling 0 other) 0x6004 < right_sum (calling 0 other) 0x6004
unfolding computing
margin_other = ltb→lt _ _ tt

-- P10's are those of 04 60 with two errors, and its two sums are equal
pub sent_tied : Sent (calling 1 tied) 0x6004
unfolding computing
sent_tied = record { codeword = other_word; unsent = ltb→lt _ _ tt; few = leb→le _ _ tt; allowed = leb→le _ _ tt }

pub equal_tied : wrong_sum (calling 1 tied) 0x6004 ≡ right_sum (calling 1 tied) 0x6004
unfolding computing
equal_tied = refl

-- a hard-sliced word, shortened and not zero: m=4, t=2, s=3, order 2; sent d1 01, the generator (721 in octal), whose ones stand at 0, 4,
-- 6, 7 and 8. Values of size 10, two of them wrong, at 0 and 1
abbrev sliced : Call
sliced = record { m = 4; t = 2; s = 3; order = 2; soft = values; before = lent }
  where
    wrong : List ℤ
    wrong = pos 10 ∷ negsuc 9 ∷ []

    values : List ℤ
    values = wrong ++ (tens 2 ++ (negsuc 9 ∷ pos 10 ∷ negsuc 9 ∷ negsuc 9 ∷ negsuc 9 ∷ tens 3))

pub sliced_passes : checks_of sliced ≡ 0
unfolding computing
sliced_passes = refl

pub sliced_two_wrong : HardSliced sliced 10 0x1d1
unfolding computing
sliced_two_wrong = record {
  low = leb→le _ _ tt;
  high = leb→le _ _ tt;
  sizes = agree 12 (reliability sliced.soft) (λ (p : ℕ). 10) tt;
  codeword = record { bits = ltb→lt _ _ tt; roots = roots };
  unsent = ltb→lt _ _ tt;
  few = leb→le _ _ tt;
}
  where
    -- at a^0 the value is 1, so only the powers from 1 on are tested
    roots : (e : ℕ) → 1 ≤ e → e < 5 → value_at 4 (bit_of 0x1d1) e ≡ 0
    roots zero low high = absurd (omega arith)
    roots (suc e) low high = agree 4 (λ (x : ℕ). value_at 4 (bit_of 0x1d1) (suc x)) (λ (x : ℕ). 0) tt e (omega arith)
