-- The settled examples: each computed through the definitions, then all under one claim. Assumes nothing.
use mathlib.Core.Path.{◌≡◌, refl, subst}
use mathlib.Core.List.{List, [], ◌∷◌}
use Prim.Native.Nat.{ℕ}
use Rattle.codec.specs.Encode.{EncodeAnswers}
use Rattle.decode.specs.Call.{Call, Result}
use Rattle.decode.specs.Called.{result_of}
use Rattle.decode.proofs.CalledLaws.{Answers, result_answers}
use Rattle.codec.specs.GivenBack.{Encoding}
use Rattle.codec.specs.Called.{encoding_of}
use Rattle.settled.specs.SettledCalls.{lent, calling, clean, first, fifth, tied, flat, large}
use Rattle.settled.specs.Settled.{giving, saying, settled, Each}
use Rattle.settled.proofs.Computing.{computing}
use Rattle.codec.proofs.CalledLaws.{encoding_answers}
use Rattle.settled.proofs.SettledWords.{other_among}

-- what ours give is what the contracts permit
encoded_so : (m t s message : ℕ) (after : List ℕ)
    → encoding_of m t s message lent ≡ record { answer = 0; after = after } → EncodeAnswers m t s message lent 0 after
encoded_so m t s message after e =
    subst (λ (y : Encoding). EncodeAnswers m t s message lent y.answer y.after) e (encoding_answers m t s message lent)

decoded_so : (c : Call) (y : Result) → result_of c ≡ y → Answers c y
decoded_so c y e = subst (Answers c) e (result_answers c)

p1 : encoding_of 4 1 0 1 lent ≡ record { answer = 0; after = 0x13 ∷ 0x00 ∷ 255 ∷ [] }
unfolding computing
p1 = refl

p2 : encoding_of 4 2 0 1 lent ≡ record { answer = 0; after = 0xd1 ∷ 0x01 ∷ 255 ∷ [] }
unfolding computing
p2 = refl

p3 : encoding_of 4 3 0 1 lent ≡ record { answer = 0; after = 0x37 ∷ 0x05 ∷ 255 ∷ [] }
unfolding computing
p3 = refl

p4 : encoding_of 4 1 0 2047 lent ≡ record { answer = 0; after = 0xff ∷ 0x7f ∷ 255 ∷ [] }
unfolding computing
p4 = refl

pub p5 : result_of (calling 0 clean) ≡ giving 0 0 0 0 1
unfolding computing
p5 = refl

pub p6 : result_of (calling 1 clean) ≡ giving 0 0 0 0 2
unfolding computing
p6 = refl

pub p7 : result_of (calling 0 first) ≡ giving 0 0 3 1 1
unfolding computing
p7 = refl

pub p8 : result_of (calling 0 fifth) ≡ saying 6
unfolding computing
p8 = refl

pub p8_one : result_of (calling 1 fifth) ≡ giving 0 0 10 1 4
unfolding computing
p8_one = refl

pub p9 : result_of (calling 0 tied) ≡ giving 0x04 0x60 10 2 1
unfolding computing
p9 = refl

pub p10 : result_of (calling 1 tied) ≡ giving 0 0 10 1 2
unfolding computing
p10 = refl

pub p11 : result_of (calling 1 flat) ≡ giving 0 0 0 0 2
unfolding computing
p11 = refl

pub p12 : result_of (calling 0 large) ≡ saying 6
unfolding computing
p12 = refl

pub p12_one : result_of (calling 1 large) ≡ giving 0 0 128 1 4
unfolding computing
p12_one = refl

infixr 20 ◌and◌
◌and◌ : {A B : Type 0} → A → B → A × B
◌and◌ a b = (a, b)

pub settled_shown : Each settled
settled_shown =
    encoded_so 4 1 0 1 _ p1
    and encoded_so 4 2 0 1 _ p2
    and encoded_so 4 3 0 1 _ p3
    and encoded_so 4 1 0 2047 _ p4
    and decoded_so (calling 0 clean) _ p5
    and decoded_so (calling 1 clean) _ p6
    and other_among
    and decoded_so (calling 0 first) _ p7
    and decoded_so (calling 0 fifth) _ p8
    and decoded_so (calling 1 fifth) _ p8_one
    and decoded_so (calling 0 tied) _ p9
    and decoded_so (calling 1 tied) _ p10
    and decoded_so (calling 1 flat) _ p11
    and decoded_so (calling 0 large) _ p12
    and decoded_so (calling 1 large) _ p12_one
    and tt
