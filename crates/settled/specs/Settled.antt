-- The settled examples P1 to P12 (document 01, "Settled examples"), as one list under one claim: what each gives is what its call's
-- contract permits.
--   Example   a call with what it gives, or a codeword that is a candidate of a call
--   Shows x   it is what the contract permits
--   giving    a word of two bytes in the lent buffer, with its distance, its flips and the number of candidates
--   saying    a refusal
--   settled   the list
--   Each l    every example of a list shows
-- Assumes nothing.
use Rattle.std.specs.Prelude.{List, [], ◌∷◌, ℕ, ◌*◌}
use Rattle.codec.specs.Encode.{EncodeAnswers}
use Rattle.decode.specs.Decode.{DecodeAnswers}
use Rattle.decode.specs.Call.{refusing, Call, Result}
use Rattle.soft.specs.Candidate.{Candidate}
use Rattle.settled.specs.SettledCalls.{lent, calling, clean, first, fifth, tied, flat, large}

pub data Example : Type 0 where
  encodes : (m t s message : ℕ) (before : List ℕ) (answer : ℕ) (after : List ℕ) → Example
  decodes : Call → Result → Example
  among : Call → ℕ → Example

abbrev pub Shows : Example → Type 0
Shows (encodes m t s message before answer after) = EncodeAnswers m t s message before answer after
Shows (decodes c y) = DecodeAnswers c.m c.t c.s c.order c.soft c.before y.answer y.after
Shows (among c w) = Candidate c.m 1 (2 * c.t) c.order c.soft w

abbrev pub giving : (x y distance flips candidates : ℕ) → Result
giving x y distance flips candidates = record {
  answer = record { refusal = 0; distance = distance; flips = flips; candidates = candidates };
  after = x ∷ y ∷ 255 ∷ [];
}

abbrev pub saying : ℕ → Result
saying N = record { answer = refusing N; after = lent }

abbrev pub settled : List Example
settled =
    encodes 4 1 0 1 lent 0 (0x13 ∷ 0x00 ∷ 255 ∷ [])  -- P1
    ∷ encodes 4 2 0 1 lent 0 (0xd1 ∷ 0x01 ∷ 255 ∷ [])  -- P2
    ∷ encodes 4 3 0 1 lent 0 (0x37 ∷ 0x05 ∷ 255 ∷ [])  -- P3
    ∷ encodes 4 1 0 2047 lent 0 (0xff ∷ 0x7f ∷ 255 ∷ [])  -- P4
    ∷ decodes (calling 0 clean) (giving 0 0 0 0 1)  -- P5
    ∷ decodes (calling 1 clean) (giving 0 0 0 0 2)  -- P6
    ∷ among (calling 1 clean) 0x6004  -- P6, "the other has ones at 2, 13, 14"
    ∷ decodes (calling 0 first) (giving 0 0 3 1 1)  -- P7
    ∷ decodes (calling 0 fifth) (saying 6)  -- P8
    ∷ decodes (calling 1 fifth) (giving 0 0 10 1 4)  -- P8, "order 1 is the example's second line"
    ∷ decodes (calling 0 tied) (giving 0x04 0x60 10 2 1)  -- P9
    ∷ decodes (calling 1 tied) (giving 0 0 10 1 2)  -- P10
    ∷ decodes (calling 1 flat) (giving 0 0 0 0 2)  -- P11
    ∷ decodes (calling 0 large) (saying 6)  -- P12
    ∷ decodes (calling 1 large) (giving 0 0 128 1 4)  -- P12, order 1
    ∷ []

abbrev pub Each : List Example → Type 0
Each [] = Unit {0}
Each (x ∷ l) = Shows x × Each l
