-- The number of each refusal, and what a check's answer comes to. Everything here computes.
--   number         the number of a refusal
--   number_of      the number of what a check answers: 0 where it refuses nothing
--   IsOf m t s x   x is the code of m and t, of which s positions are not sent
-- Assumes nothing.
use Rattle.std.specs.Prelude.{◌≡◌, ℕ, Result, Ok, Err}
use Rattle.words.specs.declared.shape.Shortened.{Shortened}
use Rattle.frame.specs.declared.refusal.Refusal.{Refusal}
use Rattle.frame.specs.declared.refusal.Refusal.TheVariants.{UnknownCode, TooShort, HighOrder, WrongCount, SmallBuffer}
use Rattle.frame.specs.declared.refusal.Refusal.TheVariants.{NoCandidate, LargeMessage, PadBit, UnsentBit, MissingRoot}

abbrev pub number : Refusal → ℕ
number UnknownCode = 1
number TooShort = 2
number HighOrder = 3
number WrongCount = 4
number SmallBuffer = 5
number NoCandidate = 6
number LargeMessage = 7
number PadBit = 8
number UnsentBit = 9
number MissingRoot = 10

abbrev pub number_of : {T : Type 0} → Result T Refusal → ℕ
number_of (Ok x) = 0
number_of (Err r) = number r

pub record IsOf (m t s : ℕ) (x : Shortened) : Type 0 where
  pub m_is : x.code.m ≡ m
  pub t_is : x.code.t ≡ t
  pub s_is : x.s ≡ s
