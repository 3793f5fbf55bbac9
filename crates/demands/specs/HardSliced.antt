-- A hard-sliced word (Req 01): the receiver decides each bit and does not say how surely, so that all received values have one size.
--   HardSliced c v w   the codeword w was sent, the values of the call c have the size v, and at most t of them have the wrong sign
-- Assumes nothing.
use Rattle.std.specs.Prelude.{◌≡◌, ℕ, ◌-◌, ◌^◌, ◌<◌, ◌≤◌}
use Rattle.field.specs.Field.{length_of}
use Rattle.codes.specs.Codeword.{Codeword}
use Rattle.soft.specs.Value.{reliability}
use Rattle.decode.specs.Call.{Call}
use Rattle.demands.specs.Demand3.{wrong_bits}

-- "The reliability is the size of the value" (document 01); the n - s positions that are sent come first. An unsent one counts as 127, and
-- is to be no less reliable than those that are sent: so v is at most 127
pub record HardSliced (c : Call) (v w : ℕ) : Type 0 where
  pub low : 1 ≤ v
  pub high : v ≤ 127
  pub sizes : (p : ℕ) → p < length_of c.m - c.s → reliability c.soft p ≡ v
  pub codeword : Codeword c.m c.t w
  pub unsent : w < 2 ^ (length_of c.m - c.s)
  pub few : wrong_bits c w ≤ c.t
