-- Demand 3: "Suppose a codeword was sent, zero in every unsent place, and at most 2t of its bits, e of them, were sliced wrongly, no more
-- of those in the reliable set than the order allows. If the reliabilities at the wrong bits sum to less than the 2t+1-e smallest
-- reliabilities at the right bits, the decoder returns that codeword and no other." It "speaks of a decode call that passes checks 1 to
-- 5; unsent positions are among its right bits, with their 127" (document 01). Whatever meets demand 2 meets it (Claims,
-- SecondGivesThird), for every code, shortening and order: the code has nothing further to show.
--   wrong_bits c w   e, at how many places the word w that was sent differs from the hard decisions
--   wrong_sum c w    the sum of the reliabilities there
--   right_sum c w    the sum of the 2t+1-e smallest reliabilities at the other places
--   Sent c w        w was sent so
--   Demand3 x       the demand
--   AtEquality      where the two sums are equal, another word may come back
-- Assumes nothing.
use Rattle.std.specs.Prelude.{◌≡◌, ◌≢◌, ℕ, ◌+◌, ◌-◌, ◌*◌, ◌^◌, ◌<◌, ◌≤◌}
use Rattle.field.specs.Field.{length_of}
use Rattle.codes.specs.Codeword.{Codeword}
use Rattle.soft.specs.Distance.{soft_distance, flips_of, reliable_flips}
use Rattle.sent.specs.Smallest.{smallest, right_reliabilities}
use Rattle.decode.specs.Call.{Call, checks_of}
use Rattle.demands.specs.Calls.{Calls}
use Rattle.demands.specs.Decodes.{Returns}
use Rattle.demands.specs.Demand2.{Demand2}

abbrev pub wrong_bits : Call → ℕ → ℕ
wrong_bits c w = flips_of c.m c.soft w

abbrev pub wrong_sum : Call → ℕ → ℕ
wrong_sum c w = soft_distance c.m c.soft w

abbrev pub right_sum : Call → ℕ → ℕ
right_sum c w = smallest (2 * c.t + 1 - wrong_bits c w) (right_reliabilities c.m c.soft w)

pub record Sent (c : Call) (w : ℕ) : Type 0 where
  pub codeword : Codeword c.m c.t w
  pub unsent : w < 2 ^ (length_of c.m - c.s)
  pub few : wrong_bits c w ≤ 2 * c.t
  pub allowed : reliable_flips c.m (2 * c.t) c.soft w ≤ c.order

abbrev pub Demand3 : Calls → Type 0
Demand3 x = (c : Call) → checks_of c ≡ 0 → (w : ℕ) → Sent c w → wrong_sum c w < right_sum c w
    → Returns c w (x.decode c) × ((v : ℕ) → Returns c v (x.decode c) → v ≡ w)

-- the call c passes its checks, the word w was sent, its two sums are equal, and whatever meets demand 2 returns v in its place
pub record AtEquality (c : Call) (w v : ℕ) : Type 0 where
  pub checked : checks_of c ≡ 0
  pub sent : Sent c w
  pub equal : wrong_sum c w ≡ right_sum c w
  pub other : v ≢ w
  pub returned : (x : Calls) → Demand2 x → Returns c v (x.decode c)
