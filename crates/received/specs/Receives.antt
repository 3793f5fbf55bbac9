-- What was received, by position (document 01, "Soft values and distance"). Assumes nothing.
use Rattle.std.specs.Prelude.{◌≡◌, List, ℕ, ◌<◌, ◌≤◌, ℤ, length, get_or}
use Rattle.codes.specs.Codeword.{word_of}
use Rattle.soft.specs.Value.{hard, reliability}
use Rattle.received.specs.declared.Received.{Received}

-- the record is that of the values: their hard decisions as the word of any length that has room for them, since an unsent
-- position's is 0, and the reliability of every position, sent or not
pub record Receives (soft : List ℤ) (r : Received) : Type 0 where
  pub hards : (n : ℕ) → length soft ≤ n → r.hards ≡ word_of n (hard soft)
  pub reliabilities : (p : ℕ) → p < 63 → get_or r.reliability p 0 ≡ reliability soft p
  pub small : (p : ℕ) → p < 63 → get_or r.reliability p 0 ≤ 128
