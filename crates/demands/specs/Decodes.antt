-- Demand 2, of the decoder: "The decoder returns, among all codewords that differ from the hard decisions in at most the given order of
-- reliable places, one of least soft distance, the lowest as a number where several tie. It counts all such codewords, and refuses
-- exactly when there is none."
--   distance_of c w   the soft distance of w from what the call c received
--   Among c w        w is one of those codewords
--   Chosen c w       w is the one of them that is returned
--   HowMany c N      there are N of them
--   Returns c w y    the result y says w: the word in the buffer, and its distance and flips in the answer
--   Decodes c y      the result of a call that has passed its checks
-- Assumes nothing.
use Rattle.std.specs.Prelude.{◌≡◌, ◌↔◌, List, ℕ, ◌*◌, ◌^◌, ◌<◌, ◌≤◌, length}
use Rattle.field.specs.Field.{length_of}
use Rattle.codes.specs.Codeword.{Codeword}
use Rattle.soft.specs.Distance.{soft_distance, flips_of, reliable_flips}
use Rattle.soft.specs.Candidate.{Member, NoRepeats}
use Rattle.words.specs.Packing.{written}
use Rattle.decode.specs.Call.{Call, Result, refused_with}

abbrev pub distance_of : Call → ℕ → ℕ
distance_of c w = soft_distance c.m c.soft w

-- "all codewords that differ from the hard decisions in at most the given order of reliable places"
pub record Among (c : Call) (w : ℕ) : Type 0 where
  pub codeword : Codeword c.m c.t w
  pub near : reliable_flips c.m (2 * c.t) c.soft w ≤ c.order

-- "one of least soft distance, the lowest as a number where several tie"
pub record Chosen (c : Call) (w : ℕ) : Type 0 where
  pub among : Among c w
  pub least : (v : ℕ) → Among c v → distance_of c w ≤ distance_of c v
  pub lowest : (v : ℕ) → Among c v → distance_of c v ≡ distance_of c w → w ≤ v

-- "It counts all such codewords": in a list they all stand, each once and nothing else, and its length is N
pub record HowMany (c : Call) (N : ℕ) : Type 0 where
  pub list : List ℕ
  pub once : NoRepeats list
  pub members : (w : ℕ) → Member w list ↔ Among c w
  pub number : length list ≡ N

pub record Returns (c : Call) (w : ℕ) (y : Result) : Type 0 where
  pub bits : w < 2 ^ length_of c.m
  pub refusal : y.answer.refusal ≡ 0
  pub distance : y.answer.distance ≡ distance_of c w
  pub flips : y.answer.flips ≡ flips_of c.m c.soft w
  pub writes : y.after ≡ written c.m w c.before

-- "and refuses exactly when there is none"
pub record Decodes (c : Call) (y : Result) : Type 0 where
  pub none : ((w : ℕ) → ¬ Among c w) → y ≡ refused_with 6 c
  pub some : (w : ℕ) → Among c w → (v : ℕ) × Chosen c v × Returns c v y × HowMany c y.answer.candidates
