-- What is shown of a codeword that was sent: each claim a type, each proved under the same name in proofs/ClaimsShown. b is the first
-- root's exponent and r the number of consecutive roots: 1 and 2t for the codes of document 01.
--   SmallestAreLeast   no choice of so many right places has a smaller sum than the smallest
--   SentWithMargin     what demand 3 supposes
--   OthersAreFarther   every other codeword is farther than the one sent
--   SentIsNearest      the one sent is nearest, and nothing else is
-- Assumes nothing.
use Rattle.std.specs.Prelude.{◌≡◌, ◌≢◌, Bool, not, List, ℕ, ◌+◌, ◌-◌, ◌<◌, ◌≤◌, T, ℤ}
use Rattle.field.specs.Below.{sum_where, count_where}
use Rattle.field.specs.Field.{length_of}
use Rattle.codes.specs.Codeword.{RootsFrom}
use Rattle.soft.specs.Value.{reliability}
use Rattle.soft.specs.Distance.{differs, soft_distance, flips_of, reliable_flips}
use Rattle.soft.specs.Candidate.{Nearest}
use Rattle.sent.specs.Smallest.{smallest, right_reliabilities}

-- q chooses places, all of them right, k or more
abbrev pub SmallestAreLeast : Type 0
SmallestAreLeast = (m : ℕ) (soft : List ℤ) (w k : ℕ) (q : ℕ → Bool) → ((p : ℕ) → p < length_of m → T (q p) → T (not (differs soft w p)))
    → k ≤ count_where (length_of m) q → smallest k (right_reliabilities m soft w) ≤ sum_where (length_of m) q (reliability soft)

module _ (m b r tau : ℕ) (soft : List ℤ) (c : ℕ) where
  -- "Suppose a codeword was sent .. and at most 2t of its bits, e of them, were sliced wrongly, no more of those in the reliable set
  -- than the order allows. If the reliabilities at the wrong bits sum to less than the 2t+1-e smallest reliabilities at the right bits":
  -- the wrong bits are those at which c differs from the hard decisions
  pub record SentWithMargin : Type 0 where
    pub m_low : 4 ≤ m
    pub m_high : m ≤ 6
    pub first : b ≤ 1
    pub codeword : RootsFrom m b r c
    pub few : flips_of m soft c ≤ r
    pub allowed : reliable_flips m r soft c ≤ tau
    pub margin : soft_distance m soft c < smallest (r + 1 - flips_of m soft c) (right_reliabilities m soft c)

  abbrev pub OthersAreFarther : Type 0
  OthersAreFarther = SentWithMargin → (v : ℕ) → RootsFrom m b r v → v ≢ c → soft_distance m soft c < soft_distance m soft v

  -- "the decoder returns that codeword and no other"
  abbrev pub SentIsNearest : Type 0
  SentIsNearest = SentWithMargin → Nearest m b r tau soft c × ((w : ℕ) → Nearest m b r tau soft w → w ≡ c)
