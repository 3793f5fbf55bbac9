-- Candidates, the nearest of them and their number (document 01, "The search"; demand 2). b is the first root's exponent and r the
-- number of consecutive roots: 1 and 2t for the codes of document 01.
--   Candidate m b r tau soft w   w is a candidate
--   Nearest m b r tau soft w     w is the one that is returned
--   Counted m b r tau soft N     there are N candidates
-- Assumes nothing.
use Rattle.std.specs.Prelude.{◌≡◌, ◌↔◌, ◌⊎◌, List, [], ◌∷◌, ℕ, ◌≤◌, ℤ, length}
use Rattle.codes.specs.Codeword.{RootsFrom}
use Rattle.soft.specs.Distance.{soft_distance, reliable_flips}

-- "A candidate is a codeword that differs from the hard decisions in at most tau positions of the reliable set."
pub record Candidate (m b r tau : ℕ) (soft : List ℤ) (w : ℕ) : Type 0 where
  pub codeword : RootsFrom m b r w
  pub near : reliable_flips m r soft w ≤ tau

-- "one of least soft distance, the lowest as a number where several tie"
pub record Nearest (m b r tau : ℕ) (soft : List ℤ) (w : ℕ) : Type 0 where
  pub candidate : Candidate m b r tau soft w
  pub least : (v : ℕ) → Candidate m b r tau soft v → soft_distance m soft w ≤ soft_distance m soft v
  pub lowest : (v : ℕ) → Candidate m b r tau soft v → soft_distance m soft v ≡ soft_distance m soft w → w ≤ v

abbrev pub Member : ℕ → List ℕ → Type 0
Member x [] = ⊥
Member x (y ∷ l) = (x ≡ y) ⊎ Member x l

abbrev pub NoRepeats : List ℕ → Type 0
NoRepeats [] = Unit {0}
NoRepeats (x ∷ l) = (Member x l → ⊥) × NoRepeats l

-- "the number of candidates that exist": a list without repeats, whose members are exactly the candidates, has N members
pub record Counted (m b r tau : ℕ) (soft : List ℤ) (N : ℕ) : Type 0 where
  pub list : List ℕ
  pub once : NoRepeats list
  pub members : (w : ℕ) → Member w list ↔ Candidate m b r tau soft w
  pub number : length list ≡ N
