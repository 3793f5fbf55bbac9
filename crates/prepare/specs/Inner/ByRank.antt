-- What is by position, by rank, as far as n.
--   Inside n order                the first n ranks have positions below 63
--   ranked n w order              the bits of w, by rank
--   Gathers n values w order r    r has the values, and the bits of w, by rank
-- Assumes nothing.
use Rattle.std.specs.Prelude.{◌≡◌, List, ℕ, ◌<◌, get_or}
use Rattle.codes.specs.Codeword.{bit_of, word_of}
use Rattle.ranks.specs.Places.{place_in}
use Rattle.ranks.specs.declared.Position.{Position}
use Rattle.prepare.specs.declared.by_rank.ByRank.{ByRank}

abbrev pub Inside : ℕ → List Position → Type 0
Inside n order = (i : ℕ) → i < n → place_in order i < 63

unfoldable pub ranked : ℕ → ℕ → List Position → ℕ
ranked n w order = word_of n (λ i. bit_of w (place_in order i))

pub record Gathers (n : ℕ) (values : List ℕ) (hards : ℕ) (order : List Position) (r : ByRank) : Type 0 where
  pub weight : (i : ℕ) → i < n → get_or r.weight i 0 ≡ get_or values (place_in order i) 0
  pub bits : r.bits ≡ ranked n hards order
