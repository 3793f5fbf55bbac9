-- The plan that the parts of a prepared word make. Its own file, since the struct's type cites it. Assumes nothing.
use Rattle.std.specs.Prelude.{List, ℕ, ◌+◌, ◌*◌, get_or}
use Rattle.search.specs.Plan.{Plan}
use Rattle.words.specs.Packing.{unpacked}
use Rattle.ranks.specs.Places.{place_in}
use Rattle.ranks.specs.declared.Position.{Position}

abbrev pub planned : ℕ → ℕ → List ℕ → ℕ → List ℕ → List Position → List ℕ → List ℕ → Plan
planned size rows hards sides base order weight symbols = record {
  size = size;
  rows = rows;
  hards = unpacked hards 8;
  sides = sides;
  base = λ q. get_or base q 0;
  place = place_in order;
  weight = λ i. get_or weight i 0;
  column = λ q j. get_or symbols (q * 63 + j) 0;
}
