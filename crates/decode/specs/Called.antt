-- The decode call as a function from what it is given to what it gives back: the checks, then the search over the positions by rank.
-- It is the one function that the contract permits (proofs/CalledLaws). Everything here computes.
--   result_of c  the result of the call c
-- Assumes nothing.
use Rattle.std.specs.Prelude.{Bool, true, false, ℕ, zero, suc, ◌*◌}
use Rattle.words.specs.Packing.{written}
use Rattle.search.specs.Best.{Best}
use Rattle.search.specs.Positions.{positions, search_over}
use Rattle.decode.specs.Call.{Call, Result, checks_of, refused_with}

-- the best candidate in the buffer, if there is one
abbrev pub found_if : Bool → Best → Call → Result
found_if true x c = record {
  answer = record { refusal = 0; distance = x.distance; flips = x.flips; candidates = x.count };
  after = written c.m x.word c.before;
}
found_if false x c = refused_with 6 c

abbrev pub found : Best → Call → Result
found x c = found_if x.found x c

abbrev pub checked : ℕ → Call → Result
checked zero c = found (search_over c.m 1 (2 * c.t) c.soft c.order (positions c.m c.soft)) c
checked (suc N) c = refused_with (suc N) c

unfoldable pub result_of : Call → Result
result_of c = checked (checks_of c) c
