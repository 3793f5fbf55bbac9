-- What a method that puts a piece of a line leaves of the line. Only contracts of inner functions cite it. Assumes nothing.
use Rattle.std.specs.Prelude.{◌≡◌, List, ◌++◌, ℕ, ◌+◌, length, take, drop}
use Rattle.output_lines.specs.declared.Line.{Line}

-- the piece stands from place `at` up to r, and the other bytes are as they were
pub record PutAt (piece : List ℕ) (at : ℕ) (before : List ℕ) (r : ℕ) (after : List ℕ) : Type 0 where
  pub size : r ≡ at + length piece
  pub holds : after ≡ take at before ++ piece ++ drop r before

-- the piece stands behind what was there, in the same slice
pub record Puts (piece : List ℕ) (before after : Line) : Type 0 where
  pub same_reference : after.out.ghost_name ≡ before.out.ghost_name
  pub same_size : length after.out.now ≡ length before.out.now
  pub puts : PutAt piece before.at before.out.now after.at after.out.now
