-- What a function that prints leaves in the slice that it was lent. Assumes nothing.
use Rattle.std.specs.Prelude.{◌≡◌, List, ◌++◌, ℕ, length, drop}

-- r bytes, the line's, stand at the start, and the bytes after them are as they were
pub record Put (line before : List ℕ) (r : ℕ) (after : List ℕ) : Type 0 where
  pub size : r ≡ length line
  pub holds : after ≡ line ++ drop r before
