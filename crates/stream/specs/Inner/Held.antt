-- A piece of a line, added to what is held of it. Assumes nothing.
use Rattle.std.specs.Prelude.{◌≡◌, List, ◌++◌, ℕ, ◌≤◌, length, take}
use Rattle.lines.specs.Memory.{kept}

pub record Holds (before : List ℕ) (held : ℕ) (piece : List ℕ) (r : ℕ) (after : List ℕ) : Type 0 where
  pub text : take r after ≡ kept (take held before ++ piece)
  pub most : r ≤ 513
  pub size : length after ≡ 513
