-- A host's number as the calls take it: itself, or the largest of 16 bits where it does not fit. Assumes nothing.
use Rattle.std.specs.Prelude.{◌≡◌, ℕ, ◌<◌, ◌≤◌}

pub record Narrows (x r : ℕ) : Type 0 where
  pub same : x ≤ 65535 → r ≡ x
  pub large : 65535 < x → r ≡ 65535
