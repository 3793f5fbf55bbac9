-- A finished line is answered: what is awaited after it, and its answer in the output. Assumes nothing.
use Rattle.std.specs.Prelude.{◌≡◌, List, ℕ}
use Rattle.output_lines.specs.Put.{Put}
use Rattle.lines.specs.Awaited.{line_says, phase_after}
use Rattle.lines.specs.declared.phase.Phase.{Phase}
use Rattle.lines.specs.declared.phase.Answered.{Answered}

pub record AnswersLine (phase : Phase) (text before : List ℕ) (r : Answered) (after : List ℕ) : Type 0 where
  pub next : r.phase ≡ phase_after phase text
  pub writes : Put (line_says phase text) before r.wrote after
