-- A line of which some was held is answered. Assumes nothing.
use Rattle.std.specs.Prelude.{List, ◌++◌, ℕ}
use Rattle.lines.specs.Memory.{Memory, kept}
use Rattle.lines.specs.Finished.{AnswersLine}
use Rattle.lines.specs.declared.phase.Answered.{Answered}

-- what is held and the piece are the line
abbrev pub Finishes : Memory → List ℕ → List ℕ → Answered → List ℕ → Type 0
Finishes m piece before r after = AnswersLine m.phase (kept (m.text ++ piece)) before r after
