-- `stream::finish` meets its contract: of the whole line the first 513 bytes are enough. Assumes nothing.
use mathlib.Core.Path.{sym, ◌∙◌}
use mathlib.Core.List.{List}
use Prim.Native.Nat.{ℕ}
use Rattle.lines.specs.Memory.{kept}
use Rattle.lines.specs.Finished.{AnswersLine}
use Rattle.lines.specs.declared.phase.Phase.{Phase}
use Rattle.lines.specs.declared.phase.Answered.{Answered}
use Rattle.lines.proofs.KeptLaws.{line_kept, phase_kept}
use Rattle.stream.proofs.finish.Goals as goal

answers_kept : (phase : Phase) (text before : List ℕ) (r : Answered) (after : List ℕ) → AnswersLine phase text before r after
    → AnswersLine phase (kept text) before r after
answers_kept phase text before r after a =
    record { next = a.next ∙ sym (phase_kept phase text); writes = rw (line_kept phase text) a.writes }

pub returns : goal.returns
returns c =
    let a = c.args in
    rw (← c.whole.ensures) (answers_kept a.state.phase c.whole.result.now a.out.now c.answer.result c.answer.new.out c.answer.ensures)
