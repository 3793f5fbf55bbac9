-- `stream::end` meets its contract. Assumes nothing.
use mathlib.Core.Path.{◌≡◌, refl}
use mathlib.Core.List.{List, [], ◌∷◌}
use Prim.Native.Nat.{ℕ, ◌<◌}
use native.Mathlib.Omega.{arith}
use lib.ListN.{length, take, length-take}
use Rattle.lines.specs.Answer.{word_answer}
use Rattle.input_lines.specs.declared.header.Header.{Header}
use Rattle.lines.proofs.AnswerLaws.{answer_says}
use Rattle.lines.specs.Awaited.{last_says}
use Rattle.lines.specs.Memory.{end_says}
use Rattle.stream.specs.Stepped.{memory_of}
use Rattle.lines.specs.declared.phase.Phase.TheVariants.{Words}
use Rattle.stream.proofs.PutLaws.{put_prints}
use Rattle.stream.proofs.end.Goals as goal

-- a text that is there is a line
last_word : (h : Header) (text : List ℕ) → 0 < length text → last_says (Words h) text ≡ word_answer h text
last_word h [] l = absurd (omega arith)
last_word h (b ∷ text) l = refl

pub slice_bounds-read_header-end : goal.slice_bounds-read_header-end
slice_bounds-read_header-end c =
    let a = c.args in
    omega (arith, length-take a.state.held a.line.now)

pub slice_bounds-answer_word-end : goal.slice_bounds-answer_word-end
slice_bounds-answer_word-end c =
    let a = c.args in
    omega (arith, length-take a.state.held a.line.now)

pub returns-in-First : goal.returns-in-First
returns-in-First c =
    let a = c.args in
    let h = c.read_header-h in
    put_prints (end_says (memory_of a.state a.line.now)) a.out.now _ _
    (rw (
      c.in-First.is,
      answer_says (take a.state.held a.line.now)
          h.result h.ensures,
    )
    c.answer_header.ensures)

pub returns-else-held-eq0 : goal.returns-else-held-eq0
returns-else-held-eq0 c =
    let a = c.args in
    put_prints (end_says (memory_of a.state a.line.now)) a.out.now _ _
    (rw (
      c.in-Words.is,
      last_word c.in-Words.h (take a.state.held a.line.now) (omega (arith, length-take a.state.held a.line.now)),
    )
    c.answer_word.ensures)
