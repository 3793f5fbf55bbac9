-- `lines::phase::answer_first` meets its contract. Assumes nothing.
use mathlib.Core.Path.{ap, ap₂, sym, ◌∙◌}
use Rattle.lines.specs.Answer.{header_goes_on}
use Rattle.lines.specs.Awaited.{words_or_end}
use Rattle.lines.proofs.AnswerLaws.{answer_says, nothing_goes_on, something_ends}
use Rattle.lines.proofs.phase.answer_first.Goals as goal

pub returns-then-wrote-eq0 : goal.returns-then-wrote-eq0
returns-then-wrote-eq0 c =
    let header = c.read_header-header in
    let w = c.answer_header-wrote in
    let e = c.in-Some.is in
    let says = rw e at w.ensures.size in
    record {
      next =
          ap₂ words_or_end (sym (nothing_goes_on c.in-Some.h (sym says ∙ c.if-wrote-eq0.true)) ∙ ap header_goes_on c.in-Some.ensures)
          c.in-Some.ensures;
      writes = rw (answer_says c.args.text.now header.result header.ensures) w.ensures;
    }

-- a header that is refused
pub returns-else-wrote-eq0 : goal.returns-else-wrote-eq0
returns-else-wrote-eq0 c =
    let header = c.read_header-header in
    let w = c.answer_header-wrote in
    record {
      next =
          ap (λ b. words_or_end b header.result) (sym (something_ends header.result (λ z. c.if-wrote-eq0.false (w.ensures.size ∙ z))))
          ∙ ap (λ h. words_or_end (header_goes_on h) h) header.ensures;
      writes = rw (answer_says c.args.text.now header.result header.ensures) w.ensures;
    }

pub returns-in-None : goal.returns-in-None
unfolding header_goes_on
returns-in-None c =
    let header = c.read_header-header in
    let w = c.answer_header-wrote in
    record {
      next = ap (λ h. words_or_end (header_goes_on h) h) (sym c.in-None.is ∙ header.ensures);
      writes = rw (answer_says c.args.text.now header.result header.ensures) w.ensures;
    }
