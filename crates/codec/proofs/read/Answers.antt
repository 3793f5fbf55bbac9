-- `codec::read` meets its contract. Assumes nothing.
use mathlib.Core.Path.{sym, subst, ◌∙◌}
use Rattle.codec.specs.Read.{ReadAnswers}
use Rattle.codec.proofs.CalledLaws.{reading_answers}
use Rattle.codec.proofs.read.Goals as goal

pub returns-in-Ok : goal.returns-in-Ok
returns-in-Ok c =
    let a = c.args in
    subst (ReadAnswers a.m a.t a.s a.bytes.now) (sym c.in-Ok.ensures) (reading_answers a.m a.t a.s a.bytes.now)

pub returns-in-Err : goal.returns-in-Err
returns-in-Err c =
    let a = c.args in
    subst (ReadAnswers a.m a.t a.s a.bytes.now) (sym (c.into.ensures ∙ c.in-Err.ensures)) (reading_answers a.m a.t a.s a.bytes.now)
