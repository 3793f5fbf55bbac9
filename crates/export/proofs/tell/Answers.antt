-- `export::tell` meets its contract. Assumes nothing.
use Rattle.export.proofs.ToldLaws.{told_copied}
use Rattle.export.proofs.tell.Goals as goal

pub returns : goal.returns
returns g c =
    let a = c.args in
    rw c.copy_from_slice.ensures.after
    (told_copied a.refusal a.numbers.now a.memory.now c.min-count.result c.if-refusal-gt0.false c.min-count.ensures)
