-- `export::reading_of` meets its contract. Assumes nothing.
use Rattle.export.proofs.NarrowLaws.{read_narrow}
use Rattle.export.proofs.reading_of.Goals as goal

pub returns : goal.returns
returns c =
    let a = c.args in
    read_narrow c.narrow.ensures c.narrow-2.ensures c.narrow-3.ensures a.word.now c.read.ensures
