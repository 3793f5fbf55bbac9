-- `export::malligovu_encode` meets its contract. Assumes nothing.
use Rattle.export.proofs.NarrowLaws.{encode_narrow}
use Rattle.export.proofs.malligovu_encode.Goals as goal

pub returns : goal.returns
returns c =
    let a = c.args in
    rw c.from.ensures
    (encode_narrow c.narrow.ensures c.narrow-2.ensures c.narrow-3.ensures a.message a.word.now
    c.encode.ensures)
