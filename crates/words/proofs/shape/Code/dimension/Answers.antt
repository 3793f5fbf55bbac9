-- `words::shape::Code::dimension` meets its contract: its table is the definition's. Assumes nothing.
use mathlib.Core.Path.{refl}
use Rattle.codes.specs.Code.{entry_of, dimension_of}
use Rattle.codes.proofs.ShapeLaws.{dimension_small}
use Rattle.words.proofs.shape.Code.dimension.Goals as goal

pub returns : goal.returns
unfolding dimension_of entry_of
returns c =
    let s = c.args.self in
    rw c.place.ensures.place (record { dimension = refl; within = dimension_small s.m s.t s.known })
