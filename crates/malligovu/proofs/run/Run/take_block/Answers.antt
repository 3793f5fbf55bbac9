-- `Run::take_block` meets its contract, by what follows from the outcome of its read. Assumes nothing.
use Rattle.stream.specs.Stepped.{memory_of}
use Rattle.malligovu.proofs.TakenLaws.{turns}
use Rattle.malligovu.proofs.run.Run.take_block.Goals as goal

pub returns : goal.returns
returns g c =
    let before = c.args.self.now in
    let after = c.follow.new.self in
    turns (memory_of before.state before.line) c.read-got.new.block before.out after.state c.follow.result after.line after.out
    c.read-got.result c.read-got.ensures c.follow.ensures
