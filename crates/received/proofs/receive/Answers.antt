-- `received::receive` meets its contract. Assumes nothing.
use Rattle.received.proofs.ReceiveSteps.{received}
use Rattle.received.proofs.receive.Goals as goal

pub returns : goal.returns
returns c =
    received c.args.soft.now c.hards_of-hards.result _ c.hards_of-hards.ensures
    c.reliabilities_of-reliability.ensures
