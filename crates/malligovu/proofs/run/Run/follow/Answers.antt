-- `Run::follow` meets its contract. Assumes nothing.
use Rattle.std.proofs.Common.{rules}
use Rattle.malligovu.proofs.TakenLaws.{follows_later, follows_failed}
use Rattle.malligovu.proofs.run.Run.follow.Goals as goal

pub returns-in-Later : goal.returns-in-Later
returns-in-Later g c =
    let run = c.args.self.now in
    follows_later run.state run.line (record { held = run.held; size = search rules }) c.args.block.now run.out c.in-Later.is

pub returns-in-Failed : goal.returns-in-Failed
returns-in-Failed g c =
    let run = c.args.self.now in
    follows_failed run.state run.line (record { held = run.held; size = search rules }) c.args.block.now run.out c.in-Failed.is
