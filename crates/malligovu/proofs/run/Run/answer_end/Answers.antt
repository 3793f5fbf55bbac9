-- `Run::answer_end` meets its contract. Assumes nothing.
use Rattle.std.proofs.Common.{rules, []}
use Rattle.malligovu.proofs.TakenLaws.{takes_none}
use Rattle.malligovu.proofs.run.Run.answer_end.Goals as goal

pub returns : goal.returns
returns g c =
    let run = c.args.self.now in
    let wrote = c.end-wrote in
    record {
      takes = takes_none run.state run.line (record { held = run.held; size = search rules }) [] run.out;
      printed = record { count = wrote.result; writes = wrote.ensures.writes };
    }
