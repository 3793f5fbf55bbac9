-- `text::find_newline` meets its contract: the sixteens that are passed over hold no newline, and behind them the first is found.
-- Assumes nothing.
use Rattle.stream.proofs.ClearLaws.{found_none, found_some}
use Rattle.stream.proofs.text.find_newline.Goals as goal

pub returns-in_err-after : goal.returns-in_err-after
returns-in_err-after c =
    rw c.from_residual.ensures
    (found_none c.args.block.now c.args.from c.requires c.as_chunks.result.0.now c.as_chunks.ensures.front c.as_chunks.ensures.front_len
    c.first_near.result c.first_near.ensures c.unwrap_or.result c.unwrap_or.ensures c.first_newline.result c.first_newline.ensures
    c.in_err-after.was)

pub returns : goal.returns
returns c =
    found_some c.args.block.now c.args.from c.requires c.as_chunks.result.0.now c.as_chunks.ensures.front c.as_chunks.ensures.front_len
    c.first_near.result c.first_near.ensures c.unwrap_or.result c.unwrap_or.ensures c.first_newline.result c.first_newline.ensures
    c.in_ok-after.after c.in_ok-after.was
