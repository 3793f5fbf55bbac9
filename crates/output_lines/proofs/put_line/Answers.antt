-- `output_lines::put_line` meets its contract. Assumes nothing.
use Rattle.std.proofs.Common.{rules}
use Rattle.output_lines.specs.Output.{line_line}
use Rattle.output_lines.proofs.PutLaws.{put_whole}
use Rattle.output_lines.proofs.put_line.Goals as goal

pub returns : goal.returns
unfolding line_line
returns c = put_whole line_line _ _ _ _ c.put.ensures.puts (search rules)
