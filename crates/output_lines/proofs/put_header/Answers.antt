-- `output_lines::put_header` meets its contract. Assumes nothing.
use Rattle.std.proofs.Common.{rules}
use Rattle.output_lines.specs.Output.{header_line}
use Rattle.output_lines.proofs.PutLaws.{put_whole}
use Rattle.output_lines.proofs.put_header.Goals as goal

pub returns : goal.returns
unfolding header_line
returns c = put_whole header_line _ _ _ _ c.put.ensures.puts (search rules)
