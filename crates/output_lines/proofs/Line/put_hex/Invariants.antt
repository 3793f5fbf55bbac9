-- `output_lines::Line::put_hex` meets its contract. The loop's invariant: the digits of the bytes so far are put. Assumes nothing.
use lib.ListN.{take}
use Rattle.output_lines.specs.Output.{hex_of}
use Rattle.output_lines.specs.Inner.PutAt.{Puts}
use Rattle.output_lines.proofs.Line.put_hex.Given as goal

abbrev pub invariant-loop-b : goal.invariant-loop-b
invariant-loop-b l = Puts (hex_of (take l.b-index l.bytes)) l.initial.self l.self
