-- Req 01's case at order 1, shown of the definition in proofs/WholeExampleShown, and run (try_lines).
--   OrderOneIsWrong   with m=4 and t=2 the zero word is sent and comes hard-sliced, all values of size 10, with two wrong bits: order 1,
--                     which a header of three numbers meant before, gives another word
-- Assumes nothing.
use Rattle.std.specs.Prelude.{◌≡◌}
use Rattle.output_lines.specs.Text.{bytes_in}
use Rattle.lines.specs.Program.{program_output}

-- "With t=2 or 3 that leaves a hard-sliced word with two wrong bits unread"; at order t it comes back: HardSlicedWordsAreRead
-- (demands/specs/Claims)
abbrev pub OrderOneIsWrong : Type 0
OrderOneIsWrong = program_output (bytes_in "4 2 0 1\n-10 -10 10 10 10 10 10 10 10 10 10 10 10 10 10\n") ≡ bytes_in "ok 0351 30 3 1\n"
