-- Document 01's whole example, shown of the definition in proofs/WholeExampleShown, and run (malligovu's stdin and stdout begin with it).
-- Assumes nothing.
use Rattle.std.specs.Prelude.{◌≡◌}
use Prim.Native.String.{String}
use Rattle.output_lines.specs.Text.{bytes_in}
use Rattle.lines.specs.Program.{program_output}

-- "Whole example. Input:"
abbrev pub example_input : String
example_input = "4 1 0 1\n10 10 -10 10 10 10 10 10 10 10 10 10 10 5 5\n10 10 10 10 10 -10 10 10 10 10 10 10 10 10 10\n10 10\n"

-- "Output:"
abbrev pub example_output : String
example_output = "ok 0000 10 1 2\nok 0000 10 1 4\nrefused 4\n"

abbrev pub WholeExample : Type 0
WholeExample = program_output (bytes_in example_input) ≡ bytes_in example_output
