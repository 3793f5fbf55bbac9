-- `input_lines::word_line::read_values` meets its contract. The loop's invariant: the values of the items so far stand at the start of the
-- array, and what is left of the line has room there. Assumes nothing.
use mathlib.Core.Path.{◌≡◌}
use Prim.Native.Nat.{◌+◌, ◌*◌, ◌≤◌}
use lib.ListN.{length, take, drop}
use Rattle.items.specs.Line.{items}
use Rattle.input_lines.specs.WordLine.{is_value, value_of}
use Rattle.input_lines.proofs.ReadSteps.{Reading, bytes_of}
use Rattle.input_lines.proofs.ValuesSteps.{Uncut}
use Rattle.input_lines.proofs.word_line.read_values.Given as goal

abbrev pub invariant-loop-item : goal.invariant-loop-item
invariant-loop-item l = record {
  within : length l.text ≤ 512;
  size : length l.values ≡ 256;
  turns : l.count ≡ length l.yielded;
  fits : l.count ≤ 256;
  room : 2 * l.count + bytes_of (drop l.count (items l.text)) ≤ length l.text + 1;
  uncut : Uncut (items l.text) l.count;
  reading : Reading is_value value_of l.text (take l.count l.values) (drop l.count (items l.text));
}
