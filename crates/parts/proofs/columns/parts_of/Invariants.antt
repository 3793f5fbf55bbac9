-- `parts_of` meets its contract. The loop's invariant: the parts in the first q rows are added. Assumes nothing.
use mathlib.Core.Path.{◌≡◌}
use lib.ListN.{length}
use Rattle.parts.specs.Parts.{PartsOf}
use Rattle.parts.proofs.columns.parts_of.Given as goal

abbrev pub invariant-loop-q : goal.invariant-loop-q
invariant-loop-q l = (length l.parts ≡ 64) × PartsOf l.symbols l.q l.parts
