-- `base_part` meets its contract. The loop's invariant: the parts of the first q symbols are added. Assumes nothing.
use mathlib.Core.Path.{◌≡◌}
use lib.ListN.{get_or}
use Rattle.search.specs.Part.{part_over}
use Rattle.parts.proofs.columns.base_part.Given as goal

abbrev pub invariant-loop-q : goal.invariant-loop-q
invariant-loop-q l = l.part ≡ part_over (λ k. get_or l.base k 0) l.q
