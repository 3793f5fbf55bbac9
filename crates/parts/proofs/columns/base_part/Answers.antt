-- `base_part` meets its contract. Assumes nothing.
use mathlib.Core.Path.{refl, ap₂}
use native.Mathlib.Numerals.{add-one}
use Rattle.field.specs.Field.{◌⊕◌}
use Rattle.search.specs.Part.{part_over}
use Rattle.parts.proofs.columns.base_part.Goals as goal

pub loop-q-init : goal.loop-q-init
unfolding part_over
loop-q-init c = refl

pub loop-q-preserved : goal.loop-q-preserved
unfolding part_over ◌⊕◌
loop-q-preserved c =
    let l = c.loop-q in
    rw add-one (ap₂ ◌⊕◌ l.invariant c.moved-part.ensures)
