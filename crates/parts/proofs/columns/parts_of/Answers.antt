-- `parts_of` meets its contract. Assumes nothing.
use mathlib.Core.Path.{refl, ap, ◌∙◌}
use Prim.Native.Nat.{ℕ, ◌+◌, ◌*◌, ◌/◌, ◌^◌}
use native.Mathlib.Numerals.{add-one}
use lib.ListN.{get_or, get_or-replicate}
use Rattle.field.specs.Field.{◌⊕◌}
use Rattle.search.specs.Part.{part_over}
use Rattle.parts.proofs.columns.parts_of.Goals as goal

pub loop-q-init : goal.loop-q-init
unfolding part_over
loop-q-init c = (refl, λ j l. get_or-replicate 64 j 0 0 l)

pub loop-q-preserved : goal.loop-q-preserved
unfolding part_over
loop-q-preserved c =
    let a = c.args in
    let l = c.loop-q in (
      c.add_row.ensures.0,
      λ j h. rw add-one (c.add_row.ensures.1 j h
          ∙ ap (λ (x : ℕ). x ⊕ get_or a.symbols.now (l.q * 63 + j) 0 / 2 * 2 ^ (4 * l.q)) (l.invariant.1 j h)),
    )
