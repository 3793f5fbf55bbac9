-- `Flips::with` meets its contract. Assumes nothing.
use mathlib.Core.Path.{refl}
use native.Mathlib.Nat.{one-mul, mod-eq_of_lt}
use lib.Pow.{pow-lt}
use Rattle.field.specs.Field.{◌⊕◌}
use Rattle.parts.proofs.flips.Flips.with.Goals as goal

pub returns : goal.returns
unfolding ◌⊕◌
returns c = (rw (one-mul, mod-eq_of_lt (pow-lt c.requires)), refl)
