-- `gf::Field::alpha_times` meets its contract. The loop's invariant: what is moved so far is a^k times y, an element, after k turns.
-- Assumes nothing.
use mathlib.Core.Path.{◌≡◌}
use Prim.Native.Nat.{◌^◌, ◌<◌}
use Rattle.field.specs.Field.{alpha_to, times}
use Rattle.gf.proofs.Field.alpha_times.Given as goal

abbrev pub invariant-loop : goal.invariant-loop
invariant-loop l = (l.moved ≡ times l.self.m (alpha_to l.self.m l.counter) l.y) × (l.moved < 2 ^ l.self.m)
