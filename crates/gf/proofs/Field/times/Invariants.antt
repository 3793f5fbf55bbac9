-- `gf::Field::times` meets its contract. The loop's invariant: the sum so far and what the coefficients of x that are left add to it
-- make the product. Assumes nothing.
use mathlib.Core.Path.{◌≡◌}
use Prim.Native.Nat.{◌-◌, ◌^◌, ◌<◌}
use Rattle.field.specs.Field.{◌⊕◌, times, shift_add}
use Rattle.gf.proofs.Field.times.Given as goal

abbrev pub invariant-loop : goal.invariant-loop
invariant-loop l =
    let m = l.self.m in
    (l.sum ⊕ shift_add m (m - l.counter) l.rest l.shifted ≡ times m l.x l.y) × (l.shifted < 2 ^ m)
