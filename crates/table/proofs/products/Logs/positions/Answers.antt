-- `table::products::Logs::positions` meets its contract. Assumes nothing.
use mathlib.Core.Path.{◌≡◌, refl}
use mathlib.Core.List.{List}
use Prim.Native.Nat.{ℕ, ◌<◌}
use native.Mathlib.Omega.{arith}
use lib.Dec.{T}
use lib.ListN.{length}
use Rattle.table.proofs.StoreLaws.{zeros, zeros_at}
use Rattle.table.proofs.products.Logs.positions.Invariants.{Started}
use Rattle.table.proofs.products.Logs.positions.Goals as goal

started_none : (n : ℕ) (l : List ℕ) → length l ≡ 64 → T (zeros l) → 0 < n → Started n 0 l
started_none n l e t h = record {
  size = e;
  below = λ i li. omega (arith, zeros_at l t i);
  own = λ i li.
      absurd (omega arith);
}

pub loop-p-init : goal.loop-p-init
loop-p-init c = started_none c.args.self.n _ refl tt c.args.self.some
