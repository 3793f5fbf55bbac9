-- `table::products::Logs::of_positions` meets its contract. The loop's invariant: the runs of the places so far are added. Assumes nothing.
use mathlib.Core.Path.{◌≡◌}
use lib.ListN.{length}
use Rattle.ranks.specs.Places.{place_in}
use Rattle.table.specs.Exponents.{Exponents}
use Rattle.table.proofs.products.Logs.of_positions.Given as goal

abbrev pub invariant-loop-place : goal.invariant-loop-place
invariant-loop-place l = (length l.list ≡ 64) × Exponents l.self.n l.self.zech.now (place_in l.outside) l.place-index l.list
