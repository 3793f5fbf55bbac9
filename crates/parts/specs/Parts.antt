-- The non-binary parts of the columns, as lists and as the flips that are made carry them. Everything but the record computes.
--   PartsOf symbols k l   l has the parts of the columns in the first k rows
--   told p                in how many rows the parts are told
--   Made p f              f is flips of reliable ranks, with their part
-- Assumes nothing.
use Rattle.std.specs.Prelude.{◌≡◌, List, ℕ, ◌+◌, ◌*◌, ◌/◌, ◌^◌, ◌<◌, get_or}
use Rattle.search.specs.Part.{part_over, part_of}
use Rattle.prepare.specs.PlanOf.{plan_of}
use Rattle.prepare.specs.declared.Prepared.{Prepared}
use Rattle.parts.specs.declared.flips.Flips.{Flips}

abbrev pub PartsOf : List ℕ → ℕ → List ℕ → Type 0
PartsOf symbols k l = (j : ℕ) → j < 64 → get_or l j 0 ≡ part_over (λ q. get_or symbols (q * 63 + j) 0) k

-- t of the 2t rows: where the symbols of t rows are bits, so are all, which makes the test sharp (but for the bit in which rows overlap
-- at m = 6), and no proof rests on it
abbrev pub told : Prepared → ℕ
told p = p.rows / 2

pub record Made (p : Prepared) (f : Flips) : Type 0 where
  pub low : f.ranks < 2 ^ p.size
  pub part : f.part ≡ part_of (plan_of p) (told p) f.ranks
