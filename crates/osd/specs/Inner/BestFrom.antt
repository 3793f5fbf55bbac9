-- The best over the patterns that are left once some ranks are kept or flipped. Everything here computes.
--   best_from p i may flips x   the best of x, the best so far, and of the patterns that make these flips and then at most `may` more, of
--                              the ranks from i on
-- Assumes nothing.
use Rattle.std.specs.Prelude.{ℕ, ◌-◌}
use Rattle.search.specs.Best.{Best}
use Rattle.search.specs.Search.{best_over}
use Rattle.search.specs.ByRank.{tried}
use Rattle.prepare.specs.PlanOf.{plan_of}
use Rattle.prepare.specs.declared.Prepared.{Prepared}

abbrev pub best_from : Prepared → ℕ → ℕ → ℕ → Best → Best
best_from p i may flips x = best_over (λ j. j) (tried (plan_of p)) (p.size - i) i may flips x
