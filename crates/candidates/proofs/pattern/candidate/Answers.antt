-- `candidate` meets its contract: one that is farther than the best only counts. Assumes nothing.
use mathlib.Core.Path.{ap, ◌∙◌}
use native.Mathlib.Omega.{arith}
use Rattle.search.specs.Best.{better}
use Rattle.search.specs.ByRank.{rank_weighed}
use Rattle.prepare.specs.PlanOf.{plan_of}
use Rattle.candidates.specs.As.{as_best}
use Rattle.candidates.proofs.pattern.candidate.Goals as goal

pub counting-requires : goal.counting-requires
counting-requires c = ((c.nearer.ensures c.if-nearer.true).0, c.requires.1)

pub returns-then-nearer : goal.returns-then-nearer
returns-then-nearer c =
    let a = c.args in
    let far = (c.nearer.ensures c.if-nearer.true).1 in
    c.counting.ensures (rank_weighed (plan_of a.p) a.ranks) (omega (arith, far, c.weigh-distance.ensures))

pub placed-requires : goal.placed-requires
placed-requires c = (c.requires.0, c.weigh-distance.ensures)

pub with-requires : goal.with-requires
with-requires c = c.requires.1

pub returns-else-nearer : goal.returns-else-nearer
returns-else-nearer c = c.with.ensures ∙ ap (better (as_best c.args.best.now)) c.placed.ensures
