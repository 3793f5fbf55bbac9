-- `weigh` meets its contract: in each turn the lowest rank that is left goes into the distance. Assumes nothing.
use Prim.Native.Nat.{◌+◌, ◌<◌}
use native.Mathlib.Omega.{arith}
use Rattle.prepare.specs.Ones.{Took}
use Rattle.prepare.specs.PlanOf.{plan_of}
use Rattle.prepare.proofs.OnesLaws.{took, took_none}
use Rattle.candidates.proofs.WeighSteps.{far_start, far_low, far_turn, far_fits, far_end}
use Rattle.candidates.proofs.pattern.weigh.Goals as goal
use Rattle.candidates.proofs.pattern.weigh.Goals.{In-Some}

-- in a turn: the lowest rank that is left is one of those prepared
took_here : (c : In-Some) → Took c.loop-rank.rank-iterator.0 c.in-Some.rank c.next.new.self.0
took_here c = took _ _ _ _ c.in-Some.is c.next.ensures.steps

low : (c : In-Some) → let p = c.args.p in c.in-Some.rank < p.size + p.rows
low c = let p = c.args.p in far_low (plan_of p) p.fits _ _ _ c.loop-rank.invariant _ _ (took_here c)

pub loop-rank-init : goal.loop-rank-init
loop-rank-init c =
    rw c.into_iter-rank-iterator.ensures.into_iter_gives (far_start (plan_of c.args.p) _ c.requires)

pub bounds-weight-rank : goal.bounds-weight-rank
bounds-weight-rank c =
    let p = c.args.p in
    let t = took _ _ _ _ c.in-Some.is c.next.ensures.steps in
    omega (arith, far_low (plan_of p) p.fits _ _ _ c.loop-rank.invariant _ _ t, p.fits.all)

pub overflow_cast-distance : goal.overflow_cast-distance
overflow_cast-distance c = record { fits = omega (arith, c.args.p.fits.weights _ (low (goal.at.overflow_cast-distance c).In-Some)) }

pub overflow_add-distance : goal.overflow_add-distance
overflow_add-distance c =
    let p = c.args.p in
    let t = took_here (goal.at.overflow_add-distance c).In-Some in
    record { fits = omega (arith, far_fits (plan_of p) p.fits _ _ _ c.loop-rank.invariant _ _ t) }

pub loop-rank-preserved : goal.loop-rank-preserved
loop-rank-preserved c =
    let p = c.args.p in
    far_turn (plan_of p) p.fits _ _ _ c.loop-rank.invariant _ _ (took_here (goal.at.loop-rank-preserved c).In-Some)

pub returns : goal.returns
returns c =
    let p = c.args.p in
    far_end (plan_of p) p.fits _ _ _ c.loop-rank.invariant (took_none _ _ _ c.in-None.is c.next.ensures.steps)
