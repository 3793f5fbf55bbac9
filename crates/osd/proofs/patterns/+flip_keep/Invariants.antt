-- `keep` and `flip` meet their contracts, as one cycle of calls: at each call the ranks that are left fall. The invariant of keep's loop:
-- the ranks from `end` on are done, and with one flip left the one before it has the part's slot. Assumes nothing.
use mathlib.Core.Path.{◌≡◌}
use Prim.Native.Nat.{◌+◌, ◌-◌, ◌*◌, ◌≤◌, ◌<◌}
use lib.ListN.{get_or}
use Rattle.search.specs.Best.{Best}
use Rattle.search.specs.ByRank.{tried}
use Rattle.prepare.specs.PlanOf.{plan_of}
use Rattle.candidates.specs.As.{as_best}
use Rattle.parts.specs.Chains.{slot_of}
use Rattle.osd.specs.Inner.BestFrom.{best_from}
use Rattle.osd.proofs.patterns.+flip_keep.Given as goal

abbrev pub decreases-flip : goal.decreases-flip
decreases-flip l = 2 * (l.p.size - l.rank.0)

abbrev pub decreases-keep : goal.decreases-keep
decreases-keep l = 2 * (l.p.size - l.rank.0) + 1

abbrev pub invariant-keep-loop-end : goal.invariant-keep-loop-end
invariant-keep-loop-end l =
    (l.rank.0 ≤ l.end.0) × (l.end.0 ≤ l.p.size)
    × (l.may ≡ 1 → l.rank.0 < l.end.0 → slot_of (get_or l.parts (l.end.0 - 1) 0) ≡ slot_of l.part)
    × ((x : Best) → as_best l.initial.best ≡ tried (plan_of l.p) l.flips.ranks x
    → as_best l.best ≡ best_from l.p l.end.0 l.may l.flips.ranks x)

abbrev pub decreases-keep-loop-end : goal.decreases-keep-loop-end
decreases-keep-loop-end l = l.end.0
