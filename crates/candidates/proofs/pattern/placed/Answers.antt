-- `placed` meets its contract: in each turn the lowest rank that is left goes into the word and the flips. Assumes nothing.
use mathlib.Core.Path.{◌≡◌, sym, subst}
use Prim.Native.Nat.{ℕ, ◌+◌, ◌<◌}
use native.Mathlib.Nat.{one-mul, mod-eq_of_lt}
use native.Mathlib.Omega.{arith}
use Rattle.std.proofs.Common.{rules}
use lib.Pow.{pow-lt}
use Rattle.field.specs.Field.{◌⊕◌}
use Rattle.prepare.specs.Ones.{Took}
use Rattle.prepare.specs.PlanOf.{plan_of}
use Rattle.prepare.proofs.BytesLaws.{bytes_unpacked}
use Rattle.prepare.proofs.OnesLaws.{took, took_none}
use Rattle.candidates.proofs.WeighSteps.{left_start, left_low, left_turn, left_fits, left_end}
use Rattle.candidates.proofs.pattern.placed.Goals as goal
use Rattle.candidates.proofs.pattern.placed.Goals.{In-Some}

-- in a turn: the lowest rank that is left is one of those prepared, and so is its position
took_here : (c : In-Some) → Took c.loop-i.i-iterator.0 c.in-Some.i c.next.new.self.0
took_here c = took _ _ _ _ c.in-Some.is c.next.ensures.steps

low : (c : In-Some) → let p = c.args.p in c.in-Some.i < p.size + p.rows
low c = let p = c.args.p in left_low (plan_of p) p.fits _ _ _ _ c.loop-i.invariant _ _ (took_here c)

at : (c : In-Some) → (plan_of c.args.p).place c.in-Some.i < 63
at c = c.args.p.fits.places _ (low c)

-- so is the position that was found
found : (r x : ℕ) → r ≡ x → x < 63 → r < 63
found r x e h = subst (λ (u : ℕ). u < 63) (sym e) h

pub loop-i-init : goal.loop-i-init
loop-i-init c =
    let p = c.args.p in
    let word = c.from_le_bytes-word in
    let e = bytes_unpacked p.hards _ (search rules) (search rules) word.type_inv word.ensures in
    rw (e, c.into_iter-i-iterator.ensures.into_iter_gives) (left_start (plan_of p) _ c.requires.0)

pub overflow_cast-rank : goal.overflow_cast-rank
overflow_cast-rank c = record { fits = omega (arith, low (goal.at.overflow_cast-rank c).In-Some, c.args.p.fits.all) }

pub position_at-position-requires : goal.position_at-position-requires
position_at-position-requires c = omega (arith, low (goal.at.position_at-position-requires c).In-Some, c.args.p.fits.all)

pub overflow_cast-word : goal.overflow_cast-word
overflow_cast-word c =
    record { fits = omega (arith, found _ _ c.position_at-position.ensures (at (goal.at.overflow_cast-word c).In-Some)) }

pub overflow_shl-word : goal.overflow_shl-word
overflow_shl-word c = omega (arith, found _ _ c.position_at-position.ensures (at (goal.at.overflow_shl-word c).In-Some))

pub overflow_add-flips : goal.overflow_add-flips
overflow_add-flips c =
    let p = c.args.p in
    let t = took_here (goal.at.overflow_add-flips c).In-Some in
    record { fits = omega (arith, left_fits (plan_of p) p.fits _ _ _ _ c.loop-i.invariant _ _ t) }

pub loop-i-preserved : goal.loop-i-preserved
unfolding ◌⊕◌
loop-i-preserved c =
    let p = c.args.p in
    let i = (goal.at.loop-i-preserved c).In-Some in
    let k : c.position_at-position.result.0 < 64 = omega (arith, found _ _ c.position_at-position.ensures (at i)) in
    rw (one-mul, mod-eq_of_lt (pow-lt k), c.position_at-position.ensures)
    (left_turn (plan_of p) p.fits _ _ _ _ c.loop-i.invariant _ _ (took_here i))

pub returns : goal.returns
returns c =
    let p = c.args.p in
    left_end (plan_of p) p.fits _ _ _ _ c.loop-i.invariant c.args.distance c.requires.1
    (took_none _ _ _ c.in-None.is c.next.ensures.steps)
