-- `received::hards_of` meets its contract. Assumes nothing.
use mathlib.Core.List.{[], ◌∷◌, ◌++◌}
use mathlib.Core.Path.{◌≡◌, sym, ap, subst, ◌∙◌}
use Prim.Native.Nat.{ℕ, ◌+◌, ◌-◌, ◌*◌, ◌<◌}
use native.Mathlib.Omega.{arith}
use borrow.Author.Rules.{rules}
use lib.IntN.{pos}
use lib.ListN.{length, get_or}
use mir.Syntax.{w8}
use mir.ValLaws.{to_z-of_z}
use Rattle.std.specs.Prelude.{reverse}
use Rattle.std.proofs.lemmas.Iterator.Adapters.{YieldsList-from_rev_slice}
use Rattle.std.proofs.lemmas.Iterator.Consumers.{YieldsList-at, YieldsList-turn, YieldsList-end}
use Rattle.std.proofs.lemmas.List.{length-append, length-reverse, get_or-reverse, get_or_default}
use Rattle.soft.specs.Value.{hard}
use Rattle.codes.proofs.WordSteps.{word_from, word_from_none, word_from_all}
use Rattle.received.proofs.ReceiveSteps.{HardsFrom, hards_lt, next_fits, hards_more}
use Rattle.received.proofs.hards_of.Goals as goal
use Rattle.received.proofs.hards_of.Goals.{In-Some}

-- the value of a turn is the one before those that have come
turn : (c : In-Some)
    → (length c.loop-v.yielded < length c.args.soft.now)
    × (c.in-Some.v.now ≡ get_or c.args.soft.now (length c.args.soft.now - length c.loop-v.yielded - 1) (pos 0))
turn c =
    let soft = c.args.soft.now in
    let k = length c.loop-v.yielded in
    let t : (k < length (reverse soft)) × (c.in-Some.v.now ≡ get_or (reverse soft) k c.in-Some.v.now) =
    YieldsList-turn (YieldsList-at c.into_iter-v-iterator.ensures.into_iter_gives (YieldsList-from_rev_slice soft cc)) c.loop-v.yielded _
    c.loop-v.yielded_by _ _ _ c.in-Some.is c.next.ensures.steps in
    let more : k < length soft = omega (arith, t.0, length-reverse soft) in (
      more,
      t.1 ∙ get_or-reverse soft k _ more ∙ get_or_default soft _ _ (pos 0) (omega arith)
          ∙ ap (λ (i : ℕ). get_or soft i (pos 0)) (omega arith),
    )

pub loop-v-init : goal.loop-v-init
loop-v-init c =
    let soft = c.args.soft.now in
    let e : length soft - 0 ≡ length soft = omega arith in
    (omega arith, sym (ap (word_from (length soft) (hard soft)) e ∙ word_from_none (length soft) (hard soft)))

pub overflow_mul-hards : goal.overflow_mul-hards
overflow_mul-hards c =
    let l = c.loop-v in
    omega (arith, hards_lt c.args.soft.now _ l.hards l.invariant c.requires)

pub overflow_add-hards : goal.overflow_add-hards
overflow_add-hards c =
    let l = c.loop-v in
    let t = turn (goal.at.overflow_add-hards c).In-Some in
    record {
      fits = next_fits c.args.soft.now _ l.hards l.invariant _ c.from.result (omega (arith, t.0))
          (to_z-of_z w8 c.in-Some.v.now (search rules) ∙ t.1) (c.from.ensures ∙ c.hard_decision.ensures) c.requires;
    }

pub loop-v-preserved : goal.loop-v-preserved
loop-v-preserved c =
    let l = c.loop-v in
    let soft = c.args.soft.now in
    let t = turn (goal.at.loop-v-preserved c).In-Some in
    let e : length soft - length l.yielded - 1 ≡ length soft - length (l.yielded ++ c.in-Some.v ∷ []) =
    omega (arith, length-append l.yielded (c.in-Some.v ∷ [])) in
    subst (λ (p : ℕ). HardsFrom soft p (l.hards * 2 + c.from.result)) e
    (hards_more soft _ l.hards l.invariant _ c.from.result (omega (arith, t.0))
    (to_z-of_z w8 c.in-Some.v.now (search rules) ∙ t.1) (c.from.ensures ∙ c.hard_decision.ensures))

pub returns : goal.returns
returns c =
    let l = c.loop-v in
    let soft = c.args.soft.now in
    let end = YieldsList-end (YieldsList-at c.into_iter-v-iterator.ensures.into_iter_gives (YieldsList-from_rev_slice soft cc)) l.yielded _
    l.yielded_by _ _ c.in-None.is c.next.ensures.steps in
    let e : length soft - length l.yielded ≡ 0 = omega (arith, end.1, length-reverse soft) in
    l.invariant.1 ∙ ap (word_from (length soft) (hard soft)) e ∙ word_from_all (length soft) (hard soft)
