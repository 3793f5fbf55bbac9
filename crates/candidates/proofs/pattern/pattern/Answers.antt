-- `pattern` meets its contract. In each turn of the inner loop the lowest flip that is left goes into the symbol; in each turn of the
-- outer one a symbol that is 0 or 1 goes into `bits`; at any other both are left. Assumes nothing.
use mathlib.Core.Path.{◌≡◌, refl, sym, ap, subst, ◌∙◌}
use Prim.Native.Nat.{ℕ, ◌<◌}
use native.Mathlib.Omega.{arith}
use Rattle.std.specs.Prelude.{Option, Some, MatchOption}
use Rattle.std.proofs.lemmas.Option.{none-some, MatchOption-at_some}
use Rattle.field.specs.Field.{◌⊕◌}
use Rattle.search.specs.Best.{better}
use Rattle.search.specs.ByRank.{rank_weighed, rank_symbol}
use Rattle.prepare.specs.Ones.{Took}
use Rattle.prepare.specs.PlanOf.{plan_of}
use Rattle.prepare.proofs.OnesLaws.{took, took_none}
use Rattle.candidates.specs.As.{as_best}
use Rattle.candidates.proofs.PatternSteps.{summed_start, summed_turn, summed_low, summed_end, Binary, binary_start}
use Rattle.candidates.proofs.PatternSteps.{binary_turn, tried_not, tried_is, differing_is, differing_lt}
use Rattle.candidates.proofs.pattern.pattern.Goals as goal
use Rattle.candidates.proofs.pattern.pattern.Goals.{In-Some, In_default, In-Some-bits}
use Rattle.candidates.proofs.pattern.pattern.Goals.{then-loop-q-test+in_default+then-symbol-gt1, else-loop-q-test}

-- in a turn of the inner loop: the lowest flip that is left is a rank of the reliable set
took_here : (c : In-Some) → Took c.loop-rank.left.0 c.in-Some.rank c.next.new.self.0
took_here c = took _ _ _ _ c.in-Some.is c.next.ensures.steps

low : (c : In-Some) → c.in-Some.rank < 61
low c = let p = c.args.p in summed_low (plan_of p) p.fits _ _ _ _ c.loop-rank.invariant _ _ (took_here c)

-- after the inner loop: the symbol is whole
symbol : (c : In_default) → c.loop-rank.symbol ≡ rank_symbol (plan_of c.args.p) c.args.flips c.loop-q.q
symbol c =
    let p = c.args.p in
    summed_end (plan_of p) p.fits _ _ _ _ c.loop-rank.invariant (took_none _ _ _ c.in_default.is c.next.ensures.steps)

-- what is there is one number
same : (o : Option ℕ) (a b : ℕ) → o ≡ Some a → o ≡ Some b → a ≡ b
same o a b e f = MatchOption-at_some ⊥ (λ k. a ≡ k) b f (subst (λ x. MatchOption x ⊥ (λ k. a ≡ k)) (sym e) refl)

-- after both loops, which the label did not leave: every symbol is a bit
whole : (c : In-Some-bits) → Binary (plan_of c.args.p) c.args.flips c.in-Some-bits.bits c.args.p.rows
whole c =
    elim c.loop-q-test.branch [
      | then-loop-q-test+in_default+then-symbol-gt1 w ↦ absurd (none-some _ (sym w.bits-is ∙ c.in-Some-bits.is))
      | else-loop-q-test w ↦
          let o = c.loop-q in
          let end : o.q ≡ c.args.p.rows = omega (arith, w.loop-q-test.false, o.invariant.most) in
          let e : o.bits ≡ c.in-Some-bits.bits = same _ _ _ w.bits-is c.in-Some-bits.is in
          rw (end, e) at o.invariant
    ]

pub loop-q-init : goal.loop-q-init
loop-q-init c = binary_start (plan_of c.args.p) c.args.flips

pub bounds-base-q : goal.bounds-base-q
bounds-base-q c = omega (arith, c.args.p.fits.rows)

pub loop-rank-init : goal.loop-rank-init
loop-rank-init c = summed_start (plan_of c.args.p) _ _ c.requires.1

pub loop-rank-preserved : goal.loop-rank-preserved
unfolding ◌⊕◌
loop-rank-preserved c =
    let p = c.args.p in
    rw c.requires.0 (summed_turn (plan_of p) p.fits _ _ _ _ c.loop-rank.invariant _ _ (took_here (goal.at.loop-rank-preserved c).In-Some))

pub bounds-symbols-q : goal.bounds-symbols-q
bounds-symbols-q c = omega (arith, low (goal.at.bounds-symbols-q c).In-Some, c.args.p.fits.rows)

pub loop-q-preserved : goal.loop-q-preserved
unfolding ◌⊕◌
loop-q-preserved c =
    let p = c.args.p in
    binary_turn (plan_of p) p.fits c.args.flips c.loop-q.bits c.loop-q.q c.loop-rank.symbol c.loop-q.invariant c.loop-q-test.true
    (symbol (goal.at.loop-q-preserved c).In_default) c.if-symbol-gt1.false

-- a symbol other than 0 or 1 ends it
pub returns-in_default-bits : goal.returns-in_default-bits
returns-in_default-bits c =
    let p = c.args.p in
    elim c.loop-q-test.branch [
      | then-loop-q-test+in_default+then-symbol-gt1 w ↦
          let e = summed_end (plan_of p) p.fits _ _ _ _ w.loop-rank.invariant (took_none _ _ _ w.in_default.is w.next.ensures.steps) in
          sym (tried_not (plan_of p) c.args.flips c.loop-q.q (as_best c.args.best.now) w.loop-q-test.true
          (subst (λ (x : ℕ). 1 < x) e w.if-symbol-gt1.true))
      | else-loop-q-test w ↦ absurd (c.in_default-bits.not-Some _ w.bits-is)
    ]

pub candidate-requires : goal.candidate-requires
unfolding ◌⊕◌
candidate-requires c =
    let p = c.args.p in
    let f = c.args.flips in
    let b = c.in-Some-bits.bits in
    let w = whole (goal.at.candidate-requires c).In-Some-bits in
    (rw (differing_is (plan_of p) p.fits f b w) (differing_lt (plan_of p) p.fits f b w c.requires.1), c.requires.2)

pub returns : goal.returns
unfolding ◌⊕◌
returns c =
    let p = c.args.p in
    let f = c.args.flips in
    let b = c.in-Some-bits.bits in
    let x = as_best c.args.best.now in
    let w = whole (goal.at.returns c).In-Some-bits in
    c.candidate.ensures ∙ ap (λ (g : ℕ). better x (rank_weighed (plan_of p) g)) (differing_is (plan_of p) p.fits f b w)
    ∙ sym (tried_is (plan_of p) p.fits f b w x)
