-- `keep` and `flip` meet their contracts, as one cycle of calls: what a pattern asks, what each call leaves for the other, and what a turn
-- of keep's loop adds. Assumes nothing.
use mathlib.Core.Path.{◌≡◌, sym, ap, ◌∙◌}
use Prim.Native.Nat.{ℕ, ◌+◌, ◌-◌, ◌≤◌, ◌<◌}
use native.Mathlib.Omega.{arith}
use Rattle.search.specs.ByRank.{tried}
use Rattle.search.specs.Search.{patterns}
use Rattle.search.proofs.SearchSteps.{search_early, patterns_pos}
use Rattle.prepare.specs.PlanOf.{plan_of}
use Rattle.candidates.specs.As.{as_best, most_counted}
use Rattle.candidates.proofs.WeighSteps.{ne_pos}
use Rattle.osd.specs.Inner.BestFrom.{best_from}
use Rattle.osd.proofs.SkipSteps.{made_more, next_slot, kept_start, kept_turn, room}
use Rattle.osd.proofs.patterns.+flip_keep.Goals as goal

-- there is room for one more candidate
one : (count k may : ℕ) → count + patterns k may ≤ most_counted → count < most_counted
one count k may l = omega (arith, l, patterns_pos k may)

pub flip-keep-requires : goal.flip-keep-requires
flip-keep-requires t c =
    let a = c.args in
    let f = c.requires.fits in
    let r = c.requires.rank_lt_size in
    let w = c.with-made.ensures in
    let made = made_more a.p _ _ f.2 a.flips _ a.rank.0 f.1 r.0 w.0 w.1 in
    (omega (arith, r.0), ((f.0, made, λ _. f.2), (omega (arith, r.0), r.2)))

pub keep-returns-then-may-eq0 : goal.keep-returns-then-may-eq0
keep-returns-then-may-eq0 t c =
    let a = c.args in
    c.pattern.ensures
    ∙ sym (ap (λ (n : ℕ). best_from a.p a.rank.0 n a.flips.ranks (as_best a.best)) c.if-may-eq0.true
    ∙ search_early (λ i. i) (tried (plan_of a.p)) (a.p.size - a.rank.0) a.rank.0 a.flips.ranks (as_best a.best))

pub keep-pattern-requires : goal.keep-pattern-requires
keep-pattern-requires t c =
    let f = c.requires.fits in (f.0, f.1.low, one _ _ _ c.requires.rank_le_size.1)

pub keep-loop-end-init : goal.keep-loop-end-init
keep-loop-end-init t c =
    let a = c.args in
    let f = c.requires.fits in
    let n = c.next_flip-end.ensures in
    let some = ne_pos a.may c.if-may-eq0.false in (
      n.low,
      n.high,
      next_slot _ _ _ _ _ _ _ n,
      kept_start a.p _ _ (f.2 some) a.flips.ranks a.flips.part f.1.part a.rank.0 _ a.may _ n some,
    )

pub keep-flip-best-requires : goal.keep-flip-best-requires
keep-flip-best-requires t c =
    let a = c.args in
    let f = c.requires.fits in
    let l = c.loop-end in
    let r = l.end.0 - 1 in
    let some : a.rank.0 < l.end.0 = c.loop-end-test.true in
    let back : l.end.0 ≡ r + 1 = omega arith in
    let low : r < a.p.size = omega (arith, l.invariant.1) in
    let more = ne_pos a.may c.if-may-eq0.false in
    let e = l.invariant.3 (as_best a.best) c.pattern.ensures
    ∙ ap (λ (n : ℕ). best_from a.p n a.may a.flips.ranks (as_best a.best)) back in
    let fits = room a.p a.rank.0 r a.may a.flips.ranks _ _ (omega arith) low (λ z. omega arith) c.requires.rank_le_size.1 e in
    (omega arith, ((f.0, f.1, f.2 more), (low, more, fits)))

pub keep-loop-end-preserved : goal.keep-loop-end-preserved
keep-loop-end-preserved t c =
    let a = c.args in
    let f = c.requires.fits in
    let l = c.loop-end in
    let n = c.next_flip-end-in-loop-end.ensures in
    let some : a.rank.0 < l.end.0 = c.loop-end-test.true in
    let back : l.end.0 ≡ l.end.0 - 1 + 1 = omega arith in
    let more = ne_pos a.may c.if-may-eq0.false in (
      n.low,
      omega (arith, n.high, l.invariant.1),
      next_slot _ _ _ _ _ _ _ n,
      λ x e. kept_turn a.p _ _ (f.2 more) a.flips.ranks a.flips.part f.1.part a.rank.0 (l.end.0 - 1) l.end.0 _ a.may _ _ x back
          l.invariant.1 n more (l.invariant.3 x e) c.flip-best.ensures,
    )
