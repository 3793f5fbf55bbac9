-- `cut::first_space` meets its contract. Assumes nothing.
use mathlib.Core.Path.{◌≡◌, sym, subst}
use mathlib.Core.Logic.{◌≢◌}
use native.Mathlib.Omega.{arith}
use lib.ListN.{take}
use Rattle.std.proofs.Common.{rules, tests}
use Rattle.std.proofs.lemmas.Iterator.{YieldsList-from_slice, IsFirst-from_position}
use Rattle.std.proofs.lemmas.List.{take_all}
use Rattle.items.specs.Cut.{FirstSpace}
use Rattle.items.proofs.cut.first_space.Goals as goal

pub returns-then-text-lt5-clause-first : goal.returns-then-text-lt5-clause-first
returns-then-text-lt5-clause-first c =
    let text = c.args.text.now in
    subst (λ s. FirstSpace s c.position.result) (sym (take_all 5 text (omega arith)))
    (IsFirst-from_position _ _ _ (λ x. x ≡ 32) (λ x. x ≢ 32) c.position.ensures.ran (YieldsList-from_slice text (cc))
    (λ x q k. search (rules, tests)) (λ x q k. search (rules, tests)))

pub returns-else-text-lt5-clause-first : goal.returns-else-text-lt5-clause-first
returns-else-text-lt5-clause-first c =
    IsFirst-from_position _ _ _ (λ x. x ≡ 32) (λ x. x ≢ 32) c.position-else-text-lt5.ensures.ran
    (YieldsList-from_slice (take 5 c.args.text.now) (cc)) (λ x q k. search (rules, tests)) (λ x q k. search (rules, tests))
