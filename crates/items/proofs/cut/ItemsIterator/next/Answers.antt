-- `next` of `cut::Items` meets its contract. Assumes nothing.
use mathlib.Core.Path.{ap, ◌∙◌}
use native.Mathlib.Omega.{arith}
use lib.ListN.{length}
use Rattle.std.proofs.lemmas.Option.{MatchOption-at_some, MatchOption-at_none}
use Rattle.items.specs.Cut.{left_of}
use Rattle.items.proofs.CutLaws.{cut_found, cut_none}
use Rattle.items.proofs.cut.ItemsIterator.next.Goals as goal

pub returns-in-Some-clause-steps : goal.returns-in-Some-clause-steps
returns-in-Some-clause-steps c =
    let f = MatchOption-at_some _ _ c.in-Some.end c.in-Some.is c.first_space.ensures.first in
    ap left_of c.in_ok-text.was ∙ cut_found c.in_ok-text.text.now c.in-Some.end f.0 (f.1 0) (λ k i. f.2 k 0 (omega arith) i)

pub returns-in-Some-clause-goes : goal.returns-in-Some-clause-goes
returns-in-Some-clause-goes c =
    let f = MatchOption-at_some _ _ c.in-Some.end c.in-Some.is c.first_space.ensures.first in
    let e = cut_found c.in_ok-text.text.now c.in-Some.end f.0 (f.1 0) (λ k i. f.2 k 0 (omega arith) i) in
    record { on = λ _. (tt, tt, omega (arith, ap length (ap left_of c.in_ok-text.was ∙ e))); keeps = tt; rests = λ _. tt }

pub returns-in-None-clause-steps : goal.returns-in-None-clause-steps
returns-in-None-clause-steps c =
    let f = MatchOption-at_none _ _ c.in-None.is c.first_space.ensures.first in
    ap left_of c.in_ok-text.was ∙ cut_none c.in_ok-text.text.now c.min.result c.min.ensures (λ k i. f k 0 (omega arith) i)

pub returns-in-None-clause-goes : goal.returns-in-None-clause-goes
returns-in-None-clause-goes c =
    let f = MatchOption-at_none _ _ c.in-None.is c.first_space.ensures.first in
    let e = cut_none c.in_ok-text.text.now c.min.result c.min.ensures (λ k i. f k 0 (omega arith) i) in
    record { on = λ _. (tt, tt, omega (arith, ap length (ap left_of c.in_ok-text.was ∙ e))); keeps = tt; rests = λ _. tt }
