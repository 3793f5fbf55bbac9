-- `Best::stays` meets its contract. Each arm is the definition at the tests that led there. Assumes nothing.
use mathlib.Core.Path.{◌≡◌, refl, sym, ◌∙◌}
use mathlib.Core.Bool.{Bool, true, false, ◌||◌}
use Prim.Native.Nat.{ℕ}
use native.Mathlib.Nat.{le_of_eq}
use borrow.Author.Tests.{eq-eqb, ne_eqb, le-ltb}
use Rattle.search.specs.Best.{stays}
use Rattle.candidates.proofs.best.Best.stays.Goals as goal

or-false : (t : Bool) → (t || false) ≡ t
or-false true = refl
or-false false = refl

pub returns-in-Some : goal.returns-in-Some
unfolding stays
returns-in-Some c =
    let same = c.if-best-c.true in
    simp (c.in-Some.is, le-ltb _ _ (le_of_eq (sym same)), eq-eqb _ _ same)

pub returns-in-Some-2 : goal.returns-in-Some-2
unfolding stays
returns-in-Some-2 c =
    let same : ◌≡◌ {A = ℕ} c.in-Some.best.distance c.in-Some-2.best.distance = cc (c.in-Some.is, c.in-Some-2.is) in
    simp (c.in-Some-2.is, ne_eqb _ _ (λ e. c.if-best-c.false (same ∙ e))) (sym (or-false _))

pub returns-in-None : goal.returns-in-None
unfolding stays
returns-in-None c = simp c.in-None.is
