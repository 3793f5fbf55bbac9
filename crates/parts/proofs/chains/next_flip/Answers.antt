-- `next_flip` meets its contract. Assumes nothing.
use mathlib.Core.Path.{◌≡◌, sym, ap, subst, ◌∙◌}
use mathlib.Core.Logic.{⊎_elim}
use mathlib.Core.List.{List}
use Prim.Native.Nat.{ℕ, ◌+◌, ◌-◌, ◌≤◌, ◌<◌}
use native.Mathlib.Nat.{eq-or-lt_of_le}
use native.Mathlib.Omega.{arith}
use lib.ListN.{get_or}
use Rattle.field.specs.Field.{◌⊕◌}
use Rattle.parts.specs.Chains.{slot_of, last_in, Shut, Next}
use Rattle.parts.proofs.ChainLaws.{last_le}
use Rattle.parts.proofs.chains.next_flip.Invariants.{Passed}
use Rattle.parts.proofs.chains.next_flip.Goals as goal
use Rattle.parts.proofs.chains.next_flip.Goals.{After-from, then-after-eq0-via-then-after-eq0}
use Rattle.parts.proofs.chains.next_flip.Goals.{then-after-eq0-via-else-after-eq0+then-j-chains}

-- with one flip left: it was looked up
looked : (parts chains : List ℕ) (part from to may r : ℕ) → from ≤ to → may ≡ 1 → r ≡ from + (last_in parts to (slot_of part) - from)
    → Next parts chains part from to may r
looked parts chains part from to may r fits one e = record {
  low = omega arith;
  high = omega (arith, last_le parts to (slot_of part));
  one = λ _. e;
  two = λ two. absurd (omega arith);
  some = λ two. absurd (omega arith);
  more = λ more. absurd (omega arith);
}

-- with two: those from r on were walked over
walked : (parts chains : List ℕ) (part from to may r : ℕ) → (may ≡ 1 → ⊥) → may ≤ 2 → Passed parts chains part from to r
    → (from < r → Shut chains r (part ⊕ get_or parts (r - 1) 0) → ⊥) → Next parts chains part from to may r
walked parts chains part from to may r other few passed some = record {
  low = passed.0;
  high = passed.1;
  one = λ one. absurd (other one);
  two = λ _. passed.2;
  some = λ _. some;
  more = λ more. absurd (omega arith);
}

-- the part that a turn looks at
looked_at : (c : After-from)
    → c.args.part ⊕ get_or c.args.parts.now c.from.result 0
    ≡ c.args.part ⊕ get_or c.args.parts.now (c.loop-j.j - 1) 0
looked_at c = ap (λ (x : ℕ). c.args.part ⊕ get_or c.args.parts.now x 0) c.from.ensures

pub returns-then-may-eq1 : goal.returns-then-may-eq1
returns-then-may-eq1 c =
    let e = c.requires.4 c.if-may-eq1.true in
    looked _ _ _ _ _ _ _ c.requires.0 c.if-may-eq1.true (omega (arith, e))

pub returns-then-after-eq0 : goal.returns-then-after-eq0
unfolding ◌⊕◌
returns-then-after-eq0 c =
    let s = c.args in
    let at = looked_at (goal.at.returns-then-after-eq0 c).After-from in
    let e : c.loop-j.j ≡ c.loop-j.j - 1 + 1 = omega arith in
    subst (λ (r : ℕ). Next s.parts.now s.chains.now s.part s.from.0 s.to.0 s.may r) e
    (walked _ _ _ _ _ _ _ c.if-may-eq1.false c.if-may-gt2.false c.loop-j.invariant
    (λ _ shut. elim c.then-after-eq0.branch [
      | then-after-eq0-via-then-after-eq0 w ↦ shut.some (sym at ∙ w.if-after-eq0.true)
      | then-after-eq0-via-else-after-eq0+then-j-chains w ↦
          let head = ap (λ (x : ℕ). get_or s.chains.now x 0) (w.slot.ensures.0 ∙ ap slot_of at) in
          absurd (omega (arith, w.if-j-chains.true, shut.none, head))
    ]))

pub loop-j-preserved : goal.loop-j-preserved
unfolding ◌⊕◌
loop-j-preserved c =
    let l = c.loop-j in
    let s = c.args in
    let at = looked_at (goal.at.loop-j-preserved c).After-from in
    let here : Shut s.chains.now (l.j - 1 + 1) (s.part ⊕ get_or s.parts.now (l.j - 1) 0) = record {
      some = λ none. c.if-after-eq0.false (at ∙ none);
      none = omega (arith, c.if-j-chains.false, ap (λ (x : ℕ). get_or s.chains.now x 0) (c.slot.ensures.0 ∙ ap slot_of at));
    } in
    let shut : ℕ → Type 0 = λ x. Shut s.chains.now (x + 1) (s.part ⊕ get_or s.parts.now x 0) in
    (omega arith, omega arith, λ i a b. ⊎_elim (λ same. subst shut same here) (λ more. l.invariant.2 i (omega arith) b) (eq-or-lt_of_le a))
