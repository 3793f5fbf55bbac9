-- `roots::lowest_power` meets its contract. The loop's invariant: e is odd, and the word is zero at every power below it. At the even power
-- after e it is zero too, since the lowest power at which a word is not zero is odd. Assumes nothing.
use mathlib.Core.Path.{◌≡◌, sym, ap, ◌∙◌, subst}
use mathlib.Core.Logic.{⊎_elim}
use Prim.Native.Nat.{ℕ, suc, ◌+◌, ◌*◌, ◌%◌, ◌<◌, ◌≤◌}
use native.Mathlib.Nat.{eq-or-lt_of_le, le_of_suc-le-suc}
use native.Mathlib.Decide.{ℕ_discrete}
use native.Mathlib.Omega.{arith}
use Rattle.field.specs.Lowest.{lowest_of}
use Rattle.field.proofs.LowestLaws.{lowest_at}
use Rattle.codes.specs.Codeword.{bit_of, value_at}
use Rattle.codes.proofs.ClaimsShown.{faulty_powers_are_odd}
use Rattle.roots.proofs.lowest_power.Invariants.{ZeroBelow}
use Rattle.roots.proofs.lowest_power.Goals as goal
use Rattle.roots.proofs.lowest_power.Goals.{else-loop-e-test, then-loop-e-test+else-value_at-ne0+else-e-end-e-gt2}

one_more : (f : ℕ → ℕ) (e : ℕ) → ZeroBelow f e → f e ≡ 0 → ZeroBelow f (suc e)
one_more f e h z i l k = ⊎_elim (λ (q : i ≡ e). ap f q ∙ z) (λ (m : i < e). h i l m) (eq-or-lt_of_le (le_of_suc-le-suc k))

module _ (m w : ℕ) (low : 4 ≤ m) (high : m ≤ 6) where
  abbrev f : ℕ → ℕ
  f = value_at m (bit_of w)

  -- "Evaluating at odd powers alone is right"
  even_zero : (e : ℕ) → e % 2 ≡ 0 → 1 ≤ e → ZeroBelow f e → f e ≡ 0
  even_zero e even l h = go (ℕ_discrete (f e) 0)
    where
      go : Dec (f e ≡ 0) → f e ≡ 0
      go (yes z) = z
      go (no n) =
          let odd = faulty_powers_are_odd m low high w e e (record { low = l; high = omega arith; nonzero = n; lower = h }) in
          absurd (omega arith)

  two_more : (e : ℕ) → e % 2 ≡ 1 → ZeroBelow f e → f e ≡ 0 → ZeroBelow f (e + 2)
  two_more e odd h z =
      let k = one_more f e h z in
      let two : suc (suc e) ≡ e + 2 = omega arith in
      subst (ZeroBelow f) two (one_more f (suc e) k (even_zero (suc e) (omega arith) (omega arith) k))

-- where no odd power is left, the word is zero at all of 1, .., 2t
none : (f : ℕ → ℕ) (t e : ℕ) → e ≡ 1 + 2 * t → ZeroBelow f e → 2 * t + 1 ≡ lowest_of 1 (2 * t) f
none f t e q h = omega arith ∙ sym q ∙ sym (lowest_at f 1 (2 * t) e (omega arith) (omega arith) h (λ k. absurd (omega arith)))

pub returns-then-value_at-ne0 : goal.returns-then-value_at-ne0
returns-then-value_at-ne0 c =
    let l = c.loop-e in
    sym (lowest_at (value_at c.args.m (bit_of c.args.word)) 1 (2 * c.args.t) l.e (omega arith) (omega arith) l.invariant.2
    (λ _ z. c.if-value_at-ne0.true (c.value_at.ensures ∙ z)))

pub loop-e-preserved : goal.loop-e-preserved
loop-e-preserved c =
    let l = c.loop-e in
    let m = c.args.m in (
      omega arith,
      omega arith,
      two_more m c.args.word (omega arith) (omega arith) l.e l.invariant.0 l.invariant.2 (sym c.value_at.ensures ∙ c.if-value_at-ne0.false),
    )

pub returns : goal.returns
returns c =
    let l = c.loop-e in
    let m = c.args.m in
    let t = c.args.t in
    elim c.loop-e-test.branch [
      | else-loop-e-test w ↦ none (value_at m (bit_of c.args.word)) t l.e (omega arith) l.invariant.2
      | then-loop-e-test+else-value_at-ne0+else-e-end-e-gt2 w ↦ none (value_at m (bit_of c.args.word)) t (l.e + 2) (omega arith)
          (two_more m c.args.word (omega arith) (omega arith) l.e l.invariant.0 l.invariant.2
          (sym w.value_at.ensures ∙ w.if-value_at-ne0.false))
    ]
