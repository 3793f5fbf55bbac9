-- `table::products::Logs::of_positions` meets its contract. Assumes nothing.
use mathlib.Core.Path.{◌≡◌, ap, subst, ◌∙◌}
use mathlib.Core.List.{List}
use Prim.Native.Nat.{ℕ, ◌+◌, ◌-◌, ◌%◌, ◌<◌, ◌≤◌}
use native.Mathlib.Nat.{mod-lt}
use native.Mathlib.Numerals.{add-one}
use native.Mathlib.Omega.{arith}
use lib.ListN.{get_or}
use Rattle.ranks.specs.Places.{place_in}
use Rattle.table.specs.Exponents.{AddsRun, zech_at, exponent_of, Exponents}
use Rattle.table.proofs.products.Logs.of_positions.Goals as goal

-- one run more, that of the place of row v
exponents_more : (n : ℕ) (zech : List ℕ) (U : ℕ → ℕ) (v : ℕ) (before after : List ℕ) → 0 < n → n ≤ 63
    → Exponents n zech U v before → (from : ℕ) → from ≡ n - U v → AddsRun n from zech before after
    → Exponents n zech U (v + 1) after
unfolding exponent_of
exponents_more n zech U v before after some short e from here added =
    let run = subst (λ (x : ℕ). AddsRun n x zech before after) here added in
    record {
      below = λ p l. let h = run.sums p l in omega (arith, mod-lt (get_or before p 0 + zech_at n zech U v p) some);
      right = λ p l. rw add-one (run.sums p (omega arith) ∙ ap (λ (x : ℕ). (x + zech_at n zech U v p) % n) (e.right p l));
    }

pub loop-place-init : goal.loop-place-init
unfolding exponent_of
loop-place-init c =
    let start = c.positions-list.ensures in
    (start.full, record { below = start.below; right = λ p l. start.own p l })

pub loop-place-preserved : goal.loop-place-preserved
loop-place-preserved c =
    let a = c.args in
    let l = c.loop-place in (
      c.add_run.ensures.full,
      exponents_more a.self.n a.self.zech.now (place_in a.outside.now) l.place-index l.list _
          a.self.some a.self.short l.invariant.1
          _ c.from.ensures c.add_run.ensures,
    )
