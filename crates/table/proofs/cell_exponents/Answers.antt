-- `table::cell_exponents` meets its contract. Assumes nothing.
use mathlib.Core.Path.{◌≡◌, refl, sym, ap₂, subst, ◌∙◌}
use mathlib.Core.Logic.{by_cases}
use mathlib.Core.List.{List}
use Prim.Native.Nat.{ℕ, ◌+◌, ◌-◌, ◌*◌, ◌%◌, ◌<◌, ◌≤◌}
use native.Mathlib.Decide.{ℕ_discrete}
use native.Mathlib.Omega.{arith}
use lib.Dec.{T}
use lib.ListN.{length, get_or}
use Rattle.ranks.specs.Places.{place_in}
use Rattle.table.specs.Exponents.{Outside, zech_at, Exponents, cell_exponent}
use Rattle.table.specs.Table.{PutsRow, CellExponents}
use Rattle.table.proofs.StoreLaws.{zeros, zeros_at}
use Rattle.table.proofs.cell_exponents.Goals as goal

module _ (n rows : ℕ) (zech : List ℕ) (U : ℕ → ℕ) where
  cells_none : (l : List ℕ) → length l ≡ 384 → T (zeros l) → CellExponents n zech U rows 0 l
  cells_none l e t = record { full = e; below = λ i _. omega (arith, zeros_at l t i); right = λ o p l. absurd (omega arith) }

  -- one row more, that of the place x, whose run starts at `from`
  cells_more : n ≤ 63 → Outside n rows U → (q : ℕ) (list before after : List ℕ) → q < rows → Exponents n zech U rows list
      → CellExponents n zech U rows q before → (x from : ℕ) → x ≡ U q → from ≡ n - U q
      → PutsRow n from (get_or list x 0) q zech list before after → CellExponents n zech U rows (q + 1) after
  unfolding cell_exponent
  cells_more short fits q list before after lq e cells x from here start puts = record {
    full = puts.full;
    below = puts.below;
    right = λ o p lo lp.
        let put : PutsRow n (n - U q) (get_or list (U q) 0) q zech list before after =
        subst (λ (y : ℕ). PutsRow n y (get_or list (U q) 0) q zech list before after) start
        (subst (λ (y : ℕ). PutsRow n from (get_or list y 0) q zech list before after) here puts) in
        by_cases (ℕ_discrete o q)
        (λ same. subst (λ (x : ℕ). get_or after (x * 64 + p) 0 ≡ cell_exponent n zech U rows x p) (sym same)
        (put.row p (omega (arith, short))
        ∙ ap₂ (λ (x y : ℕ). x + n - (y + zech_at n zech U q p) % n) (e.right p lp) (e.right (U q) (fits.inside q lq))))
        (λ other. put.rest (o * 64 + p) (omega (arith, short)) ∙ cells.right o p (omega arith) lp);
  }

pub loop-q-init : goal.loop-q-init
loop-q-init c =
    let a = c.args in
    cells_none a.logs.n (length a.outside.now) a.logs.zech.now (place_in a.outside.now) _ refl tt

pub loop-q-preserved : goal.loop-q-preserved
loop-q-preserved c =
    let a = c.args in
    let l = c.loop-q in
    let list = c.of_positions-list in
    cells_more a.logs.n (length a.outside.now) a.logs.zech.now (place_in a.outside.now) a.logs.short c.requires l.q list.result l.table _
    (omega arith) list.ensures l.invariant _ _ c.from.ensures c.from-from.ensures c.put_row.ensures
