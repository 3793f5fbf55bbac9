-- `table::symbol_table` meets its contract. Assumes nothing.
use mathlib.Core.Path.{◌≡◌, ap, subst, ◌∙◌}
use mathlib.Core.List.{List}
use Prim.Native.Nat.{ℕ, ◌+◌, ◌-◌, ◌*◌, ◌<◌, ◌≤◌}
use native.Mathlib.Omega.{arith}
use borrow.Author.Rules.{rules}
use lib.ListN.{length, get_or, take, drop, length-take, length-drop}
use Rattle.std.proofs.lemmas.List.{get_or-take, get_or-drop}
use Rattle.field.specs.Field.{alpha_to, length_of}
use Rattle.field.proofs.FieldLaws.{laws}
use Rattle.codes.specs.Lagrange.{Places}
use Rattle.codes.proofs.ShapeLaws.{length_small, length_large}
use Rattle.exponents.specs.Exponent.{Powers, Zech}
use Rattle.ranks.specs.declared.Position.{Position}
use Rattle.ranks.specs.Places.{place_in}
use Rattle.table.specs.Exponents.{outside_of, cell_exponent}
use Rattle.table.specs.Table.{CellExponents, Numbered, Cells}
use Rattle.table.proofs.ExponentLaws.{cells_same, cell_power}
use Rattle.table.proofs.symbol_table.Invariants.{Columns}
use Rattle.table.proofs.symbol_table.Goals as goal
use Rattle.table.proofs.symbol_table.Goals.{In-loop-j}

-- columns go by the positions of their ranks alone
columns_same : (powers exponents : List ℕ) (place other : ℕ → ℕ) (size : ℕ) (l : List ℕ) → ((j : ℕ) → j < size → place j ≡ other j)
    → Columns powers exponents place size l → Columns powers exponents other size l
columns_same powers exponents place other size l same c = record {
  full = c.full;
  cells = λ q i lq li. c.cells q i lq li ∙ ap (λ (p : ℕ). get_or powers (get_or exponents (q * 64 + p) 0) 0) (same i li);
}

-- the powers of the exponents are the cells; V are the places outside in a list of their own
columns_cells : (m n size rows : ℕ) (powers zech exponents : List ℕ) (place V : ℕ → ℕ) (l : List ℕ) → Numbered m n size rows place
    → Powers m powers → Zech m zech → ((v : ℕ) → v < rows → V v ≡ outside_of size place v)
    → CellExponents n zech V rows rows exponents → Columns powers exponents place size l
    → Cells m size rows place l
columns_cells m n size rows powers zech exponents place V l nb pw z here e c o j lo lj =
    let F = laws m nb.m_low nb.m_high in
    let p = place j in
    let U = outside_of size place in
    let lp : p < length_of m = nb.each.inside j (omega (arith, nb.all)) in
    let outside : Places m rows U = record {
      inside = λ v lv. nb.each.inside (size + v) (omega (arith, nb.all));
      apart = λ v w hv hw q. let s = nb.each.apart (size + v) (size + w) (omega (arith, nb.all)) (omega (arith, nb.all)) q in omega arith;
    } in
    let short = length_small m nb.m_low nb.m_high in
    c.cells o j (omega (arith, nb.few)) lj ∙ pw (get_or exponents (o * 64 + p) 0) (e.below (o * 64 + p) (omega (arith, nb.few)))
    ∙ ap (alpha_to m) (e.right o p lo (omega (arith, nb.long)) ∙ cells_same n zech V U rows here o p lo)
    ∙ ap (λ (u : ℕ). alpha_to m (cell_exponent u zech U rows o p)) nb.long
    ∙ cell_power m F rows zech U z outside short o p lo lp
    (λ v lv ne q. let s : j ≡ size + v = nb.each.apart j (size + v) (omega (arith, nb.all)) (omega (arith, nb.all)) q in omega arith)

-- the ranges of every code
ranges : (m n size rows : ℕ) (place : ℕ → ℕ) → Numbered m n size rows place → (0 < n) × (n ≤ 63) × (size + rows ≤ 63)
ranges m n size rows place nb =
    let small = length_small m nb.m_low nb.m_high in
    let large = length_large m nb.m_low nb.m_high in
    let e = nb.long in
    let f = nb.all in
    (omega arith, omega arith, omega arith)

-- a part of the order
module _ (order : List Position) (size rows : ℕ) where
  abbrev unset : Position
  unset = record { 0 = 0 }

  abbrev outside : List Position
  outside = take (size + rows - size) (drop size order)

  outside_length : size + rows ≤ length order → length outside ≡ rows
  outside_length h = omega (arith, length-take (size + rows - size) (drop size order), length-drop size order)

  outside_place : (v : ℕ) → v < rows → place_in outside v ≡ outside_of size (place_in order) v
  outside_place v l =
      ap (λ (q : Position). q.0) (get_or-take (size + rows - size) (drop size order) v unset (omega arith) ∙ get_or-drop size order v unset)

  reliable_place : (j : ℕ) → j < size → place_in (take size order) j ≡ place_in order j
  reliable_place j l = ap (λ (q : Position). q.0) (get_or-take size order j unset l)

pub invariant_of-logs : goal.invariant_of-logs
invariant_of-logs c =
    let a = c.args in
    let p = c.requires in
    let r = ranges a.m a.n a.size a.rows (place_in a.order) p in
    record { some = r.0; short = r.1; below = λ i l. omega (arith, (c.zech-zech.ensures i l).0, p.long) }

pub shared_ref_as_front-reliable : goal.shared_ref_as_front-reliable
shared_ref_as_front-reliable c =
    let a = c.args in
    omega (arith, (ranges a.m a.n a.size a.rows (place_in a.order) c.requires).2)

pub slice_bounds-outside-end : goal.slice_bounds-outside-end
slice_bounds-outside-end c =
    let a = c.args in
    let h : a.size + a.rows ≤ 63 = (ranges a.m a.n a.size a.rows (place_in a.order) c.requires).2 in
    search rules

pub returns : goal.returns
returns c =
    let a = c.args in
    let order = a.order in
    let powers = c.powers-powers in
    let zech = c.zech-zech in
    let exponents = c.cell_exponents-exponents in
    let l = c.loop-j in
    let r = ranges a.m a.n a.size a.rows (place_in order) c.requires in
    let V = place_in (outside order a.size a.rows) in
    let k : length (outside order a.size a.rows) ≡ a.rows = outside_length order a.size a.rows (omega arith) in
    let e : l.j ≡ a.size = omega (arith, length-take a.size order) in
    let columns = subst (λ (u : ℕ). Columns powers.result exponents.result (place_in (take a.size order)) u l.table) e l.invariant in
    columns_cells a.m a.n a.size a.rows powers.result zech.result exponents.result (place_in order) V l.table c.requires
    powers.ensures zech.ensures (outside_place order a.size a.rows)
    (subst (λ (u : ℕ). CellExponents a.n zech.result V u u exponents.result) k exponents.ensures)
    (columns_same _ _ _ _ a.size l.table (reliable_place order a.size a.rows) columns)
