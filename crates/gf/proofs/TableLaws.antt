-- A table of a field's inverses is right at every entry, where one test over the whole table passes. Assumes nothing.
use mathlib.Core.Path.{◌≡◌, sym, ap, subst, ◌∙◌}
use mathlib.Core.Bool.{Bool, ◌&&◌}
use mathlib.Core.List.{List}
use Prim.Native.Nat.{ℕ, zero, suc, ◌^◌, ◌<◌, ◌≤◌}
use native.Mathlib.Omega.{arith}
use lib.Dec.{T, eqb, eqb→eq, ltb, ltb→lt}
use lib.ListN.{get_or}
use Rattle.field.specs.Below.{all}
use Rattle.field.specs.Field.{times, inverse_of}
use Rattle.field.specs.Laws.{Laws}
use Rattle.field.proofs.TestLaws.{and_left, and_right, below}
use Rattle.field.proofs.FieldLaws.{laws}
use Rattle.field.proofs.RingLaws.{inverse_only}

-- y is 0 where x is, else an element whose product with x is 1
abbrev inverts : ℕ → ℕ → ℕ → Bool
inverts m zero y = eqb y 0
inverts m (suc x) y = ltb y (2 ^ m) && eqb (times m (suc x) y) 1

-- the test: each entry inverts the element at which it stands; one product an entry, where inverse_of would search
abbrev pub table_inverts : ℕ → List ℕ → Bool
table_inverts m t = all (2 ^ m) (λ x. inverts m x (get_or t x 0))

-- an element is one of the table's places
in_field : (k m x : ℕ) → m ≡ k → x < 2 ^ m → x < 2 ^ k
in_field k m x e = subst (λ (u : ℕ). x < 2 ^ u) e

-- what passes at an element is its inverse
inverts_only : (m x y : ℕ) → Laws m → x < 2 ^ m → T (inverts m x y) → y ≡ inverse_of m x
inverts_only m zero y F h t = eqb→eq y 0 t ∙ sym F.inverse_zero
inverts_only m (suc x) y F h t =
    let product = eqb (times m (suc x) y) 1 in
    inverse_only m F (suc x) y h (ltb→lt y (2 ^ m) (and_left (ltb y (2 ^ m)) product t)) (λ e. omega arith)
    (eqb→eq (times m (suc x) y) 1 (and_right (ltb y (2 ^ m)) product t))

-- a table that passes for k holds the inverses of the field where m is k
pub table_inverse : (k : ℕ) (t : List ℕ) → T (table_inverts k t) → (m x : ℕ) → m ≡ k → 4 ≤ m → m ≤ 6 → x < 2 ^ m → get_or t x 0
    ≡ inverse_of m x
table_inverse k t passes m x e l h lt =
    let in_table : x < 2 ^ k = in_field k m x e lt in
    inverts_only k x (get_or t x 0) (laws k (omega arith) (omega arith)) in_table
    (below (2 ^ k) (λ x. inverts k x (get_or t x 0)) passes x in_table)
    ∙ ap (λ (u : ℕ). inverse_of u x) (sym e)
