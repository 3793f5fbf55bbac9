-- Products as sums of exponents: exponents add and may be reduced by n, a sum of two powers is a power by Zech's logarithm, and the
-- power of a cell's exponent is the cell in its short form. Assumes nothing.
use mathlib.Core.Path.{◌≡◌, refl, sym, ap, ap₂, ◌∙◌}
use mathlib.Core.Logic.{◌≢◌}
use mathlib.Core.List.{List}
use Prim.Native.Nat.{ℕ, zero, suc, ◌+◌, ◌-◌, ◌*◌, ◌/◌, ◌%◌, ◌<◌, ◌≤◌}
use native.Mathlib.Nat.{mod-add-div, mod-lt}
use native.Mathlib.Omega.{arith}
use lib.ListN.{get_or}
use Rattle.field.specs.Field.{◌⊕◌, times, alpha_to, length_of}
use Rattle.field.specs.Laws.{Laws}
use Rattle.field.proofs.XorLaws.{xor_self, xor_comm}
use Rattle.field.proofs.RingLaws.{times_zero}
use Rattle.codes.specs.Lagrange.{Places, short_cell}
use Rattle.codes.proofs.RootLaws.{pw_lt, pw_pos, pw_round, differ}
use Rattle.codes.proofs.ShortQuotient.{grown, short_quotient}
use Rattle.exponents.specs.Exponent.{Zech, or_one, one_more}
use Rattle.table.specs.Exponents.{zech_at, exponent_of, cell_exponent}

-- exponents go by the places of the rows alone
module _ (n : ℕ) (zech : List ℕ) (U V : ℕ → ℕ) where
  exponents_same : (k : ℕ) → ((v : ℕ) → v < k → U v ≡ V v) → (p : ℕ) → exponent_of n zech U k p ≡ exponent_of n zech V k p
  unfolding exponent_of
  exponents_same zero same p = refl
  exponents_same (suc k) same p =
      ap₂ (λ (x y : ℕ). (x + y) % n) (exponents_same k (λ v l. same v (omega arith)) p)
      (ap (λ (u : ℕ). get_or zech (n - u + p) 0) (same k (omega arith)))

  pub cells_same : (rows : ℕ) → ((v : ℕ) → v < rows → U v ≡ V v) → (o p : ℕ) → o < rows
      → cell_exponent n zech U rows o p ≡ cell_exponent n zech V rows o p
  unfolding cell_exponent
  cells_same rows same o p l =
      ap₂ (λ (x y : ℕ). x + n - y % n) (exponents_same rows same p)
      (ap₂ ◌+◌ (ap (exponent_of n zech U rows) (same o l) ∙ exponents_same rows same (V o))
      (ap (λ (u : ℕ). get_or zech (n - u + p) 0) (same o l)))

module _ (m : ℕ) (F : Laws m) where
  open F use {one, over_xor, pw_add, pw_n, n_pos}

  abbrev n : ℕ
  n = length_of m

  -- an exponent may be reduced by n
  pub pw_reduced : (i : ℕ) → alpha_to m (i % n) ≡ alpha_to m i
  pw_reduced i =
      sym (ap (alpha_to m) (sym (mod-add-div i n)) ∙ pw_add (i % n) (n * (i / n)) ∙ ap (times m (alpha_to m (i % n))) (pw_round m F (i / n))
      ∙ one (alpha_to m (i % n)) (pw_lt m F (i % n)))

  -- and one more n is none
  pub pw_more : (i : ℕ) → alpha_to m (i + n) ≡ alpha_to m i
  pw_more i = pw_add i n ∙ ap (times m (alpha_to m i)) pw_n ∙ one (alpha_to m i) (pw_lt m F i)

  -- a sum is a product with 1 and a power
  sum_product : (p q : ℕ) → q ≤ n → alpha_to m p ⊕ alpha_to m q ≡ times m (alpha_to m q) (1 ⊕ alpha_to m (n - q + p))
  sum_product p q h =
      let e : q + (n - q + p) ≡ p + n = omega arith in
      xor_comm (alpha_to m p) (alpha_to m q)
      ∙ ap₂ ◌⊕◌ (sym (one (alpha_to m q) (pw_lt m F q))) (sym (sym (pw_add q (n - q + p)) ∙ ap (alpha_to m) e ∙ pw_more p))
      ∙ sym (over_xor (alpha_to m q) 1 (alpha_to m (n - q + p)))

  or_one_lem : (x : ℕ) → x ≢ 0 → or_one x ≡ x
  or_one_lem zero h = absurd (h refl)
  or_one_lem (suc x) h = refl

  -- so by Zech's logarithm it is a power
  pub sum_of_powers : (p q : ℕ) → p < n → q < n → p ≢ q → alpha_to m p ⊕ alpha_to m q ≡ times m (alpha_to m q) (one_more m (n - q + p))
  sum_of_powers p q hp hq ne =
      let e = sum_product p q (omega arith) in
      e ∙ ap (times m (alpha_to m q)) (sym (or_one_lem (1 ⊕ alpha_to m (n - q + p))
      (λ z. differ m F p q hp hq ne (e ∙ ap (times m (alpha_to m q)) z ∙ times_zero m F (alpha_to m q)))))

  pub one_more_none : (q : ℕ) → q ≤ n → one_more m (n - q + q) ≡ 1
  one_more_none q h =
      let e : n - q + q ≡ n = omega arith in
      ap (λ (u : ℕ). or_one (1 ⊕ u)) (ap (alpha_to m) e ∙ pw_n) ∙ ap or_one (xor_self 1)

  module _ (rows : ℕ) (zech : List ℕ) (U : ℕ → ℕ) (rule : Zech m zech) (outside : Places m rows U) (short : n ≤ 63) where
    -- 1 + a^(p-u) for the place u of row v, but where that is 0
    abbrev B : ℕ → ℕ → ℕ
    B p v = alpha_to m (zech_at n zech U v p)

    abbrev E : ℕ → ℕ → ℕ
    E = exponent_of n zech U

    inside : (v : ℕ) → v < rows → U v < n
    inside v l = outside.inside v l

    zech_is : (p v : ℕ) → p < n → v < rows → B p v ≡ one_more m (n - U v + p)
    zech_is p v hp hv = (rule (n - U v + p) (omega arith)).1

    exponent_grown : (k p : ℕ) → alpha_to m (E k p) ≡ grown m (B p) (alpha_to m (p * 1)) k
    unfolding exponent_of grown
    exponent_grown zero p = ap (alpha_to m) (omega arith)
    exponent_grown (suc k) p =
        pw_reduced (E k p + zech_at n zech U k p) ∙ pw_add (E k p) (zech_at n zech U k p)
        ∙ ap (λ (u : ℕ). times m u (B p k)) (exponent_grown k p)

    -- the exponent of a cell: a difference that n keeps from going below 0
    pub cell_power : (o p : ℕ) → o < rows → p < n → ((v : ℕ) → v < rows → v ≢ o → p ≢ U v)
        → alpha_to m (cell_exponent n zech U rows o p) ≡ short_cell m 1 rows U o p
    unfolding cell_exponent
    cell_power o p ho hp other =
        let own = E rows (U o) in
        let z = zech_at n zech U o p in
        let y = (own + z) % n in
        let w = E rows p + n - y in
        let low : y < n = mod-lt (own + z) n_pos in
        let back : w + y ≡ E rows p + n = omega arith in
        sym (short_quotient m F 1 rows U outside B
        (λ p v. (pw_lt m F (zech_at n zech U v p), pw_pos m F (zech_at n zech U v p)))
        (λ o l. zech_is (U o) o (inside o l) l ∙ one_more_none (U o) (omega (arith, inside o l)))
        (λ p v hp hv ne. sum_of_powers p (U v) hp (inside v hv) ne ∙ ap (times m (alpha_to m (U v))) (sym (zech_is p v hp hv)))
        o ho p (alpha_to m w) hp other (pw_lt m F w)
        (ap (λ (u : ℕ). times m (alpha_to m w) (times m u (alpha_to m z))) (sym (exponent_grown rows (U o)))
        ∙ ap (times m (alpha_to m w)) (sym (pw_add own z) ∙ sym (pw_reduced (own + z)))
        ∙ sym (pw_add w y) ∙ ap (alpha_to m) back ∙ pw_more (E rows p) ∙ exponent_grown rows p))
