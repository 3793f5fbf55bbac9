-- A word that is made of its parts is prepared, and its numbers are in their ranges. Assumes nothing.
use mathlib.Core.Path.{◌≡◌, refl, sym, ap, ap₂, subst, ◌∙◌}
use mathlib.Core.List.{List}
use Prim.Native.Nat.{ℕ, ◌+◌, ◌-◌, ◌*◌, ◌/◌, ◌^◌, ◌<◌, ◌≤◌}
use native.Mathlib.Nat.{le_refl}
use native.Mathlib.Omega.{arith}
use lib.IntN.{ℤ}
use lib.ListN.{length, get_or}
use Rattle.field.specs.Field.{length_of}
use Rattle.field.specs.Laws.{Laws}
use Rattle.field.proofs.FieldLaws.{laws}
use Rattle.codes.proofs.ShapeLaws.{length_small, roots_fit}
use Rattle.words.specs.Packing.{unpacked}
use Rattle.codes.specs.Codeword.{bit_of, word_of}
use Rattle.codes.specs.Code.{Known}
use Rattle.codes.specs.Lagrange.{Places, cell}
use Rattle.codes.proofs.WordLaws.{bit_lt, bit_word, word_lt}
use Rattle.codes.proofs.ShortForm.{cell_is_short}
use Rattle.codes.proofs.WordSteps.{word_cong}
use Rattle.soft.specs.Value.{hard}
use Rattle.soft.specs.Sorted.{Sorted}
use Rattle.search.specs.Plan.{Plan, Fits, Prepares}
use Rattle.search.proofs.BestIsNearest.{hard_lt}
use Rattle.ranks.specs.Places.{place_in}
use Rattle.received.specs.Receives.{Receives}
use Rattle.ranks.specs.Ordered.{Ordered}
use Rattle.ranks.specs.declared.Position.{Position}
use Rattle.received.specs.declared.Received.{Received}
use Rattle.ranks.proofs.SortedOrder.{sorted_order}
use Rattle.prepare.specs.Planned.{planned}
use Rattle.prepare.specs.declared.by_rank.ByRank.{ByRank}
use Rattle.prepare.specs.Inner.ByRank.{Gathers, ranked}
use Rattle.table.specs.Table.{Cells}
use Rattle.prepare.specs.Inner.RowSums.{RowSums, row_sum}
use Rattle.prepare.proofs.RankLaws.{word_above}
use Rattle.prepare.proofs.RowSumLaws.{symbol_is}

-- the positions by rank are all positions, each once
pub places_each : (m n : ℕ) → 4 ≤ m → m ≤ 6 → n ≡ length_of m → (soft : List ℤ) (r : Received) → Receives soft r → (order : List Position)
    → Ordered r.reliability n order → Places m n (place_in order)
places_each m n a c long soft r got order o =
    let small : n ≤ 63 = omega (arith, length_small m a c) in
    subst (λ (u : ℕ). Places m u (place_in order)) (sym long) (sorted_order m soft r order got n long small o).order.places

-- what a prepared word has, before it is known to be in its ranges
pub record Fields : Type 0 where
  pub size : ℕ
  pub rows : ℕ
  pub hards : List ℕ
  pub sides : ℕ
  pub base : List ℕ
  pub order : List Position
  pub weight : List ℕ
  pub symbols : List ℕ

abbrev pub plan_with : Fields → Plan
plan_with p = planned p.size p.rows p.hards p.sides p.base p.order p.weight p.symbols

-- the parts, as the inner functions make them: what is by rank is made on the way
pub record Ingredients (m t n : ℕ) (r : Received) (b : ByRank) (p : Fields) : Type 0 where
  pub size : p.size ≡ length_of m - 2 * t
  pub rows : p.rows ≡ 2 * t
  pub hards : unpacked p.hards 8 ≡ r.hards
  pub order : Ordered r.reliability n p.order
  pub ranks : Gathers n r.reliability r.hards p.order b
  pub weight : p.weight ≡ b.weight
  pub sides : p.sides ≡ b.bits / 2 ^ p.size
  pub symbols : Cells m p.size p.rows (place_in p.order) p.symbols
  pub base : RowSums p.symbols b.bits p.size p.base

module _ (m t : ℕ) (known : Known m t) (n : ℕ) (long : n ≡ length_of m) (soft : List ℤ) (short : length soft ≤ length_of m)
    (r : Received) (got : Receives soft r) (b : ByRank) (p : Fields) (given : Ingredients m t n r b p) where
  abbrev L : ℕ
  L = length_of m

  abbrev K : ℕ
  K = L - 2 * t

  abbrev R : ℕ → ℕ
  R = place_in p.order

  F : Laws m
  F = laws m known.m_low known.m_high

  small : L ≤ 63
  small = length_small m known.m_low known.m_high

  fit : 2 * t ≤ L
  fit = roots_fit m t known

  made : Ingredients m t L r b p
  made = subst (λ (u : ℕ). Ingredients m t u r b p) long given

  sorted : Sorted m soft R
  sorted = sorted_order m soft r p.order got L refl small made.order

  hards : unpacked p.hards 8 ≡ word_of L (hard soft)
  hards = made.hards ∙ got.hards L short

  hard_at : (i : ℕ) → i < L → bit_of r.hards (R i) ≡ hard soft (R i)
  hard_at i l =
      ap (λ (u : ℕ). bit_of u (R i)) (got.hards L short) ∙ bit_word L (hard soft) (λ q _. hard_lt soft q) (R i) (made.order.inside i l)

  bit_at : (i : ℕ) → i < L → bit_of b.bits i ≡ bit_of (unpacked p.hards 8) (R i)
  unfolding ranked
  bit_at i l =
      ap (λ (u : ℕ). bit_of u i) made.ranks.bits
      ∙ bit_word L (λ j. bit_of r.hards (R j)) (λ j _. bit_lt r.hards (R j)) i l
      ∙ ap (λ (u : ℕ). bit_of u (R i)) (sym made.hards)

  sides : p.sides ≡ word_of (2 * t) (λ q. hard soft (R (K + q)))
  unfolding ranked
  sides =
      let e : L ≡ K + 2 * t = omega (arith, fit) in
      made.sides
      ∙ ap₂ (λ (u s : ℕ). u / 2 ^ s) made.ranks.bits made.size
      ∙ ap (λ (u : ℕ). word_of u (λ i. bit_of r.hards (R i)) / 2 ^ K) e
      ∙ word_above K (2 * t) (λ i. bit_of r.hards (R i)) (λ i _. bit_lt r.hards (R i))
      ∙ word_cong (2 * t) (λ q. bit_of r.hards (R (K + q))) (λ q. hard soft (R (K + q))) (λ q l. hard_at (K + q) (omega (arith, fit)))

  cell_at : (q j : ℕ) → q < 2 * t → j < K → get_or p.symbols (q * 63 + j) 0 ≡ cell m (1 - 1) R K j (R (K + q))
  cell_at q j hq hj =
      let cells : Cells m K (2 * t) R p.symbols =
      subst (λ (u : ℕ). Cells m K u R p.symbols) made.rows
      (subst (λ (u : ℕ). Cells m u p.rows R p.symbols) made.size made.symbols) in
      cells q j hq hj ∙ sym (cell_is_short m F 1 (2 * t) (le_refl 1) R sorted.order fit j q hj hq)

  weight_at : (i : ℕ) → i < L → get_or p.weight i 0 ≡ get_or r.reliability (R i) 0
  weight_at i l = ap (λ (u : List ℕ). get_or u i 0) made.weight ∙ made.ranks.weight i l

  plan_prepares : Prepares m 1 (2 * t) soft (plan_with p)
  plan_prepares = record {
    size = made.size;
    rows = made.rows;
    sorted = sorted;
    hards = hards;
    sides = sides;
    base = λ q l.
        made.base q (omega (arith, known.t_high)) ∙ ap (λ (u : ℕ). row_sum p.symbols b.bits u q) made.size
        ∙ symbol_is m F (2 * t) R p.symbols b.bits (unpacked p.hards 8) q (λ j lj. cell_at q j l lj)
        (λ j lj. bit_at j (omega arith));
    weight = λ i l. weight_at i l ∙ got.reliabilities (R i) (made.order.small i);
    column = cell_at;
  }

  plan_fits : Fits (plan_with p)
  plan_fits = record {
    sizes = omega (arith, small, made.size, known.t_low);
    rows = omega (arith, made.rows, known.t_high);
    all = omega (arith, small, fit, made.size, made.rows);
    sides = subst (λ (u : ℕ). p.sides < 2 ^ u) (sym made.rows)
        (subst (λ (u : ℕ). u < 2 ^ (2 * t)) (sym sides) (word_lt (2 * t) (λ q. hard soft (R (K + q))) (λ q _. hard_lt soft (R (K + q)))));
    places = λ i _. made.order.small i;
    weights = λ i l.
        let e = weight_at i (omega (arith, fit, made.size, made.rows)) in
        omega (arith, got.small (R i) (made.order.small i));
  }

  pub word_prepared : Prepares m 1 (2 * t) soft (plan_with p) × Fits (plan_with p)
  word_prepared = (plan_prepares, plan_fits)
