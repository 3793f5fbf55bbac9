-- The turns of the loops over a pattern's symbols: the flips that are left of a symbol, the symbols that are bits so far, and what
-- the pattern then does to the best. Assumes nothing.
use mathlib.Core.Path.{◌≡◌, refl, sym, ap, subst, ◌∙◌}
use mathlib.Core.Logic.{⊎_elim}
use Prim.Native.Nat.{ℕ, ◌+◌, ◌-◌, ◌*◌, ◌%◌, ◌^◌, ◌≤◌, ◌<◌}
use native.Mathlib.Nat.{lt_of_lt_of_le, eq-or-lt_of_le}
use native.Mathlib.Numerals.{add-one}
use native.Mathlib.Omega.{arith}
use lib.Dec.{ltb, ltb→lt, lt→ltb}
use lib.Pow.{pow_mono, shl_lt, shl_exact}
use lib.Bits.{and_le_l}
use Rattle.field.specs.Field.{◌⊕◌}
use Rattle.field.proofs.TestLaws.{below, all_of, is_true, is_false}
use Rattle.field.proofs.XorLaws.{xor_zero, xor_lt}
use Rattle.search.specs.Best.{Best, better}
use Rattle.search.specs.Plan.{Plan, Fits}
use Rattle.search.specs.ByRank.{xor_bits, rank_symbol, rank_binary, outside, differing, rank_weighed, seen_if, tried}
use Rattle.search.proofs.BitSumLaws.{xor_none}
use Rattle.search.proofs.RankBits.{outside_lt}
use Rattle.prepare.specs.Ones.{Took}
use Rattle.search.proofs.LowestBit.{turn_low, turn_xor}
use Rattle.candidates.proofs.WeighSteps.{xor_both}

-- the inner loop: the symbol of row q so far, and the flips that are left
pub record Summed (p : Plan) (f q symbol g : ℕ) : Type 0 where
  pub low : g < 2 ^ p.size
  pub sum : symbol ⊕ xor_bits (p.column q) p.size g ≡ rank_symbol p f q

pub summed_start : (p : Plan) (f q : ℕ) → f < 2 ^ p.size → Summed p f q (p.base q) f
unfolding rank_symbol
summed_start p f q h = record { low = h; sum = refl }

module _ (p : Plan) (fits : Fits p) (f q symbol g : ℕ) (l : Summed p f q symbol g) where
  wide : p.size ≤ 64
  wide = omega (arith, fits.sizes)

  module _ (j h : ℕ) (t : Took g j h) where
    pub summed_low : j < 61
    summed_low = omega (arith, t.lowest, turn_low 64 p.size g t.some l.low wide, fits.sizes)

    pub summed_turn : Summed p f q (symbol ⊕ p.column q j) h
    summed_turn = record {
      low = omega (arith, l.low, t.left, and_le_l g (g - 1));
      sum =
          ap (λ (x : ℕ). symbol ⊕ p.column q j ⊕ x) (rw (t.left, t.lowest) (turn_xor 64 p.size g t.some l.low wide (p.column q)))
          ∙ xor_both symbol (xor_bits (p.column q) p.size g) (p.column q j) ∙ l.sum;
    }

  pub summed_end : g ≡ 0 → symbol ≡ rank_symbol p f q
  summed_end e =
      sym (xor_zero symbol) ∙ ap (λ (x : ℕ). symbol ⊕ x) (sym (ap (xor_bits (p.column q) p.size) e ∙ xor_none (p.column q) p.size))
      ∙ l.sum

-- the outer loop: the symbols of the first q rows are 0 or 1, and are kept as bits
pub record Binary (p : Plan) (f bits q : ℕ) : Type 0 where
  pub most : q ≤ p.rows
  pub good : (i : ℕ) → i < q → rank_symbol p f i < 2
  pub kept : bits ≡ outside (rank_symbol p f) q

pub binary_start : (p : Plan) (f : ℕ) → Binary p f 0 0
unfolding outside
binary_start p f = record { most = omega arith; good = λ i l. absurd (omega arith); kept = refl }

-- a symbol other than 0 or 1 ends it: "that word is dropped"
pub tried_not : (p : Plan) (f q : ℕ) (x : Best) → q < p.rows → 1 < rank_symbol p f q → tried p f x ≡ x
unfolding tried rank_binary
tried_not p f q x h k =
    ap (λ t. seen_if t x (rank_weighed p (differing p f)))
    (is_false (rank_binary p f) (λ t. omega (arith, ltb→lt (rank_symbol p f q) 2 (below p.rows (λ i. ltb (rank_symbol p f i) 2) t q h))))

module _ (p : Plan) (fits : Fits p) (f bits : ℕ) where
  pub binary_turn : (q symbol : ℕ) → Binary p f bits q → q < p.rows → symbol ≡ rank_symbol p f q → symbol ≤ 1
      → Binary p f (bits ⊕ (symbol * 2 ^ q) % 2 ^ 64) (q + 1)
  unfolding outside
  binary_turn q symbol b h e l = record {
    most = omega arith;
    good =
        λ i k. ⊎_elim (λ (s : i ≡ q). subst (λ (j : ℕ). rank_symbol p f j < 2) (sym s) (subst (λ (y : ℕ). y < 2) e (omega arith)))
        (b.good i)
        (eq-or-lt_of_le (omega arith));
    kept = rw (add-one, shl_exact {a = symbol} 1 q 64 (omega arith) (omega (arith, fits.rows)), b.kept, e);
  }

  -- every symbol is a bit
  module _ (b : Binary p f bits p.rows) where
    pub tried_is : (x : Best) → tried p f x ≡ better x (rank_weighed p (differing p f))
    unfolding tried rank_binary
    tried_is x =
        ap (λ t. seen_if t x (rank_weighed p (differing p f)))
        (is_true (rank_binary p f) (all_of p.rows (λ i. ltb (rank_symbol p f i) 2) (λ i l. lt→ltb (rank_symbol p f i) 2 (b.good i l))))

    side_lt : bits ⊕ p.sides < 2 ^ p.rows
    side_lt = xor_lt p.rows bits p.sides (rw b.kept (outside_lt (rank_symbol p f) p.rows b.good)) fits.sides

    pub differing_is : f ⊕ ((bits ⊕ p.sides) * 2 ^ p.size) % 2 ^ 64 ≡ differing p f
    unfolding differing
    differing_is =
        ap (λ (x : ℕ). f ⊕ x)
        (shl_exact p.rows p.size 64 side_lt (omega (arith, fits.all)) ∙ ap (λ (x : ℕ). (x ⊕ p.sides) * 2 ^ p.size) b.kept)

    pub differing_lt : f < 2 ^ p.size → differing p f < 2 ^ (p.size + p.rows)
    unfolding differing
    differing_lt h =
        xor_lt (p.size + p.rows) f _ (lt_of_lt_of_le h (pow_mono (omega arith)))
        (subst (λ (x : ℕ). (outside (rank_symbol p f) p.rows ⊕ p.sides) * 2 ^ p.size < 2 ^ x) (omega arith)
        (shl_lt p.rows p.size (rw (← b.kept) side_lt)))
