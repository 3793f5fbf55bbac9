-- A turn of the loops that weigh a word by the ranks at which it differs, and place it: what is done and what is left, together, are
-- the whole. Assumes nothing.
use mathlib.Core.Path.{◌≡◌, refl, sym, ap, ◌∙◌}
use Prim.Native.Nat.{ℕ, ◌+◌, ◌-◌, ◌^◌, ◌≤◌, ◌<◌}
use native.Mathlib.Omega.{arith}
use lib.Bits.{and_le_l}
use Rattle.field.specs.Field.{◌⊕◌}
use Rattle.field.proofs.XorLaws.{xor_zero, xor_swap, xor_self}
use Rattle.search.specs.Best.{Weighed}
use Rattle.search.specs.Plan.{Plan, Fits}
use Rattle.search.specs.ByRank.{xor_bits, sum_bits, rank_weighed}
use Rattle.search.proofs.BitSumLaws.{xor_none, sum_none, sum_le}
use Rattle.prepare.specs.Ones.{Took}
use Rattle.search.proofs.LowestBit.{turn_low, turn_xor, turn_sum}

pub ne_pos : (n : ℕ) → (n ≡ 0 → ⊥) → 0 < n
ne_pos n h = omega (arith, h)

-- what is added to both sides of a sum is gone
pub xor_both : (x y z : ℕ) → x ⊕ z ⊕ (y ⊕ z) ≡ x ⊕ y
xor_both x y z = xor_swap x z y z ∙ ap (λ (u : ℕ). x ⊕ y ⊕ u) (xor_self z) ∙ xor_zero (x ⊕ y)

abbrev made : ℕ → ℕ → ℕ → Weighed
made w d f = record { word = w; distance = d; flips = f }

made_same : (w d f : ℕ) (x : Weighed) → w ≡ x.word → d ≡ x.distance → f ≡ x.flips → made w d f ≡ x
made_same w d f x a b c = rw (a, b, c)

-- the ranks that are left of those whose reliabilities are added
pub record Far (p : Plan) (ranks distance g : ℕ) : Type 0 where
  pub low : g < 2 ^ (p.size + p.rows)
  pub distances : distance + sum_bits p.weight (p.size + p.rows) g ≡ (rank_weighed p ranks).distance

-- and of those whose positions are flipped
pub record Left (p : Plan) (ranks word flips g : ℕ) : Type 0 where
  pub low : g < 2 ^ (p.size + p.rows)
  pub words : word ⊕ xor_bits (λ i. 2 ^ p.place i) (p.size + p.rows) g ≡ (rank_weighed p ranks).word
  pub flipped : flips + sum_bits (λ i. 1) (p.size + p.rows) g ≡ (rank_weighed p ranks).flips

pub far_start : (p : Plan) (ranks : ℕ) → ranks < 2 ^ (p.size + p.rows) → Far p ranks 0 ranks
unfolding rank_weighed
far_start p ranks h = record { low = h; distances = omega arith }

pub left_start : (p : Plan) (ranks : ℕ) → ranks < 2 ^ (p.size + p.rows) → Left p ranks p.hards 0 ranks
unfolding rank_weighed
left_start p ranks h = record { low = h; words = refl; flipped = omega arith }

-- the lowest rank that is left
module _ (p : Plan) (fits : Fits p) (g j h : ℕ) (t : Took g j h) (low : g < 2 ^ (p.size + p.rows)) where
  wide : p.size + p.rows ≤ 64
  wide = omega (arith, fits.all)

  pub rank_low : j < p.size + p.rows
  rank_low = rw t.lowest (turn_low 64 (p.size + p.rows) g t.some low wide)

  less : h < 2 ^ (p.size + p.rows)
  less = omega (arith, low, t.left, and_le_l g (g - 1))

  summed : (F : ℕ → ℕ) → sum_bits F (p.size + p.rows) g ≡ sum_bits F (p.size + p.rows) h + F j
  summed F = rw (t.left, t.lowest) (turn_sum 64 (p.size + p.rows) g t.some low wide F)

  turned : (F : ℕ → ℕ) → xor_bits F (p.size + p.rows) h ≡ xor_bits F (p.size + p.rows) g ⊕ F j
  turned F = rw (t.left, t.lowest) (turn_xor 64 (p.size + p.rows) g t.some low wide F)

module _ (p : Plan) (fits : Fits p) (ranks distance g : ℕ) (l : Far p ranks distance g) where
  module _ (j h : ℕ) (t : Took g j h) where
    pub far_low : j < p.size + p.rows
    far_low = rank_low p fits g j h t l.low

    pub far_turn : Far p ranks (distance + p.weight j) h
    far_turn = record {
      low = less p fits g j h t l.low;
      distances = omega (arith, l.distances, summed p fits g j h t l.low p.weight);
    }

    -- what fits its type
    pub far_fits : distance + p.weight j ≤ 8064
    unfolding rank_weighed
    far_fits =
        omega (
          arith,
          l.distances,
          fits.all,
          summed p fits g j h t l.low p.weight,
          sum_le p.weight 128 (p.size + p.rows) ranks
              fits.weights,
        )

  pub far_end : g ≡ 0 → distance ≡ (rank_weighed p ranks).distance
  far_end e = omega (arith, l.distances, ap (sum_bits p.weight (p.size + p.rows)) e, sum_none p.weight (p.size + p.rows))

module _ (p : Plan) (fits : Fits p) (ranks word flips g : ℕ) (l : Left p ranks word flips g) where
  module _ (j h : ℕ) (t : Took g j h) where
    pub left_low : j < p.size + p.rows
    left_low = rank_low p fits g j h t l.low

    pub left_turn : Left p ranks (word ⊕ 2 ^ p.place j) (flips + 1) h
    left_turn = record {
      low = less p fits g j h t l.low;
      words =
          ap (λ (x : ℕ). word ⊕ 2 ^ p.place j ⊕ x) (turned p fits g j h t l.low (λ i. 2 ^ p.place i))
          ∙ xor_both word (xor_bits (λ i. 2 ^ p.place i) (p.size + p.rows) g) (2 ^ p.place j) ∙ l.words;
      flipped = omega (arith, l.flipped, summed p fits g j h t l.low (λ i. 1));
    }

    -- what fits its type
    pub left_fits : flips + 1 ≤ 63
    unfolding rank_weighed
    left_fits =
        omega (
          arith,
          l.flipped,
          fits.all,
          summed p fits g j h t l.low (λ i. 1),
          sum_le (λ i. 1) 1 (p.size + p.rows) ranks
              (λ i _. omega arith),
        )

  -- no rank is left
  pub left_end : (distance : ℕ) → distance ≡ (rank_weighed p ranks).distance → g ≡ 0 → made word distance flips ≡ rank_weighed p ranks
  left_end distance d e =
      let a : word ≡ (rank_weighed p ranks).word =
      sym (xor_zero word) ∙ ap (λ (x : ℕ). word ⊕ x)
      (sym (ap (xor_bits (λ i. 2 ^ p.place i) (p.size + p.rows)) e ∙ xor_none (λ i. 2 ^ p.place i) (p.size + p.rows))) ∙ l.words in
      let c : flips ≡ (rank_weighed p ranks).flips =
      omega (arith, l.flipped, ap (sum_bits (λ i. 1) (p.size + p.rows)) e, sum_none (λ i. 1) (p.size + p.rows)) in
      made_same word distance flips (rank_weighed p ranks) a d c
