-- The non-binary part of a pattern: a flip adds its column's part, and a pattern with a part other than 0 is dropped.
-- Assumes nothing.
use mathlib.Core.Path.{◌≡◌, refl, sym, ap, ap₂, ◌∙◌}
use Prim.Native.Nat.{ℕ, zero, suc, ◌*◌, ◌/◌, ◌^◌, ◌<◌, ◌≤◌}
use native.Mathlib.Nat.{add-zero, zero-mul}
use native.Mathlib.Omega.{arith}
use lib.Bits.{xor_block}
use lib.Dec.{ltb, ltb→lt}
use lib.Pow.{pow_pos}
use Rattle.field.specs.Field.{◌⊕◌}
use Rattle.field.proofs.TestLaws.{below, is_false}
use Rattle.field.proofs.XorLaws.{xor_zero, xor_half, xor_assoc, xor_swap}
use Rattle.search.specs.Best.{Best}
use Rattle.search.specs.Plan.{Plan}
use Rattle.search.specs.ByRank.{rank_symbol, rank_binary, rank_weighed, differing, seen_if, tried}
use Rattle.search.specs.Part.{part_over, part_of, column_part}
use Rattle.search.proofs.BitSumLaws.{xor_flip, xor_none}

-- sums that are moved up
xor_moved : (x y k : ℕ) → (x ⊕ y) * 2 ^ k ≡ x * 2 ^ k ⊕ y * 2 ^ k
unfolding ◌⊕◌
xor_moved x y k =
    sym (ap₂ lib.Bits.bit_xor (sym (add-zero (x * 2 ^ k))) (sym (add-zero (y * 2 ^ k))) ∙ xor_block k x y 0 0 (pow_pos k) (pow_pos k)
    ∙ add-zero _)

-- parts of sums are sums of parts
pub over_xor : (S U : ℕ → ℕ) (n : ℕ) → part_over (λ q. S q ⊕ U q) n ≡ part_over S n ⊕ part_over U n
unfolding part_over
over_xor S U zero = sym (xor_zero 0)
over_xor S U (suc n) =
    ap₂ ◌⊕◌ (over_xor S U n) (ap (λ (x : ℕ). x * 2 ^ (4 * n)) (xor_half (S n) (U n)) ∙ xor_moved (S n / 2) (U n / 2) (4 * n))
    ∙ xor_swap (part_over S n) (part_over U n) (S n / 2 * 2 ^ (4 * n)) (U n / 2 * 2 ^ (4 * n))

pub over_cong : (S U : ℕ → ℕ) (n : ℕ) → ((q : ℕ) → q < n → S q ≡ U q) → part_over S n ≡ part_over U n
unfolding part_over
over_cong S U zero h = refl
over_cong S U (suc n) h = ap₂ (λ (x y : ℕ). x ⊕ y / 2 * 2 ^ (4 * n)) (over_cong S U n (λ q l. h q (omega arith))) (h n (omega arith))

-- bits have no non-binary part
over_bits : (S : ℕ → ℕ) (n : ℕ) → ((q : ℕ) → q < n → S q < 2) → part_over S n ≡ 0
unfolding part_over
over_bits S zero h = refl
over_bits S (suc n) h =
    let z : S n / 2 ≡ 0 = omega (arith, h n (omega arith)) in
    ap₂ (λ (x y : ℕ). x ⊕ y * 2 ^ (4 * n)) (over_bits S n (λ q l. h q (omega arith))) z ∙ ap (λ (x : ℕ). 0 ⊕ x) (zero-mul (2 ^ (4 * n)))
    ∙ xor_zero 0

module _ (p : Plan) (k : ℕ) where
  -- with nothing flipped
  pub part_start : part_of p k 0 ≡ part_over p.base k
  unfolding part_of rank_symbol
  part_start = over_cong _ _ k (λ q _. ap (λ (x : ℕ). p.base q ⊕ x) (xor_none (p.column q) p.size) ∙ xor_zero (p.base q))

  -- a flip adds its column's part
  pub part_flip : (f j : ℕ) → j < p.size → part_of p k (f ⊕ 2 ^ j) ≡ part_of p k f ⊕ column_part p k j
  unfolding part_of column_part rank_symbol
  part_flip f j h =
      over_cong _ (λ q. rank_symbol p f q ⊕ p.column q j) k
      (λ q _. ap (λ (x : ℕ). p.base q ⊕ x) (xor_flip (p.column q) p.size f j h) ∙ sym (xor_assoc (p.base q) _ _))
      ∙ over_xor (rank_symbol p f) (λ q. p.column q j) k

  -- a pattern that has one is dropped
  pub part_drops : k ≤ p.rows → (f : ℕ) (x : Best) → (part_of p k f ≡ 0 → ⊥) → tried p f x ≡ x
  unfolding tried part_of rank_binary
  part_drops h f x some =
      ap (λ t. seen_if t x (rank_weighed p (differing p f)))
      (is_false (rank_binary p f)
      (λ t. some (over_bits (rank_symbol p f) k
      (λ q l. ltb→lt (rank_symbol p f q) 2 (below p.rows (λ i. ltb (rank_symbol p f i) 2) t q (omega arith))))))
