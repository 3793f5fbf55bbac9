-- The search by the ranks that are flipped: what one pattern makes of a prepared word. f is the set of flipped ranks, bit j for
-- rank j. Everything here computes.
--   xor_bits F n w      the sum of F j over the set bits j of w below n, without carries
--   sum_bits F n w      the same with carries
--   rank_symbol p f q   the symbol of row q
--   rank_binary p f     every symbol is 0 or 1
--   outside S n        the symbols S 0, .., S (n - 1) as bits
--   differing p f      the ranks at which the pattern's word differs from the hard decisions
--   rank_weighed p g    the word that differs from the hard decisions at the ranks g
--   tried p f x        the best with the pattern f seen
-- Assumes nothing.
use Rattle.std.specs.Prelude.{Bool, true, false, ℕ, zero, suc, ◌+◌, ◌*◌, ◌^◌, ltb}
use Rattle.field.specs.Below.{all}
use Rattle.field.specs.Field.{◌⊕◌}
use Rattle.codes.specs.Codeword.{bit_of}
use Rattle.search.specs.Best.{Best, Weighed, none, better}
use Rattle.search.specs.Search.{best_over}
use Rattle.search.specs.Plan.{Plan}

unfoldable pub xor_bits : (ℕ → ℕ) → ℕ → ℕ → ℕ
xor_bits F zero w = 0
xor_bits F (suc n) w = xor_bits F n w ⊕ bit_of w n * F n

unfoldable pub sum_bits : (ℕ → ℕ) → ℕ → ℕ → ℕ
sum_bits F zero w = 0
sum_bits F (suc n) w = sum_bits F n w + bit_of w n * F n

-- the unflipped pattern's symbol, and a column for each flip
unfoldable pub rank_symbol : Plan → ℕ → ℕ → ℕ
rank_symbol p f q = p.base q ⊕ xor_bits (p.column q) p.size f

-- "That word is dropped at its first symbol other than 0 or 1"
unfoldable pub rank_binary : Plan → ℕ → Bool
rank_binary p f = all p.rows (λ q. ltb (rank_symbol p f q) 2)

unfoldable pub outside : (ℕ → ℕ) → ℕ → ℕ
outside S zero = 0
outside S (suc q) = outside S q ⊕ S q * 2 ^ q

unfoldable pub differing : Plan → ℕ → ℕ
differing p f = f ⊕ (outside (rank_symbol p f) p.rows ⊕ p.sides) * 2 ^ p.size

unfoldable pub rank_weighed : Plan → ℕ → Weighed
rank_weighed p g = record {
  word = p.hards ⊕ xor_bits (λ i. 2 ^ p.place i) (p.size + p.rows) g;
  distance = sum_bits p.weight (p.size + p.rows) g;
  flips = sum_bits (λ i. 1) (p.size + p.rows) g;
}

abbrev pub seen_if : Bool → Best → Weighed → Best
seen_if true x c = better x c
seen_if false x c = x

unfoldable pub tried : Plan → ℕ → Best → Best
tried p f x = seen_if (rank_binary p f) x (rank_weighed p (differing p f))

-- the best over all patterns of the reliable ranks with at most tau flips
unfoldable pub rank_searched : Plan → ℕ → Best
rank_searched p tau = best_over (λ i. i) (tried p) p.size 0 tau 0 none
