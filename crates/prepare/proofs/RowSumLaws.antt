-- Row sums over the set bits of a word, a column a turn, and that they are the symbols of the pattern that has those bits.
-- Assumes nothing.
use mathlib.Core.Path.{◌≡◌, sym, ap, ap₂, subst, ◌∙◌}
use mathlib.Core.List.{List}
use Prim.Native.Nat.{ℕ, ◌+◌, ◌-◌, ◌*◌, ◌/◌, ◌%◌, ◌^◌, ◌<◌, ◌≤◌}
use native.Mathlib.Nat.{mod-lt}
use native.Mathlib.Omega.{arith}
use lib.Bits.{and_le_l}
use lib.Dec.{T}
use lib.ListN.{length, get_or}
use lib.Pow.{pow_pos, field, mod-mod-pow}
use Rattle.field.specs.Field.{◌⊕◌, length_of}
use Rattle.field.specs.Laws.{Laws}
use Rattle.field.proofs.XorLaws.{xor_zero, zero_xor, xor_self, xor_swap}
use Rattle.field.proofs.XorSumLaws.{xorsum_cong}
use Rattle.codes.specs.Codeword.{bit_of}
use Rattle.codes.specs.Lagrange.{cell}
use Rattle.codes.proofs.WordLaws.{bit_shift}
use Rattle.search.specs.Search.{symbol}
use Rattle.search.proofs.SymbolLaws.{symbol_bits}
use Rattle.search.proofs.BitSumLaws.{xor_none}
use Rattle.search.proofs.LowestBit.{turn_low, turn_xor}
use Rattle.search.proofs.RankBits.{xor_bits_sum}
use Rattle.prepare.specs.Ones.{Took}
use Rattle.prepare.specs.Inner.RowSums.{AddsColumn, row_sum, RowSums}
use Rattle.table.proofs.StoreLaws.{zeros, zeros_at}

-- the bits below k are those of the remainder
bit_low : (w k p : ℕ) → p < k → bit_of (w % 2 ^ k) p ≡ bit_of w p
bit_low w k p l =
    let e : k ≡ k - p - 1 + 1 + p = omega arith in
    bit_shift (w % 2 ^ k) p ∙ ap (λ (u : ℕ). w % 2 ^ u / 2 ^ p % 2) e ∙ ap (λ (u : ℕ). u % 2) (field w (k - p - 1 + 1) p)
    ∙ mod-mod-pow (w / 2 ^ p) (k - p - 1) 1 ∙ sym (bit_shift w p)

module _ (symbols : List ℕ) (bits size : ℕ) where
  sum_low : (q : ℕ) → row_sum symbols (bits % 2 ^ size) size q ≡ row_sum symbols bits size q
  unfolding row_sum
  sum_low q =
      xor_bits_sum _ size (bits % 2 ^ size)
      ∙ xorsum_cong size _ _ (λ j l. ap (λ (u : ℕ). u * get_or symbols (q * 63 + j) 0) (bit_low bits size j l))
      ∙ sym (xor_bits_sum _ size bits)

  -- the sums so far, and what the bits that are left add to them, are the rows' sums
  pub record Summed (sums : List ℕ) (rest : ℕ) : Type 0 where
    pub full : length sums ≡ 6
    pub low : rest < 2 ^ size
    pub left : (q : ℕ) → q < 6 → get_or sums q 0 ⊕ row_sum symbols rest size q ≡ row_sum symbols bits size q

  pub summed_none : (l : List ℕ) → length l ≡ 6 → T (zeros l) → (k : ℕ) → k ≡ 2 ^ size → Summed l (bits % k)
  summed_none l e t k f =
      subst (λ (u : ℕ). Summed l (bits % u)) (sym f)
      (record {
        full = e;
        low = mod-lt bits (pow_pos size);
        left = λ q _.
            let r = row_sum symbols (bits % 2 ^ size) size q in
            ap (λ (u : ℕ). u ⊕ r) (zeros_at l t q) ∙ zero_xor r ∙ sum_low q;
      })

  -- one bit less is left
  module _ (sums : List ℕ) (rest j less : ℕ) (t : Took rest j less) (fit : size ≤ 63) (s : Summed sums rest) where
    pub summed_low : j < size
    summed_low = rw t.lowest (turn_low 64 size rest t.some s.low (omega arith))

    pub summed_more : (next : List ℕ) → AddsColumn j symbols sums next → Summed next less
    unfolding row_sum
    summed_more next add = record {
      full = add.full;
      low = omega (arith, s.low, t.left, and_le_l rest (rest - 1));
      left = λ q l.
          let x = get_or symbols (q * 63 + j) 0 in
          let r = row_sum symbols rest size q in
          ap₂ ◌⊕◌ (add.sums q l)
          (rw (t.left, t.lowest) (turn_xor 64 size rest t.some s.low (omega arith) (λ i. get_or symbols (q * 63 + i) 0)))
          ∙ xor_swap (get_or sums q 0) x r x ∙ ap (λ (u : ℕ). get_or sums q 0 ⊕ r ⊕ u) (xor_self x) ∙ xor_zero (get_or sums q 0 ⊕ r)
          ∙ s.left q l;
    }

  pub summed_all : (sums : List ℕ) (rest : ℕ) → rest ≡ 0 → Summed sums rest → RowSums symbols bits size sums
  unfolding row_sum
  summed_all sums rest e s q l =
      sym (xor_zero (get_or sums q 0))
      ∙ ap (λ (u : ℕ). get_or sums q 0 ⊕ u)
      (sym (ap (λ (u : ℕ). row_sum symbols u size q) e ∙ xor_none (λ j. get_or symbols (q * 63 + j) 0) size))
      ∙ s.left q l

-- "the sum, over reliable positions j whose bit is 1": R has the positions by rank
pub symbol_is : (m : ℕ) → Laws m → (r : ℕ) (R : ℕ → ℕ) (symbols : List ℕ) (bits v q : ℕ)
    → ((j : ℕ) → j < length_of m - r → get_or symbols (q * 63 + j) 0 ≡ cell m (1 - 1) R (length_of m - r) j (R (length_of m - r + q)))
    → ((j : ℕ) → j < length_of m - r → bit_of bits j ≡ bit_of v (R j))
    → row_sum symbols bits (length_of m - r) q ≡ symbol m 1 r R v (R (length_of m - r + q))
unfolding row_sum
symbol_is m F r R symbols bits v q cells same =
    xor_bits_sum _ (length_of m - r) bits ∙ xorsum_cong (length_of m - r) _ _ (λ j l. ap₂ ◌*◌ (same j l) (cells j l))
    ∙ sym (symbol_bits m F 1 r R v (R (length_of m - r + q)))
