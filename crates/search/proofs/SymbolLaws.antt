-- A pattern's symbol: the sum of the cells at the bits that are set, and at a reliable rank the bit itself. Assumes nothing.
use mathlib.Core.Path.{◌≡◌, ◌∙◌}
use Prim.Native.Nat.{ℕ, zero, suc, ◌-◌, ◌^◌, ◌<◌, ◌≤◌, ◌*◌}
use native.Mathlib.Omega.{arith}
use Rattle.field.specs.Field.{xor_sum, times, length_of}
use Rattle.field.specs.Laws.{Laws}
use Rattle.field.proofs.XorSumLaws.{xorsum_cong}
use Rattle.field.proofs.RingLaws.{zero_times}
use Rattle.codes.specs.Codeword.{bit_of}
use Rattle.codes.specs.Lagrange.{AllPlaces, cell, lagrange}
use Rattle.codes.proofs.WordLaws.{bit_lt}
use Rattle.codes.proofs.LagrangeLaws.{lagrange_at}
use Rattle.codes.proofs.Conjugates.{bit_elem}
use Rattle.search.specs.Search.{symbol}

module _ (m : ℕ) (F : Laws m) (b r : ℕ) (R : ℕ → ℕ) where
  open F use {comm, one, times_lt}

  abbrev K : ℕ
  K = length_of m - r

  pub cell_lt : (j p : ℕ) → cell m (1 - b) R K j p < 2 ^ m
  unfolding cell
  cell_lt j p = times_lt _ _

  -- the product with a bit
  pub bit_product : (x : ℕ) → x < 2 → (y : ℕ) → y < 2 ^ m → times m x y ≡ x * y
  bit_product zero l y h = zero_times m F y ∙ omega arith
  bit_product (suc zero) l y h = comm 1 y ∙ one y h ∙ omega arith
  bit_product (suc (suc x)) l y h = absurd (omega arith)

  -- "the sum, over reliable positions j whose bit is 1"
  pub symbol_bits : (v p : ℕ) → symbol m b r R v p ≡ xor_sum K (λ j. bit_of v (R j) * cell m (1 - b) R K j p)
  unfolding symbol lagrange
  symbol_bits v p = xorsum_cong K _ _ (λ j _. bit_product (bit_of v (R j)) (bit_lt v (R j)) (cell m (1 - b) R K j p) (cell_lt j p))

  module _ (ord : AllPlaces m R) (fit : r ≤ length_of m) where
    -- at a reliable rank it is the bit there
    pub kept : (v i : ℕ) → i < K → symbol m b r R v (R i) ≡ bit_of v (R i)
    unfolding symbol
    kept v i hi =
        lagrange_at m F (1 - b) R K (λ j. bit_of v (R j))
        (record {
          inside = λ j l. ord.places.inside j (omega arith);
          apart = λ i j hi hj. ord.places.apart i j (omega arith)
              (omega arith);
        })
        (λ j _. bit_elem m F v (R j)) i hi
