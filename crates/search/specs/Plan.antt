-- What stays for all patterns of a word (document 01, "The search": "Preparation is done once a word: order, reliable set and symbol
-- table stay together for all patterns"). What is by rank has the reliable set first, then the places outside.
--   Plan                     what is prepared, as functions of rank and row
--   Fits p                   its numbers are in their ranges
--   Prepares m b r soft p    it is that of the values received
-- Assumes nothing.
use Rattle.std.specs.Prelude.{◌≡◌, List, ℕ, ◌+◌, ◌-◌, ◌^◌, ◌<◌, ◌≤◌, ℤ}
use Rattle.field.specs.Field.{length_of}
use Rattle.codes.specs.Codeword.{word_of}
use Rattle.codes.specs.Lagrange.{cell}
use Rattle.soft.specs.Value.{hard, reliability}
use Rattle.soft.specs.Sorted.{Sorted}
use Rattle.search.specs.Search.{symbol}

pub record Plan : Type 0 where
  -- how many ranks are reliable, and how many are outside: one row of the table each
  pub size : ℕ
  pub rows : ℕ
  -- the hard decisions, by position, and those of the places outside, by row
  pub hards : ℕ
  pub sides : ℕ
  -- the symbols of the unflipped pattern, by row
  pub base : ℕ → ℕ
  -- the position and the reliability of a rank
  pub place : ℕ → ℕ
  pub weight : ℕ → ℕ
  -- what a 1 at rank j adds to the symbol of row q
  pub column : ℕ → ℕ → ℕ

pub record Fits (p : Plan) : Type 0 where
  pub sizes : p.size ≤ 61
  pub rows : p.rows ≤ 6
  pub all : p.size + p.rows ≤ 63
  pub sides : p.sides < 2 ^ p.rows
  pub places : (i : ℕ) → i < p.size + p.rows → p.place i < 63
  pub weights : (i : ℕ) → i < p.size + p.rows → p.weight i ≤ 128

pub record Prepares (m b r : ℕ) (soft : List ℤ) (p : Plan) : Type 0 where
  pub size : p.size ≡ length_of m - r
  pub rows : p.rows ≡ r
  pub sorted : Sorted m soft p.place
  pub hards : p.hards ≡ word_of (length_of m) (hard soft)
  pub sides : p.sides ≡ word_of r (λ q. hard soft (p.place (length_of m - r + q)))
  pub base : (q : ℕ) → q < r → p.base q ≡ symbol m b r p.place p.hards (p.place (length_of m - r + q))
  pub weight : (i : ℕ) → i < length_of m → p.weight i ≡ reliability soft (p.place i)
  -- "the product over the other reliable positions i of (a^p + a^i) / (a^j + a^i)"
  pub column : (q j : ℕ) → q < r → j < length_of m - r
      → p.column q j ≡ cell m (1 - b) p.place (length_of m - r) j (p.place (length_of m - r + q))
