-- The symbol table by exponents.
--   PutsRow, CellExponents   a row of exponents is put, and the first k rows of them are in their places
--   PutsColumn               a column of the table is put, each cell the power of its exponent
--   Numbered                 the ranks' positions are those of a code, each once, in the ranges of every code
--   Cells                    the table: what a 1 at rank j adds to the symbol of row o, by the short form
-- Assumes nothing.
use Rattle.std.specs.Prelude.{◌≡◌, ◌≢◌, List, ℕ, ◌+◌, ◌-◌, ◌*◌, ◌%◌, ◌<◌, ◌≤◌, length, get_or}
use Rattle.field.specs.Field.{length_of}
use Rattle.codes.specs.Lagrange.{Places, short_cell}
use Rattle.table.specs.Exponents.{Below, outside_of, cell_exponent}

pub record PutsRow (n from own q : ℕ) (zech list before after : List ℕ) : Type 0 where
  pub full : length after ≡ 384
  pub below : Below 128 384 after
  pub row : (p : ℕ) → p < 64 → get_or after (q * 64 + p) 0 ≡ get_or list p 0 + n - (own + get_or zech (from + p) 0) % n
  pub rest : (i : ℕ) → i < q * 64 → get_or after i 0 ≡ get_or before i 0

pub record CellExponents (n : ℕ) (zech : List ℕ) (U : ℕ → ℕ) (rows k : ℕ) (l : List ℕ) : Type 0 where
  pub full : length l ≡ 384
  pub below : Below 128 384 l
  pub right : (o p : ℕ) → o < k → p < n → get_or l (o * 64 + p) 0 ≡ cell_exponent n zech U rows o p

pub record PutsColumn (p j : ℕ) (powers exponents before after : List ℕ) : Type 0 where
  pub full : length after ≡ 378
  pub column : (q : ℕ) → q < 6 → get_or after (q * 63 + j) 0 ≡ get_or powers (get_or exponents (q * 64 + p) 0) 0
  pub rest : (q i : ℕ) → i < 63 → i ≢ j → get_or after (q * 63 + i) 0 ≡ get_or before (q * 63 + i) 0

pub record Numbered (m n size rows : ℕ) (place : ℕ → ℕ) : Type 0 where
  pub m_low : 4 ≤ m
  pub m_high : m ≤ 6
  pub few : rows ≤ 6
  pub long : n ≡ length_of m
  pub all : size + rows ≡ n
  pub each : Places m n place

abbrev pub Cells : ℕ → ℕ → ℕ → (ℕ → ℕ) → List ℕ → Type 0
Cells m size rows place l =
    (o j : ℕ) → o < rows → j < size → get_or l (o * 63 + j) 0 ≡ short_cell m 1 rows (outside_of size place) o (place j)
