-- Exponents of a, by position. U 0, U 1, .. are the places outside, by row.
--   Below n k l         the first k entries of l are below n
--   outside_of size ..   the places outside, where `place` is the position of a rank: those of the ranks from `size` on
--   Outside n rows U    there are six rows at most, and their places are positions
--   exponent_of ..       the exponent of a^p times 1 + a^(p-u) for each of the first k places u, but where that is 0
--   cell_exponent ..     the exponent of the cell of row o and position p
--   Positions, AddsRun, Exponents   the exponents of all positions as a list, and how it is made
-- Assumes nothing.
use Rattle.std.specs.Prelude.{◌≡◌, List, ℕ, zero, suc, ◌+◌, ◌-◌, ◌%◌, ◌<◌, ◌≤◌, length, get_or}

abbrev pub Below : ℕ → ℕ → List ℕ → Type 0
Below n k l = (i : ℕ) → i < k → get_or l i 0 < n

abbrev pub outside_of : ℕ → (ℕ → ℕ) → ℕ → ℕ
outside_of size place v = place (size + v)

pub record Outside (n rows : ℕ) (U : ℕ → ℕ) : Type 0 where
  pub few : rows ≤ 6
  pub inside : (v : ℕ) → v < rows → U v < n

pub record Positions (n : ℕ) (l : List ℕ) : Type 0 where
  pub full : length l ≡ 64
  pub below : Below n 64 l
  pub own : (p : ℕ) → p < n → get_or l p 0 ≡ p

-- Zech's logarithms, from one of them on, are added to each entry
pub record AddsRun (n from : ℕ) (zech before after : List ℕ) : Type 0 where
  pub full : length after ≡ 64
  pub sums : (p : ℕ) → p < 64 → get_or after p 0 ≡ (get_or before p 0 + get_or zech (from + p) 0) % n

module _ (n : ℕ) (zech : List ℕ) (U : ℕ → ℕ) where
  -- Zech's logarithm for the place of row v and the position p
  abbrev pub zech_at : ℕ → ℕ → ℕ
  zech_at v p = get_or zech (n - U v + p) 0

  unfoldable pub exponent_of : ℕ → ℕ → ℕ
  exponent_of zero p = p
  exponent_of (suc k) p = (exponent_of k p + zech_at k p) % n

  pub record Exponents (k : ℕ) (l : List ℕ) : Type 0 where
    pub below : Below n 64 l
    pub right : (p : ℕ) → p < n → get_or l p 0 ≡ exponent_of k p

  unfoldable pub cell_exponent : ℕ → ℕ → ℕ → ℕ
  cell_exponent rows o p = exponent_of rows p + n - (exponent_of rows (U o) + zech_at o p) % n
