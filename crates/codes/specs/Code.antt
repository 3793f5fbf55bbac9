-- The nine codes (document 01, "Fields and codes"): the table of dimensions and generators, as data.
--   Known m t         m and t name one of them
--   dimension_of m t   k, the number of message bits
--   parity_of m t      n - k, the number of parity bits, which is the generator's degree
--   generator_of m t   the generator, bit j the coefficient of x^j
-- Assumes nothing.
use Rattle.std.specs.Prelude.{List, [], ◌∷◌, ℕ, ◌+◌, ◌-◌, ◌*◌, ◌≤◌, get_or}
use Rattle.field.specs.Field.{length_of}

pub record Known (m t : ℕ) : Type 0 where
  pub m_low : 4 ≤ m
  pub m_high : m ≤ 6
  pub t_low : 1 ≤ t
  pub t_high : t ≤ 3

-- the entry for m and t of a table that has a row for each m
unfoldable pub entry_of : List ℕ → ℕ → ℕ → ℕ
entry_of table m t = get_or table ((m - 4) * 3 + (t - 1)) 0

unfoldable pub dimension_of : ℕ → ℕ → ℕ
dimension_of = entry_of (
    11 ∷ 7 ∷ 5
    ∷ 26 ∷ 21 ∷ 16
    ∷ 57 ∷ 51 ∷ 45 ∷ [])

unfoldable pub parity_of : ℕ → ℕ → ℕ
parity_of m t = length_of m - dimension_of m t

-- "The generators, in octal with the highest coefficient first"
unfoldable pub generator_of : ℕ → ℕ → ℕ
generator_of = entry_of (
    0o23 ∷ 0o721 ∷ 0o2467
    ∷ 0o45 ∷ 0o3551 ∷ 0o107657
    ∷ 0o103 ∷ 0o12471 ∷ 0o1701317 ∷ [])
