-- Which places fix a word: the Lagrange sum (document 000, the Lagrange rows; document 01, "The search"). R lists places by
-- rank, R 0, R 1, ..; a word is a symbol for each position.
--   Places m k U         U 0, .., U (k - 1) are different positions
--   AllPlaces m R        R lists every position, each once
--   others X k j         X 0, .., X (k - 1) without X j
--   quotients m x y vs   the product of (x + v) / (y + v) over the v of a list
--   cell m s R k j p     what a 1 at R j, of the first k places, adds to the symbol at p
--   lagrange m s R k b p the symbol at p of the word that takes the value b j at R j, for j below k
--   spread, short_cell    the same cell by the places outside, in fewer factors
-- Assumes nothing.
use Rattle.std.specs.Prelude.{◌≡◌, List, [], ◌∷◌, ℕ, zero, suc, ◌*◌, ◌<◌}
use Rattle.std.proofs.Math.Decide.{ℕ_discrete}
use Rattle.field.specs.Field.{◌⊕◌, xor_sum, times, inverse_of, alpha_to, length_of}

pub record Places (m k : ℕ) (U : ℕ → ℕ) : Type 0 where
  pub inside : (j : ℕ) → j < k → U j < length_of m
  pub apart : (i j : ℕ) → i < k → j < k → U i ≡ U j → i ≡ j

pub record AllPlaces (m : ℕ) (R : ℕ → ℕ) : Type 0 where
  pub places : Places m (length_of m) R
  pub reached : (p : ℕ) → p < length_of m → (j : ℕ) × (j < length_of m) × (p ≡ R j)

unfoldable pub unless : {P : Type 0} → Dec P → ℕ → List ℕ → List ℕ
unless (yes e) v vs = vs
unless (no e) v vs = v ∷ vs

unfoldable pub others : (ℕ → ℕ) → ℕ → ℕ → List ℕ
others X zero j = []
others X (suc k) j = unless (ℕ_discrete k j) (X k) (others X k j)

module _ (m : ℕ) where
  unfoldable pub quotients : ℕ → ℕ → List ℕ → ℕ
  quotients x y [] = 1
  quotients x y (v ∷ vs) = times m (times m (x ⊕ v) (inverse_of m (y ⊕ v))) (quotients x y vs)

  -- "the product over the other reliable positions i of (a^p + a^i) / (a^j + a^i)", times (a^p / a^j)^s: s is 0 where the first
  -- root is a^1, as in every code of document 01, and would be 1 where it is a^0
  unfoldable pub cell : ℕ → (ℕ → ℕ) → ℕ → ℕ → ℕ → ℕ
  cell s R k j p =
      times m (times m (alpha_to m (p * s)) (inverse_of m (alpha_to m (R j * s))))
      (quotients (alpha_to m p) (alpha_to m (R j)) (others (λ i. alpha_to m (R i)) k j))

  -- "Its symbol at a position p outside the set is the sum, over reliable positions j .."
  unfoldable pub lagrange : ℕ → (ℕ → ℕ) → ℕ → (ℕ → ℕ) → ℕ → ℕ
  lagrange s R k b p = xor_sum k (λ j. times m (b j) (cell s R k j p))

  -- y times the product of x + v over the v of a list
  unfoldable pub product_over : ℕ → ℕ → List ℕ → ℕ
  product_over x y [] = y
  product_over x y (v ∷ vs) = times m (x ⊕ v) (product_over x y vs)

  -- U 0, .., U (r - 1) are the places outside; b is the first root's exponent
  module _ (b r : ℕ) (U : ℕ → ℕ) where
    -- a^(bq) times the product of a^q + a^(U v), over the v below r other than o
    unfoldable pub spread : ℕ → ℕ → ℕ
    spread o q = product_over (alpha_to m q) (alpha_to m (q * b)) (others (λ v. alpha_to m (U v)) r o)

    -- what a 1 at q adds to the symbol at U o
    unfoldable pub short_cell : ℕ → ℕ → ℕ
    short_cell o q = times m (spread o q) (inverse_of m (spread o (U o)))
