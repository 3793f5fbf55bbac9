-- Tables by exponent. Everything but the claims computes.
--   Powers m l     l has a^0, .., a^127
--   or_one x        x, or 1 where x is 0
--   one_more m k    1 + a^k, or 1 where that is 0
--   Zech m l       for each k below 128 l has the exponent of `one_more m k`, below n: Zech's logarithm
-- Assumes nothing.
use Rattle.std.specs.Prelude.{◌≡◌, List, ℕ, zero, suc, ◌<◌, get_or}
use Rattle.field.specs.Field.{◌⊕◌, alpha_to, length_of}

abbrev pub Powers : ℕ → List ℕ → Type 0
Powers m l = (i : ℕ) → i < 128 → get_or l i 0 ≡ alpha_to m i

abbrev pub or_one : ℕ → ℕ
or_one zero = 1
or_one (suc x) = suc x

abbrev pub one_more : ℕ → ℕ → ℕ
one_more m k = or_one (1 ⊕ alpha_to m k)

abbrev pub Zech : ℕ → List ℕ → Type 0
Zech m l = (k : ℕ) → k < 128 → (get_or l k 0 < length_of m) × (alpha_to m (get_or l k 0) ≡ one_more m k)
