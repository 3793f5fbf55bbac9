-- An array of the reliabilities of all positions, sent or not. Assumes nothing.
use Rattle.std.specs.Prelude.{◌≡◌, List, ℕ, ◌<◌, ◌≤◌, ℤ, get_or}
use Rattle.soft.specs.Value.{reliability}

abbrev pub Reliabilities : List ℤ → List ℕ → Type 0
Reliabilities soft l = (p : ℕ) → p < 63 → (get_or l p 0 ≡ reliability soft p) × (get_or l p 0 ≤ 128)
