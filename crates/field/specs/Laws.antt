-- What is shown of the field of 2^m elements, for every m at once. A product is an element whatever its factors are, so
-- that only the laws of 1 and of the inverse ask for one. Proved in proofs/FieldLaws. Assumes nothing.
use Rattle.std.specs.Prelude.{◌≡◌, ◌≢◌, ℕ, ◌+◌, ◌^◌, ◌<◌, ◌≤◌}
use Rattle.field.specs.Field.{◌⊕◌, times, alpha_to, inverse_of, length_of}

pub record Laws (m : ℕ) : Type 0 where
  pub comm : (x y : ℕ) → times m x y ≡ times m y x
  pub assoc : (x y z : ℕ) → times m (times m x y) z ≡ times m x (times m y z)
  pub over_xor : (x y z : ℕ) → times m x (y ⊕ z) ≡ times m x y ⊕ times m x z
  pub times_lt : (x y : ℕ) → times m x y < 2 ^ m
  pub one : (x : ℕ) → x < 2 ^ m → times m x 1 ≡ x
  pub inverse : (x : ℕ) → x < 2 ^ m → x ≢ 0 → times m x (inverse_of m x) ≡ 1
  pub inverse_zero : inverse_of m 0 ≡ 0
  pub inverse_lt : (x : ℕ) → inverse_of m x < 2 ^ m
  pub pw_zero : alpha_to m 0 ≡ 1
  pub pw_add : (i j : ℕ) → alpha_to m (i + j) ≡ times m (alpha_to m i) (alpha_to m j)
  pub pw_inj : (i j : ℕ) → i < length_of m → j < length_of m → alpha_to m i ≡ alpha_to m j → i ≡ j
  pub pw_n : alpha_to m (length_of m) ≡ 1
  pub n_pos : 0 < length_of m

-- the claim
abbrev pub FieldsAreLawful : Type 0
FieldsAreLawful = (m : ℕ) → 4 ≤ m → m ≤ 6 → Laws m
