-- What follows from a field's laws. Assumes nothing.
use mathlib.Core.Path.{◌≡◌, sym, ap, ap₂, ◌∙◌}
use mathlib.Core.Logic.{◌≢◌}
use Prim.Native.Nat.{ℕ, ◌^◌, ◌<◌}
use Rattle.field.specs.Field.{◌⊕◌, times, inverse_of}
use Rattle.field.specs.Laws.{Laws}
use Rattle.field.proofs.XorLaws.{xor_zero, zero_xor, xor_self, xor_comm, xor_assoc, xor_left_comm, xor_self_left}

module _ (m : ℕ) (F : Laws m) where
  open F use {comm, assoc, over_xor, one, inverse, inverse_lt}

  pub mul_comm : (x y : ℕ) → times m x y ≡ times m y x
  mul_comm = comm

  pub mul_assoc : (x y z : ℕ) → times m (times m x y) z ≡ times m x (times m y z)
  mul_assoc = assoc

  pub mul_xor : (x y z : ℕ) → times m x (y ⊕ z) ≡ times m x y ⊕ times m x z
  mul_xor = over_xor

  pub left_comm : (x y z : ℕ) → times m x (times m y z) ≡ times m y (times m x z)
  left_comm x y z = sym (assoc x y z) ∙ ap (λ (u : ℕ). times m u z) (comm x y) ∙ assoc y x z

  pub xor_over : (x y z : ℕ) → times m (x ⊕ y) z ≡ times m x z ⊕ times m y z
  xor_over x y z = comm (x ⊕ y) z ∙ over_xor z x y ∙ ap₂ ◌⊕◌ (comm z x) (comm z y)

  pub times_zero : (x : ℕ) → times m x 0 ≡ 0
  times_zero x = ap (times m x) (sym (xor_zero 0)) ∙ over_xor x 0 0 ∙ xor_self (times m x 0)

  pub zero_times : (x : ℕ) → times m 0 x ≡ 0
  zero_times x = comm 0 x ∙ times_zero x

  -- a factor that is not 0 cancels
  pub cancel : (x f : ℕ) → x < 2 ^ m → f < 2 ^ m → f ≢ 0 → times m f x ≡ 0 → x ≡ 0
  cancel x f hx hf nf e =
      sym (one x hx) ∙ ap (times m x) (sym (inverse f hf nf)) ∙ sym (assoc x f (inverse_of m f))
      ∙ ap (λ (u : ℕ). times m u (inverse_of m f)) (comm x f ∙ e) ∙ zero_times (inverse_of m f)

  -- what has the product 1 with x is its inverse
  pub inverse_only : (x y : ℕ) → x < 2 ^ m → y < 2 ^ m → x ≢ 0 → times m x y ≡ 1 → y ≡ inverse_of m x
  inverse_only x y hx hy nx e =
      sym (one y hy) ∙ ap (times m y) (sym (inverse x hx nx)) ∙ sym (assoc y x (inverse_of m x))
      ∙ ap (λ (u : ℕ). times m u (inverse_of m x)) (comm y x ∙ e)
      ∙ comm 1 (inverse_of m x) ∙ one (inverse_of m x) (inverse_lt x)

-- `simp (ring, F)` proves an equation that holds in every ring of characteristic 2
pub ruleset ring = (
  mul_comm,
  mul_assoc,
  mul_xor,
  left_comm,
  xor_over,
  times_zero,
  zero_times,
  xor_assoc,
  xor_comm,
  xor_left_comm,
  xor_self,
  xor_self_left,
  xor_zero,
  zero_xor,
)
