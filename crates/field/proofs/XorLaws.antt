-- The sum of two elements: a commutative group in which each number is its own inverse; its digits. Assumes nothing.
use mathlib.Core.Path.{◌≡◌, refl, sym, ap, ap₂, ◌∙◌}
use Prim.Native.Nat.{ℕ, ◌+◌, ◌*◌, ◌/◌, ◌%◌, ◌^◌, ◌<◌}
use native.Mathlib.Nat.{div-add-mod', mod-lt, zero-lt-suc, add-zero}
use lib.Arith.{bin_ind}
use lib.Bits as B
use Rattle.field.specs.Field.{◌⊕◌}
use Rattle.field.proofs.TestLaws.{agree3}

pub xor_zero : (x : ℕ) → x ⊕ 0 ≡ x
unfolding ◌⊕◌
xor_zero x = B.xor_zero_r x

pub zero_xor : (x : ℕ) → 0 ⊕ x ≡ x
unfolding ◌⊕◌
zero_xor x = refl

pub xor_self : (x : ℕ) → x ⊕ x ≡ 0
unfolding ◌⊕◌
xor_self x = B.xor_self x

pub xor_comm : (x y : ℕ) → x ⊕ y ≡ y ⊕ x
unfolding ◌⊕◌
xor_comm x y = B.xor_comm x y

pub xor_half : (x y : ℕ) → (x ⊕ y) / 2 ≡ x / 2 ⊕ y / 2
unfolding ◌⊕◌
xor_half x y = B.xor_shr x y 1

pub xor_odd : (x y : ℕ) → (x ⊕ y) % 2 ≡ x % 2 ⊕ y % 2
unfolding ◌⊕◌
xor_odd x y = B.xor_mod x y 1

digit : (x y z : ℕ) → x < 2 → y < 2 → z < 2 → x ⊕ y ⊕ z ≡ x ⊕ (y ⊕ z)
unfolding ◌⊕◌
digit = agree3 2 (λ x y z. x ⊕ y ⊕ z) (λ x y z. x ⊕ (y ⊕ z)) tt

pub xor_assoc : (x y z : ℕ) → x ⊕ y ⊕ z ≡ x ⊕ (y ⊕ z)
xor_assoc =
    bin_ind (λ (x : ℕ). (y z : ℕ) → x ⊕ y ⊕ z ≡ x ⊕ (y ⊕ z)) (λ y z. ap (λ (u : ℕ). u ⊕ z) (zero_xor y) ∙ sym (zero_xor (y ⊕ z)))
    (λ x ih y z. sym (div-add-mod' (x ⊕ y ⊕ z) 2)
    ∙ simp (xor_half, xor_odd) (ap₂ (λ (p q : ℕ). p * 2 + q) (ih (y / 2) (z / 2))
    (digit _ _ _ (mod-lt x (zero-lt-suc 1)) (mod-lt y (zero-lt-suc 1)) (mod-lt z (zero-lt-suc 1))))
    ∙ div-add-mod' (x ⊕ (y ⊕ z)) 2)

pub xor_left_comm : (x y z : ℕ) → x ⊕ (y ⊕ z) ≡ y ⊕ (x ⊕ z)
xor_left_comm x y z = sym (xor_assoc x y z) ∙ ap (λ (u : ℕ). u ⊕ z) (xor_comm x y) ∙ xor_assoc y x z

-- sums are sorted alike on both sides of an equation
pub ruleset xor_sort = (xor_assoc, xor_comm, xor_left_comm)

pub xor_swap : (x y z w : ℕ) → x ⊕ y ⊕ (z ⊕ w) ≡ x ⊕ z ⊕ (y ⊕ w)
xor_swap x y z w = simp xor_sort

pub xor_cancel : (x y : ℕ) → x ⊕ y ⊕ y ≡ x
xor_cancel x y = xor_assoc x y y ∙ ap (λ (u : ℕ). x ⊕ u) (xor_self y) ∙ xor_zero x

pub xor_eq : (x y : ℕ) → x ⊕ y ≡ 0 → x ≡ y
xor_eq x y e = sym (xor_cancel x y) ∙ ap (λ (u : ℕ). u ⊕ y) e ∙ zero_xor y

pub xor_lt : (m x y : ℕ) → x < 2 ^ m → y < 2 ^ m → x ⊕ y < 2 ^ m
unfolding ◌⊕◌
xor_lt = B.xor_lt

pub xor_right_comm : (x y z : ℕ) → x ⊕ y ⊕ z ≡ x ⊕ z ⊕ y
xor_right_comm x y z = simp xor_sort

pub xor_mod : (x y k : ℕ) → (x ⊕ y) % 2 ^ k ≡ x % 2 ^ k ⊕ y % 2 ^ k
unfolding ◌⊕◌
xor_mod = B.xor_mod

pub xor_shr : (x y k : ℕ) → (x ⊕ y) / 2 ^ k ≡ x / 2 ^ k ⊕ y / 2 ^ k
unfolding ◌⊕◌
xor_shr = B.xor_shr

pub xor_double : (x y : ℕ) → (x ⊕ y) * 2 ≡ x * 2 ⊕ y * 2
unfolding ◌⊕◌
xor_double x y =
    sym (add-zero ((x ⊕ y) * 2)) ∙ sym (B.xor_block 1 x y 0 0 (zero-lt-suc 1) (zero-lt-suc 1))
    ∙ ap₂ ◌⊕◌ (add-zero (x * 2)) (add-zero (y * 2))

pub xor_self_left : (x y : ℕ) → x ⊕ (x ⊕ y) ≡ y
xor_self_left x y = sym (xor_assoc x x y) ∙ ap (λ (u : ℕ). u ⊕ y) (xor_self x) ∙ zero_xor y
