-- Polynomials as lists of coefficients, lowest first: one with as many roots as coefficients is zero. Assumes nothing.
use mathlib.Core.Path.{◌≡◌, refl, sym, ap, ◌∙◌}
use mathlib.Core.List.{List, [], ◌∷◌}
use Prim.Native.Nat.{ℕ, zero, suc, ◌^◌, ◌<◌}
use native.Mathlib.Nat.{suc-ne-zero, suc_inj}
use native.Mathlib.Omega.{arith}
use lib.Pow.{pow_pos}
use lib.ListN.{length}
use Rattle.field.specs.Field.{◌⊕◌, times}
use Rattle.field.specs.Laws.{Laws}
use Rattle.field.proofs.XorLaws.{xor_zero, zero_xor, xor_eq, xor_lt}
use Rattle.field.proofs.RingLaws.{times_zero, cancel, ring}

abbrev pub Zeros : List ℕ → Type 0
Zeros [] = Unit
Zeros (c ∷ cs) = (c ≡ 0) × Zeros cs

module _ (m : ℕ) where
  unfoldable pub evaluate : List ℕ → ℕ → ℕ
  evaluate [] x = 0
  evaluate (c ∷ cs) x = c ⊕ times m x (evaluate cs x)

  abbrev pub Elements : List ℕ → Type 0
  Elements [] = Unit
  Elements (c ∷ cs) = (c < 2 ^ m) × Elements cs

module _ (m : ℕ) (F : Laws m) where
  infixl 70 ◌∗◌
  abbrev ◌∗◌ : ℕ → ℕ → ℕ
  ◌∗◌ = times m

  open F use {comm, assoc, over_xor, times_lt, one, inverse}

  -- c ∷ cs divided by x + r
  quotient_by : ℕ → List ℕ → List ℕ
  quotient_by r [] = []
  quotient_by r (c ∷ cs) = evaluate m (c ∷ cs) r ∷ quotient_by r cs

  quo_length : (r : ℕ) (cs : List ℕ) → length (quotient_by r cs) ≡ length cs
  unfolding quotient_by
  quo_length r [] = refl
  quo_length r (c ∷ cs) = ap suc (quo_length r cs)

  regroup : (c r x e q : ℕ) → c ⊕ times m x (e ⊕ times m (x ⊕ r) q) ≡ c ⊕ times m r e ⊕ times m (x ⊕ r) (e ⊕ times m x q)
  regroup c r x e q = simp (ring, F)

  -- the remainder is the value at r
  divide : (c : ℕ) (cs : List ℕ) (r x : ℕ) → evaluate m (c ∷ cs) x ≡ evaluate m (c ∷ cs) r ⊕ (x ⊕ r) ∗ evaluate m (quotient_by r cs) x
  unfolding evaluate quotient_by
  divide c [] r x = simp (ring, F)
  divide c (d ∷ cs) r x =
      ap (λ (u : ℕ). c ⊕ x ∗ u) (divide d cs r x) ∙ regroup c r x (evaluate m (d ∷ cs) r) (evaluate m (quotient_by r cs) x)

  quo_zeros : (r c : ℕ) (cs : List ℕ) → evaluate m (c ∷ cs) r ≡ 0 → Zeros (quotient_by r cs) → Zeros (c ∷ cs)
  unfolding evaluate quotient_by
  quo_zeros r c [] e z = (sym (xor_zero c) ∙ ap (λ (u : ℕ). c ⊕ u) (sym (times_zero m F r)) ∙ e, tt)
  quo_zeros r c (d ∷ cs) e z =
      (sym (xor_zero c) ∙ ap (λ (u : ℕ). c ⊕ u) (sym (ap (λ (u : ℕ). r ∗ u) z.0 ∙ times_zero m F r)) ∙ e, quo_zeros r d cs z.0 z.1)

  evaluate_lt : (cs : List ℕ) (x : ℕ) → Elements m cs → evaluate m cs x < 2 ^ m
  unfolding evaluate
  evaluate_lt [] x h = pow_pos m
  evaluate_lt (c ∷ cs) x h = xor_lt m c (x ∗ evaluate m cs x) h.0 (times_lt x (evaluate m cs x))

  quo_elements : (r : ℕ) (cs : List ℕ) → Elements m cs → Elements m (quotient_by r cs)
  unfolding quotient_by
  quo_elements r [] h = tt
  quo_elements r (c ∷ cs) h = (evaluate_lt (c ∷ cs) r h, quo_elements r cs h.1)

  pub many_roots : (k : ℕ) (cs : List ℕ) → length cs ≡ k → Elements m cs → (X : ℕ → ℕ) → ((i : ℕ) → i < k → X i < 2 ^ m)
      → ((i j : ℕ) → i < k → j < k → X i ≡ X j → i ≡ j) → ((i : ℕ) → i < k → evaluate m cs (X i) ≡ 0) → Zeros cs
  many_roots zero [] l h X hx ne e = tt
  many_roots zero (c ∷ cs) l h X hx ne e = absurd (suc-ne-zero _ l)
  many_roots (suc k) [] l h X hx ne e = tt
  many_roots (suc k) (c ∷ cs) l h X hx ne e =
      quo_zeros r c cs (e 0 (omega arith))
      (many_roots k (quotient_by r cs) (quo_length r cs ∙ suc_inj l) (quo_elements r cs h.1) (λ i. X (suc i))
      (λ i l. hx (suc i) (omega arith))
      (λ i j hi hj q. suc_inj (ne (suc i) (suc j) (omega arith) (omega arith) q))
      (λ i l. cancel m F (evaluate m (quotient_by r cs) (X (suc i))) (X (suc i) ⊕ r)
      (evaluate_lt (quotient_by r cs) (X (suc i)) (quo_elements r cs h.1))
      (xor_lt m (X (suc i)) r (hx (suc i) (omega arith)) (hx 0 (omega arith)))
      (λ z. suc-ne-zero i (ne (suc i) 0 (omega arith) (omega arith) (xor_eq (X (suc i)) r z)))
      (sym (zero_xor _) ∙ ap (λ (u : ℕ). u ⊕ (X (suc i) ⊕ r) ∗ evaluate m (quotient_by r cs) (X (suc i))) (sym (e 0 (omega arith)))
      ∙ sym (divide c cs r (X (suc i))) ∙ e (suc i) (omega arith))))
    where
      r : ℕ
      r = X 0
