-- Of the numbers b, .., b + r - 1 the lowest at which f is not 0: there is one at most, and `lowest_of` finds it. Assumes nothing.
use mathlib.Core.Path.{◌≡◌, refl, sym, ap, ap₂, ◌∙◌, subst}
use mathlib.Core.Logic.{◌≢◌, ◌⊎◌, inl, inr, ⊎_elim}
use mathlib.Core.Bool.{Bool, cond}
use Prim.Native.Nat.{ℕ, zero, suc, ◌+◌, ◌<◌, ◌≤◌}
use native.Mathlib.Nat.{eq-or-lt_of_le, lt_of_not-le}
use native.Mathlib.Decide.{ℕ_discrete, dec_le}
use native.Mathlib.Omega.{arith}
use lib.Dec.{eqb, eqb→eq}
use Rattle.field.specs.Lowest.{Lowest, lowest_of}
use Rattle.field.proofs.TestLaws.{is_false}

module _ (f : ℕ → ℕ) where
  none : (b : ℕ) → lowest_of b 0 f ≡ b
  unfolding lowest_of
  none b = refl

  past : (b r : ℕ) → f b ≡ 0 → lowest_of b (suc r) f ≡ lowest_of (suc b) r f
  unfolding lowest_of
  past b r z = ap (λ (x : ℕ). cond (eqb x 0) (lowest_of (suc b) r f) b) z

  here : (b r : ℕ) → f b ≢ 0 → lowest_of b (suc r) f ≡ b
  unfolding lowest_of
  here b r n = ap (λ (x : Bool). cond x (lowest_of (suc b) r f) b) (is_false (eqb (f b) 0) (λ t. n (eqb→eq (f b) 0 t)))

  -- what holds at b and from suc b on holds from b on
  from_next : (b : ℕ) (P : ℕ → Type 0) → P b → ((i : ℕ) → suc b ≤ i → P i) → (i : ℕ) → b ≤ i → P i
  from_next b P h k i l = ⊎_elim (λ e. subst P e h) (λ m. k i m) (eq-or-lt_of_le l)

  -- f is 0 below e, and is not at e or e is past the last: so a loop over the numbers ends
  pub lowest_at : (b r e : ℕ) → b ≤ e → e ≤ b + r → ((i : ℕ) → b ≤ i → i < e → f i ≡ 0) → (e < b + r → f e ≢ 0) → lowest_of b r f ≡ e
  lowest_at b zero e l h z n = none b ∙ omega arith
  lowest_at b (suc r) e l h z n =
      ⊎_elim (λ (q : b ≡ e). here b r (subst (λ (x : ℕ). f x ≢ 0) (sym q) (n (omega arith))) ∙ q)
      (λ (k : b < e). past b r (z b (omega arith) k)
      ∙ lowest_at (suc b) r e k (omega arith) (λ i a. z i (omega arith)) (λ k. n (omega arith)))
      (eq-or-lt_of_le l)

  pub lowest_is : (b r e : ℕ) → Lowest b r f e → lowest_of b r f ≡ e
  lowest_is b r e h = let l = h.high in lowest_at b r e h.low (omega arith) h.lower (λ _. h.nonzero)

  -- f is 0 at all of them, or there is a lowest
  pub lowest_cases : (b r : ℕ) → ((i : ℕ) → b ≤ i → i < b + r → f i ≡ 0) ⊎ Lowest b r f (lowest_of b r f)
  lowest_cases b zero = inl (λ i l h. absurd (omega arith))
  lowest_cases b (suc r) = go (ℕ_discrete (f b) 0) (lowest_cases (suc b) r)
    where
      go : Dec (f b ≡ 0) → ((i : ℕ) → suc b ≤ i → i < suc b + r → f i ≡ 0) ⊎ Lowest (suc b) r f (lowest_of (suc b) r f)
          → ((i : ℕ) → b ≤ i → i < b + suc r → f i ≡ 0) ⊎ Lowest b (suc r) f (lowest_of b (suc r) f)
      go (no n) _ = inr (subst (Lowest b (suc r) f) (sym (here b r n))
          (record { low = omega arith; high = omega arith; nonzero = n; lower = λ i l h. absurd (omega arith) }))
      go (yes z) (inl h) = inl (from_next b (λ i. i < b + suc r → f i ≡ 0) (λ _. z) (λ i l k. h i l (omega arith)))
      go (yes z) (inr h) = inr (subst (Lowest b (suc r) f) (sym (past b r z)) (let l = h.low in let k = h.high in record {
        low = omega arith;
        high = omega arith;
        nonzero = h.nonzero;
        lower = from_next b (λ i. i < lowest_of (suc b) r f → f i ≡ 0) (λ _. z) h.lower;
      }))

-- the lowest is at most any at which f is not 0, and one of them that is so is the lowest
module _ (f : ℕ → ℕ) (b r e : ℕ) where
  pub lowest_most : Lowest b r f e → (i : ℕ) → b ≤ i → f i ≢ 0 → e ≤ i
  lowest_most h i l n = go (dec_le e i)
    where
      go : Dec (e ≤ i) → e ≤ i
      go (yes k) = k
      go (no k) = absurd (n (h.lower i l (lt_of_not-le k)))

  pub lowest_by : b ≤ e → e < b + r → f e ≢ 0 → ((i : ℕ) → b ≤ i → i < b + r → f i ≢ 0 → e ≤ i) → Lowest b r f e
  lowest_by l h n k = record { low = l; high = h; nonzero = n; lower = λ i a c. go i a c (ℕ_discrete (f i) 0) }
    where
      go : (i : ℕ) → b ≤ i → i < e → Dec (f i ≡ 0) → f i ≡ 0
      go i a c (yes z) = z
      go i a c (no z) = let q = k i a (omega arith) z in absurd (omega arith)

-- it goes by f at these numbers alone
pub lowest_cong : (b r : ℕ) (f g : ℕ → ℕ) → ((i : ℕ) → b ≤ i → i < b + r → f i ≡ g i) → lowest_of b r f ≡ lowest_of b r g
unfolding lowest_of
lowest_cong b zero f g h = refl
lowest_cong b (suc r) f g h =
    ap₂ (λ (x rest : ℕ). cond (eqb x 0) rest b) (h b (omega arith) (omega arith))
    (lowest_cong (suc b) r f g (λ i l k. h i (omega arith) (omega arith)))
