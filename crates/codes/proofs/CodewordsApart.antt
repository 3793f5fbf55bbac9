-- Two words with r roots that differ at all differ in more than r places. Assumes nothing.
use mathlib.Core.Path.{◌≡◌, refl, ap, ap₂, ◌∙◌, subst}
use mathlib.Core.Logic.{◌≢◌, ◌⊎◌, inl, inr, ⊎_elim, by_cases}
use mathlib.Core.Bool.{Bool, true, false, not, cond}
use mathlib.Core.List.{List, [], ◌∷◌}
use Prim.Native.Nat.{ℕ, zero, suc, ◌+◌, ◌<◌, ◌≤◌}
use native.Mathlib.Nat.{eq-or-lt_of_le, le_of_suc-le-suc}
use native.Mathlib.Decide.{dec_lt, ℕ_discrete}
use native.Mathlib.Omega.{arith}
use lib.Dec.{T, eqb}
use lib.ListN.{length, get_or}
use Rattle.field.specs.Below.{only, total}
use Rattle.field.specs.Field.{◌⊕◌, length_of}
use Rattle.field.specs.Laws.{Laws}
use Rattle.field.proofs.TestLaws.{ne→not}
use Rattle.field.proofs.XorLaws.{xor_zero, xor_self, xor_eq, xor_lt}
use Rattle.codes.specs.Codeword.{bit_of, RootsFrom}
use Rattle.codes.proofs.WordLaws.{bit_xor, bits_zero}
use Rattle.codes.proofs.RootLaws.{vanish}
use Rattle.codes.proofs.Conjugates.{bit_elem}
use Rattle.codes.proofs.GeneratorRight.{at_bits}

-- f p for the p below n where the test passes
unfoldable pub values_where : ℕ → (ℕ → Bool) → (ℕ → ℕ) → List ℕ
values_where zero t f = []
values_where (suc n) t f = cond (t n) (f n ∷ values_where n t f) (values_where n t f)

values_length : (n : ℕ) (t : ℕ → Bool) (f : ℕ → ℕ) → length (values_where n t f) ≡ total n (λ p. only (t p) 1)
unfolding values_where total
values_length zero t f = refl
values_length (suc n) t f = go (t n) (values_length n t f)
  where
    go : (b : Bool) → length (values_where n t f) ≡ total n (λ p. only (t p) 1)
        → length (cond b (f n ∷ values_where n t f) (values_where n t f)) ≡ total n (λ p. only (t p) 1) + only b 1
    go true e = omega arith
    go false e = omega arith

-- a list of different numbers below n, among them all that pass t
record Lists (n : ℕ) (t : ℕ → Bool) (l : List ℕ) : Type 0 where
  low : (j : ℕ) → j < length l → get_or l j 0 < n
  apart : (i j : ℕ) → i < length l → j < length l → get_or l i 0 ≡ get_or l j 0 → i ≡ j
  reached : (p : ℕ) → p < n → T (t p) → (j : ℕ) × (j < length l) × (p ≡ get_or l j 0)

module _ (n : ℕ) (t : ℕ → Bool) (l : List ℕ) (L : Lists n t l) where
  one_more : Lists (suc n) t (n ∷ l)
  one_more = record { low = low; apart = apart; reached = reached }
    where
      low : (j : ℕ) → j < suc (length l) → get_or (n ∷ l) j 0 < suc n
      low zero h = omega arith
      low (suc j) h = omega (arith, L.low j (omega arith))

      apart : (i j : ℕ) → i < suc (length l) → j < suc (length l) → get_or (n ∷ l) i 0 ≡ get_or (n ∷ l) j 0 → i ≡ j
      apart zero zero a c e = refl
      apart zero (suc j) a c e = absurd (omega (arith, L.low j (omega arith)))
      apart (suc i) zero a c e = absurd (omega (arith, L.low i (omega arith)))
      apart (suc i) (suc j) a c e = ap suc (L.apart i j (omega arith) (omega arith) e)

      reached : (p : ℕ) → p < suc n → T (t p) → (j : ℕ) × (j < suc (length l)) × (p ≡ get_or (n ∷ l) j 0)
      reached p h s =
          ⊎_elim {C = (j : ℕ) × (j < suc (length l)) × (p ≡ get_or (n ∷ l) j 0)} (λ e. (zero, omega arith, e))
          (λ c. let u = L.reached p c s in (suc u.0, omega (arith, u.1), u.2)) (eq-or-lt_of_le (le_of_suc-le-suc h))

  none_more : (T (t n) → ⊥) → Lists (suc n) t l
  none_more f = record {
    low = λ j h. omega (arith, L.low j h);
    apart = L.apart;
    reached =
        λ p h s. ⊎_elim (λ e. absurd (f (subst (λ (x : ℕ). T (t x)) e s))) (λ c. L.reached p c s) (eq-or-lt_of_le (le_of_suc-le-suc h));
  }

lists : (n : ℕ) (t : ℕ → Bool) → Lists n t (values_where n t (λ p. p))
unfolding values_where
lists zero t = record { low = λ j h. absurd (omega arith); apart = λ i j h. absurd (omega arith); reached = λ p h. absurd (omega arith) }
lists (suc n) t = go (t n) refl (lists n t)
  where
    go : (b : Bool) → t n ≡ b → Lists n t (values_where n t (λ p. p))
        → Lists (suc n) t (cond b (n ∷ values_where n t (λ p. p)) (values_where n t (λ p. p)))
    go true e L = one_more n t _ L
    go false e L = none_more n t _ L (λ s. subst T e s)

module _ (m : ℕ) (F : Laws m) (b r : ℕ) (w v : ℕ) (hw : RootsFrom m b r w) (hv : RootsFrom m b r v) where
  abbrev unlike : ℕ → Bool
  unlike p = not (eqb (bit_of w p) (bit_of v p))

  few_none : total (length_of m) (λ p. only (unlike p) 1) ≤ r → w ≡ v
  few_none h =
      xor_eq w v (bits_zero (w ⊕ v) (length_of m) (xor_lt (length_of m) w v hw.bits hv.bits) (λ p hp.
      ⊎_elim (λ e. e) (λ u. ap (bit_of (w ⊕ v)) u.2 ∙ vanish m F (bit_of (w ⊕ v)) b r k U
      (λ e a l. at_bits m F w v e ∙ ap₂ ◌⊕◌ (hw.roots e a l) (hv.roots e a l) ∙ xor_zero 0)
      (omega (arith, h, values_length (length_of m) unlike (λ p. p))) (λ p _. bit_elem m F (w ⊕ v) p)
      (record { inside = L.low; apart = L.apart }) out u.0 u.1) (out p hp)))
    where
      k : ℕ
      k = length (values_where (length_of m) unlike (λ p. p))

      U : ℕ → ℕ
      U j = get_or (values_where (length_of m) unlike (λ p. p)) j 0

      L : Lists (length_of m) unlike (values_where (length_of m) unlike (λ p. p))
      L = lists (length_of m) unlike

      out : (p : ℕ) → p < length_of m → (bit_of (w ⊕ v) p ≡ 0) ⊎ ((j : ℕ) × (j < k) × (p ≡ U j))
      out p hp =
          by_cases (ℕ_discrete (bit_of w p) (bit_of v p))
          (λ e. inl (bit_xor w v p ∙ ap (λ (x : ℕ). x ⊕ bit_of v p) e ∙ xor_self (bit_of v p)))
          (λ n. inr (L.reached p hp (ne→not (bit_of w p) (bit_of v p) n)))

  pub codewords_apart : w ≢ v → r < total (length_of m) (λ p. only (unlike p) 1)
  codewords_apart n = by_cases (dec_lt r (total (length_of m) (λ p. only (unlike p) 1))) (λ l. l) (λ h. absurd (n (few_none (omega arith))))
