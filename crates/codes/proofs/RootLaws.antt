-- What roots say of a word: sums that vanish (L), and that a word with r roots is not zero outside r places (A). Assumes nothing.
use mathlib.Core.Path.{◌≡◌, refl, sym, ap, ap₂, ◌∙◌, subst}
use mathlib.Core.Logic.{◌≢◌, ◌⊎◌, ⊎_elim}
use mathlib.Core.List.{List, [], ◌∷◌}
use Prim.Native.Nat.{ℕ, zero, suc, ◌+◌, ◌*◌, ◌^◌, ◌<◌, ◌≤◌}
use native.Mathlib.Nat.{mul-suc, le_refl, not-suc-le-zero}
use native.Mathlib.Omega.{arith}
use native.Mathlib.Decide.{ℕ_discrete}
use lib.ListN.{length}
use Rattle.field.specs.Field.{◌⊕◌, xor_sum, times, alpha_to, length_of}
use Rattle.field.specs.Laws.{Laws}
use Rattle.field.proofs.XorLaws.{xor_zero, xor_self, xor_eq, xor_lt}
use Rattle.field.proofs.XorSumLaws.{xorsum_cong, xorsum_xor, xorsum_one}
use Rattle.field.proofs.RingLaws.{left_comm, xor_over, times_zero, zero_times, cancel}
use Rattle.codes.specs.Codeword.{value_at, ZeroFrom, WordOver}
use Rattle.codes.specs.Lagrange.{unless, others, product_over, Places}

module _ (m : ℕ) (F : Laws m) where
  infixl 70 ◌∗◌
  abbrev ◌∗◌ : ℕ → ℕ → ℕ
  ◌∗◌ = times m

  abbrev n : ℕ
  n = length_of m

  abbrev pw : ℕ → ℕ
  pw = alpha_to m

  open F use {comm, assoc, over_xor, times_lt, one, inverse, pw_zero, pw_add, pw_inj, pw_n, n_pos}

  pub xorsum_times : (k z : ℕ) (f : ℕ → ℕ) → xor_sum k (λ p. z ∗ f p) ≡ z ∗ xor_sum k f
  unfolding xor_sum
  xorsum_times zero z f = sym (times_zero m F z)
  xorsum_times (suc k) z f = ap (λ (u : ℕ). u ⊕ z ∗ f k) (xorsum_times k z f) ∙ sym (over_xor z (xor_sum k f) (f k))

  pub times_product : (x y z : ℕ) (vs : List ℕ) → z ∗ product_over m x y vs ≡ product_over m x (z ∗ y) vs
  unfolding product_over
  times_product x y z [] = refl
  times_product x y z (v ∷ vs) = left_comm m F z (x ⊕ v) (product_over m x y vs) ∙ ap (λ (u : ℕ). (x ⊕ v) ∗ u) (times_product x y z vs)

  next : (y p e : ℕ) → pw p ∗ (y ∗ pw (p * e)) ≡ y ∗ pw (p * suc e)
  next y p e = left_comm m F (pw p) y (pw (p * e)) ∙ ap (λ (u : ℕ). y ∗ u) (sym (pw_add p (p * e)) ∙ ap pw (omega arith))

  pub annihilate : (c : ℕ → ℕ) (b r : ℕ) → ZeroFrom m b r c → (fs : List ℕ) (e : ℕ) → b ≤ e → e + length fs < b + r
      → xor_sum n (λ p. product_over m (pw p) (c p ∗ pw (p * e)) fs) ≡ 0
  unfolding product_over value_at
  annihilate c b r h [] e l k = h e l (omega arith)
  annihilate c b r h (v ∷ fs) e l k =
      xorsum_cong n _ _ (λ p _. xor_over m F (pw p) v (product_over m (pw p) (c p ∗ pw (p * e)) fs)
      ∙ ap (λ (u : ℕ). u ⊕ v ∗ product_over m (pw p) (c p ∗ pw (p * e)) fs)
      (times_product (pw p) (c p ∗ pw (p * e)) (pw p) fs ∙ ap (λ (u : ℕ). product_over m (pw p) u fs) (next (c p) p e)))
      ∙ xorsum_xor n (λ p. product_over m (pw p) (c p ∗ pw (p * suc e)) fs) (λ p. v ∗ product_over m (pw p) (c p ∗ pw (p * e)) fs)
      ∙ ap₂ ◌⊕◌ (annihilate c b r h fs (suc e) (omega arith) (omega arith))
      (xorsum_times n v (λ p. product_over m (pw p) (c p ∗ pw (p * e)) fs) ∙ ap (λ (u : ℕ). v ∗ u) (annihilate c b r h fs e l (omega arith))
      ∙ times_zero m F v)
      ∙ xor_zero 0

  pub pw_lt : (i : ℕ) → pw i < 2 ^ m
  pw_lt i = subst (λ (x : ℕ). x < 2 ^ m) (sym (pw_add 0 i) ∙ ap pw (omega arith)) (times_lt (pw 0) (pw i))

  pub one_lt : 1 < 2 ^ m
  one_lt = subst (λ (x : ℕ). x < 2 ^ m) pw_zero (pw_lt 0)

  pub differ : (u v : ℕ) → u < n → v < n → u ≢ v → pw u ⊕ pw v ≢ 0
  differ u v hu hv ne e = ne (pw_inj u v hu hv (xor_eq (pw u) (pw v) e))

  -- a ^ (n * i) is 1, so that no power is 0
  pub pw_round : (i : ℕ) → pw (n * i) ≡ 1
  pw_round zero = ap pw (omega arith) ∙ pw_zero
  pw_round (suc i) = ap pw (mul-suc n i) ∙ pw_add (n * i) n ∙ ap₂ ◌∗◌ (pw_round i) pw_n ∙ one 1 one_lt

  pub pw_pos : (i : ℕ) → pw i ≢ 0
  pw_pos i e = go n refl
    where
      go : (k : ℕ) → n ≡ k → ⊥
      go zero q = omega (arith, n_pos)
      go (suc k) q =
          let z : ◌≡◌ {A = ℕ} 1 0 = sym (pw_round i) ∙ ap pw (ap (λ (x : ℕ). x * i) q ∙ omega arith) ∙ pw_add i (k * i)
          ∙ ap (λ (u : ℕ). u ∗ pw (k * i)) e ∙ zero_times m F (pw (k * i)) in
          omega arith

  pub product_lt : (x y : ℕ) (vs : List ℕ) → y < 2 ^ m → product_over m x y vs < 2 ^ m
  unfolding product_over
  product_lt x y [] h = h
  product_lt x y (v ∷ vs) h = times_lt (x ⊕ v) (product_over m x y vs)

  pub product_zero : (x : ℕ) (vs : List ℕ) → product_over m x 0 vs ≡ 0
  unfolding product_over
  product_zero x [] = refl
  product_zero x (v ∷ vs) = ap (λ (u : ℕ). (x ⊕ v) ∗ u) (product_zero x vs) ∙ times_zero m F (x ⊕ v)

  add_le : {P : Type 0} (d : Dec P) (v : ℕ) (vs : List ℕ) → length (unless d v vs) ≤ suc (length vs)
  unfolding unless
  add_le (yes e) v vs = omega arith
  add_le (no e) v vs = omega arith

  others_le : (X : ℕ → ℕ) (k i : ℕ) → length (others X k i) ≤ k
  unfolding others
  others_le X zero i = le_refl 0
  others_le X (suc k) i = omega (arith, add_le (ℕ_discrete k i) (X k) (others X k i), others_le X k i)

  add_lt : (k i : ℕ) (d : Dec (k ≡ i)) (v : ℕ) (vs : List ℕ) → i < suc k → length vs ≤ k → (i < k → length vs < k)
      → length (unless d v vs) < suc k
  unfolding unless
  add_lt k i (yes e) v vs l h f = omega arith
  add_lt k i (no e) v vs l h f = let g : length vs < k = f (omega arith) in omega arith

  pub others_lt : (X : ℕ → ℕ) (k i : ℕ) → i < k → length (others X k i) < k
  unfolding others
  others_lt X zero i l = absurd (not-suc-le-zero l)
  others_lt X (suc k) i l = add_lt k i (ℕ_discrete k i) (X k) (others X k i) l (others_le X k i) (others_lt X k i)

  -- x is another of them
  pub others_zero : (X : ℕ → ℕ) (k i j x y : ℕ) → j < k → j ≢ i → x ≡ X j → product_over m x y (others X k i) ≡ 0
  unfolding product_over others unless
  others_zero X zero i j x y l ne e = absurd (not-suc-le-zero l)
  others_zero X (suc k) i j x y l ne e = go (ℕ_discrete k i) (ℕ_discrete j k) (λ h. others_zero X k i j x y h ne e)
    where
      go : (d : Dec (k ≡ i)) → Dec (j ≡ k) → (j < k → product_over m x y (others X k i) ≡ 0)
          → product_over m x y (unless d (X k) (others X k i)) ≡ 0
      go (yes p) q f = f (omega arith)
      go (no p) (yes q) f =
          ap (λ (u : ℕ). u ∗ product_over m x y (others X k i)) (ap (λ (u : ℕ). u ⊕ X k) (e ∙ ap X q) ∙ xor_self (X k))
          ∙ zero_times m F (product_over m x y (others X k i))
      go (no p) (no q) f = ap (λ (u : ℕ). (x ⊕ X k) ∗ u) (f (omega arith)) ∙ times_zero m F (x ⊕ X k)

  -- x is none of them
  pub others_cancel : (X : ℕ → ℕ) (k i x y : ℕ) → y < 2 ^ m → ((j : ℕ) → j < k → j ≢ i → (x ⊕ X j < 2 ^ m) × (x ⊕ X j ≢ 0))
      → product_over m x y (others X k i) ≡ 0 → y ≡ 0
  unfolding product_over others unless
  others_cancel X zero i x y hy h e = e
  others_cancel X (suc k) i x y hy h e = go (ℕ_discrete k i) (others_cancel X k i x y hy (λ j l. h j (omega arith))) e
    where
      go : (d : Dec (k ≡ i)) → (product_over m x y (others X k i) ≡ 0 → y ≡ 0) → product_over m x y (unless d (X k) (others X k i)) ≡ 0
          → y ≡ 0
      go (yes p) f e = f e
      go (no p) f e =
          let hk = h k (le_refl (suc k)) p in
          f (cancel m F (product_over m x y (others X k i)) (x ⊕ X k) (product_lt x y (others X k i) hy) hk.0 hk.1 e)

  -- at one of k different places, the factors of the others are not 0
  pub apart_cancel : (k : ℕ) (U : ℕ → ℕ) → Places m k U → (i y : ℕ) → i < k → y < 2 ^ m
      → product_over m (pw (U i)) y (others (λ v. pw (U v)) k i) ≡ 0 → y ≡ 0
  apart_cancel k U pl i y hi hy =
      others_cancel (λ v. pw (U v)) k i (pw (U i)) y hy
      (λ j hj ne. (
        xor_lt m (pw (U i)) (pw (U j)) (pw_lt (U i)) (pw_lt (U j)),
        differ (U i) (U j) (pl.inside i hi) (pl.inside j hj) (λ e. ne (sym (pl.apart i j hi hj e))),
      ))

  -- (A) a word that is zero but for k positions, with k roots or more one after the other, is zero there too
  pub vanish : (c : ℕ → ℕ) (b r k : ℕ) (U : ℕ → ℕ) → ZeroFrom m b r c → k ≤ r → WordOver m c → Places m k U
      → ((p : ℕ) → p < n → (c p ≡ 0) ⊎ ((j : ℕ) × (j < k) × (p ≡ U j))) → (i : ℕ) → i < k → c (U i) ≡ 0
  vanish c b r k U h l w pl out i hi =
      cancel m F (c (U i)) (pw (U i * b)) (w (U i) (pl.inside i hi)) (pw_lt (U i * b)) (pw_pos (U i * b))
      (comm (pw (U i * b)) (c (U i))
      ∙ apart_cancel k U pl i (c (U i) ∗ pw (U i * b)) hi (times_lt (c (U i)) (pw (U i * b)))
      (sym (xorsum_one n f (U i) (pl.inside i hi) zeros)
      ∙ annihilate c b r h (others X k i) b (le_refl b) (omega (arith, others_lt X k i hi))))
    where
      X : ℕ → ℕ
      X j = pw (U j)

      f : ℕ → ℕ
      f p = product_over m (pw p) (c p ∗ pw (p * b)) (others X k i)

      zeros : (p : ℕ) → p < n → p ≢ U i → f p ≡ 0
      zeros p hp ne =
          ⊎_elim
          (λ e. ap (λ (u : ℕ). product_over m (pw p) u (others X k i)) (ap (λ (u : ℕ). u ∗ pw (p * b)) e ∙ zero_times m F (pw (p * b)))
          ∙ product_zero (pw p) (others X k i))
          (λ t. others_zero X k i t.0 (pw p) (c p ∗ pw (p * b)) t.1 (λ e. ne (t.2 ∙ ap U e)) (ap pw t.2))
          (out p hp)
