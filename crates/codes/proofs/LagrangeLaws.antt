-- The Lagrange word: it takes the given values and has the roots (B), and a word has the roots exactly when it is one (C). Assumes nothing.
use mathlib.Core.Path.{◌≡◌, refl, sym, ap, ap₂, ◌∙◌}
use mathlib.Core.Logic.{◌≢◌, inl, inr, by_cases}
use mathlib.Core.List.{List, [], ◌∷◌}
use Prim.Native.Nat.{ℕ, zero, suc, ◌+◌, ◌-◌, ◌*◌, ◌^◌, ◌<◌, ◌≤◌}
use native.Mathlib.Nat.{le_refl}
use native.Mathlib.Omega.{arith}
use native.Mathlib.Decide.{ℕ_discrete, dec_lt}
use Rattle.field.specs.Field.{◌⊕◌, xor_sum, times, inverse_of, alpha_to, length_of}
use Rattle.field.specs.Laws.{Laws}
use Rattle.field.proofs.XorLaws.{xor_zero, xor_self, xor_cancel, xor_eq, xor_lt}
use Rattle.field.proofs.XorSumLaws.{xorsum_cong, xorsum_zero, xorsum_xor, xorsum_one, xorsum_xorsum, xorsum_shift, xorsum_lt}
use Rattle.field.proofs.RingLaws.{xor_over, times_zero, cancel, ring}
use Rattle.codes.specs.Codeword.{value_at, ZeroFrom, WordOver}
use Rattle.codes.specs.Lagrange.{unless, others, product_over, Places, quotients, cell, lagrange, AllPlaces}
use Rattle.codes.proofs.RootLaws.{xorsum_times, times_product, annihilate, pw_lt, differ, pw_round, pw_pos, others_lt, others_zero}
use Rattle.codes.proofs.RootLaws.{vanish, one_lt}

module _ (m : ℕ) (F : Laws m) where
  infixl 70 ◌∗◌
  abbrev ◌∗◌ : ℕ → ℕ → ℕ
  ◌∗◌ = times m

  abbrev n : ℕ
  n = length_of m

  abbrev pw : ℕ → ℕ
  pw = alpha_to m

  open F use {comm, assoc, over_xor, times_lt, one, inverse, pw_zero, pw_add, pw_inj, pw_n, n_pos}

  -- (G) the word of ones is zero at a ^ 1, .., a ^ (n - 1)
  geometric : (e : ℕ) → 1 ≤ e → e < n → xor_sum n (λ p. pw (p * e)) ≡ 0
  geometric e l h =
      cancel m F s (pw e ⊕ 1) (xorsum_lt m n f (λ p _. pw_lt m F (p * e))) (xor_lt m (pw e) 1 (pw_lt m F e) (one_lt m F))
      (λ z. let q : e ≡ 0 = pw_inj e 0 h n_pos (xor_eq (pw e) 1 z ∙ sym pw_zero) in omega arith)
      (xor_over m F (pw e) 1 s ∙ ap₂ ◌⊕◌ fixed (comm 1 s ∙ one s (xorsum_lt m n f (λ p _. pw_lt m F (p * e)))) ∙ xor_self s)
    where
      f : ℕ → ℕ
      f p = pw (p * e)

      s : ℕ
      s = xor_sum n f

      fixed : pw e ∗ s ≡ s
      fixed =
          sym (xorsum_times m F n (pw e) f)
          ∙ xorsum_cong n (λ p. pw e ∗ f p) (λ p. f (suc p)) (λ p _. sym (pw_add e (p * e)) ∙ ap pw (omega arith))
          ∙ sym (xor_cancel (xor_sum n (λ p. f (suc p))) 1)
          ∙ ap (λ (u : ℕ). u ⊕ 1) (ap (λ (u : ℕ). xor_sum n (λ p. f (suc p)) ⊕ u) (sym pw_zero ∙ ap pw (omega arith)) ∙ xorsum_shift n f
          ∙ ap (λ (u : ℕ). s ⊕ u) (pw_round m F e))
          ∙ xor_cancel s 1

  pub ones_roots : ZeroFrom m 1 (n - 1) (λ p. 1)
  unfolding value_at
  ones_roots e l h =
      xorsum_cong n _ _ (λ p _. comm 1 (pw (p * e)) ∙ one (pw (p * e)) (pw_lt m F (p * e))) ∙ geometric e l (omega (arith, n_pos))

  dens : ℕ → List ℕ → ℕ
  dens y [] = 1
  dens y (v ∷ vs) = inverse_of m (y ⊕ v) ∗ dens y vs

  quotients_product : (x y : ℕ) (vs : List ℕ) → quotients m x y vs ≡ product_over m x (dens y vs) vs
  unfolding quotients product_over dens
  quotients_product x y [] = refl
  quotients_product x y (v ∷ vs) =
      assoc (x ⊕ v) (inverse_of m (y ⊕ v)) (quotients m x y vs)
      ∙ ap (λ (u : ℕ). (x ⊕ v) ∗ u) (ap (λ (u : ℕ). inverse_of m (y ⊕ v) ∗ u) (quotients_product x y vs)
      ∙ times_product m F x (dens y vs) (inverse_of m (y ⊕ v)) vs)

  others_one : (X : ℕ → ℕ) (k i x : ℕ) → ((j : ℕ) → j < k → j ≢ i → (x ⊕ X j < 2 ^ m) × (x ⊕ X j ≢ 0)) → quotients m x x (others X k i) ≡ 1
  unfolding quotients others unless
  others_one X zero i x h = refl
  others_one X (suc k) i x h = go (ℕ_discrete k i) (others_one X k i x (λ j l. h j (omega arith)))
    where
      go : (d : Dec (k ≡ i)) → quotients m x x (others X k i) ≡ 1 → quotients m x x (unless d (X k) (others X k i)) ≡ 1
      go (yes p) e = e
      go (no p) e = let hk = h k (le_refl (suc k)) p in ap₂ ◌∗◌ (inverse (x ⊕ X k) hk.0 hk.1) e ∙ one 1 (one_lt m F)

  sort : (x b y v d z : ℕ)
      → times m x (times m b (times m (times m y v) (times m d z))) ≡ times m (times m b (times m v d)) (times m (times m x y) z)
  sort x b y v d z = simp (ring, F)

  dens_lt : (y : ℕ) (vs : List ℕ) → dens y vs < 2 ^ m
  unfolding dens
  dens_lt y [] = (one_lt m F)
  dens_lt y (v ∷ vs) = times_lt (inverse_of m (y ⊕ v)) (dens y vs)

  out : (x y : ℕ) (vs : List ℕ) → y < 2 ^ m → product_over m x y vs ≡ times m y (product_over m x 1 vs)
  out x y vs h = sym (times_product m F x 1 y vs ∙ ap (λ (u : ℕ). product_over m x u vs) (one y h))

  cell_product : (s : ℕ) (R : ℕ → ℕ) (k j p : ℕ)
      → cell m s R k j p ≡ times m (times m (pw (p * s)) (inverse_of m (pw (R j * s))))
      (times m (dens (pw (R j)) (others (λ i. pw (R i)) k j)) (product_over m (pw p) 1 (others (λ i. pw (R i)) k j)))
  unfolding cell
  cell_product s R k j p =
      ap (λ (u : ℕ). times m (times m (pw (p * s)) (inverse_of m (pw (R j * s)))) u)
      (quotients_product (pw p) (pw (R j)) fs ∙ out (pw p) (dens (pw (R j)) fs) fs (dens_lt (pw (R j)) fs))
    where
      fs : List ℕ
      fs = others (λ i. pw (R i)) k j

  cell_one : (s : ℕ) (R : ℕ → ℕ) (k i : ℕ) → Places m k R → i < k → cell m s R k i (R i) ≡ 1
  unfolding cell
  cell_one s R k i pl hi =
      ap₂ ◌∗◌ (inverse (pw (R i * s)) (pw_lt m F (R i * s)) (pw_pos m F (R i * s)))
      (others_one (λ j. pw (R j)) k i (pw (R i)) (λ j hj ne. (
        xor_lt m (pw (R i)) (pw (R j)) (pw_lt m F (R i)) (pw_lt m F (R j)),
        differ m F (R i) (R j) (pl.inside i hi) (pl.inside j hj) (λ e. ne (sym (pl.apart i j hi hj e))),
      )))
      ∙ one 1 (one_lt m F)

  cell_zero : (s : ℕ) (R : ℕ → ℕ) (k i j : ℕ) → i < k → i ≢ j → cell m s R k j (R i) ≡ 0
  unfolding cell
  cell_zero s R k i j hi ne =
      ap (λ (u : ℕ). times m (times m (pw (R i * s)) (inverse_of m (pw (R j * s)))) u)
      (quotients_product (pw (R i)) (pw (R j)) (others X k j)
      ∙ others_zero m F X k j i (pw (R i)) (dens (pw (R j)) (others X k j)) hi ne refl)
      ∙ times_zero m F _
    where
      X : ℕ → ℕ
      X j = pw (R j)

  -- (B) it takes these values
  pub lagrange_at : (s : ℕ) (R : ℕ → ℕ) (k : ℕ) (b : ℕ → ℕ) → Places m k R → ((j : ℕ) → j < k → b j < 2 ^ m) → (i : ℕ) → i < k
      → lagrange m s R k b (R i) ≡ b i
  unfolding lagrange
  lagrange_at s R k b pl hb i hi =
      xorsum_one k (λ j. times m (b j) (cell m s R k j (R i))) i hi
      (λ j hj ne. ap (times m (b j)) (cell_zero s R k i j hi (λ e. ne (sym e))) ∙ times_zero m F (b j))
      ∙ ap (times m (b i)) (cell_one s R k i pl hi) ∙ one (b i) (hb i hi)

  -- and has roots
  pub lagrange_roots : (o s : ℕ) → o + s ≡ 1 → (R : ℕ → ℕ) (k r : ℕ) (b : ℕ → ℕ) → k + r ≤ n → ZeroFrom m o r (lagrange m s R k b)
  unfolding lagrange value_at
  lagrange_roots o s os R k r b h e l he =
      xorsum_cong n _ _ (λ p _. comm (xor_sum k (g p)) (pw (p * e)) ∙ sym (xorsum_times m F k (pw (p * e)) (g p)))
      ∙ xorsum_xorsum n k (λ p j. pw (p * e) ∗ g p j)
      ∙ xorsum_zero k _ (λ j hj.
      xorsum_cong n (λ p. pw (p * e) ∗ g p j) (λ p. q j ∗ product_over m (pw p) (1 ∗ pw (p * (e + s))) (fs j)) (λ p _. turn p j)
      ∙ xorsum_times m F n (q j) (λ p. product_over m (pw p) (1 ∗ pw (p * (e + s))) (fs j))
      ∙ ap (λ (u : ℕ). q j ∗ u) (annihilate m F (λ p. 1) 1 (n - 1) ones_roots (fs j) (e + s) (omega arith)
      (omega (arith, others_lt m F (λ j. pw (R j)) k j hj)))
      ∙ times_zero m F (q j))
    where
      fs : ℕ → List ℕ
      fs j = others (λ j. pw (R j)) k j

      q : ℕ → ℕ
      q j = times m (b j) (times m (inverse_of m (pw (R j * s))) (dens (pw (R j)) (fs j)))

      g : ℕ → ℕ → ℕ
      g p j = times m (b j) (cell m s R k j p)

      turn : (p j : ℕ) → times m (pw (p * e)) (g p j) ≡ times m (q j) (product_over m (pw p) (times m 1 (pw (p * (e + s)))) (fs j))
      turn p j =
          ap (λ (u : ℕ). times m (pw (p * e)) (times m (b j) u)) (cell_product s R k j p)
          ∙ sort (pw (p * e)) (b j) (pw (p * s)) (inverse_of m (pw (R j * s))) (dens (pw (R j)) (fs j)) (product_over m (pw p) 1 (fs j))
          ∙ ap (times m (q j)) (ap (λ (u : ℕ). times m u (product_over m (pw p) 1 (fs j)))
          (sym (pw_add (p * e) (p * s)) ∙ ap pw (omega arith)
          ∙ sym (comm 1 (pw (p * (e + s))) ∙ one (pw (p * (e + s))) (pw_lt m F (p * (e + s)))))
          ∙ sym (out (pw p) (times m 1 (pw (p * (e + s)))) (fs j) (times_lt 1 (pw (p * (e + s))))))

  pub at_xor : (c d : ℕ → ℕ) (e : ℕ) → value_at m (λ p. c p ⊕ d p) e ≡ value_at m c e ⊕ value_at m d e
  unfolding value_at
  at_xor c d e =
      xorsum_cong n _ _ (λ p _. xor_over m F (c p) (d p) (pw (p * e))) ∙ xorsum_xor n (λ p. c p ∗ pw (p * e)) (λ p. d p ∗ pw (p * e))

  pub lagrange_lt : (s : ℕ) (R : ℕ → ℕ) (k : ℕ) (b : ℕ → ℕ) (p : ℕ) → lagrange m s R k b p < 2 ^ m
  unfolding lagrange
  lagrange_lt s R k b p = xorsum_lt m k _ (λ j _. times_lt (b j) _)

  -- (C) a word has the roots if and only if each symbol outside the first k is the Lagrange sum of those
  module _ (o s : ℕ) (os : o + s ≡ 1) (R : ℕ → ℕ) (k r : ℕ) (c : ℕ → ℕ) (ord : AllPlaces m R) (size : k + r ≡ n) (w : WordOver m c) where
    seen : ℕ → ℕ
    seen j = c (R j)

    first : Places m k R
    first = record {
      inside = λ j l. ord.places.inside j (omega arith);
      apart = λ i j hi hj. ord.places.apart i j (omega arith)
          (omega arith);
    }

    agrees : (i : ℕ) → i < k → lagrange m s R k seen (R i) ≡ c (R i)
    unfolding seen
    agrees = lagrange_at s R k seen first (λ j l. w (R j) (first.inside j l))

    pub roots→lagrange : ZeroFrom m o r c → (j : ℕ) → k ≤ j → j < n → c (R j) ≡ lagrange m s R k (λ i. c (R i)) (R j)
    unfolding seen
    roots→lagrange h j l hj =
        xor_eq (c (R j)) (v (R j))
        (ap (λ (x : ℕ). d (R x)) (omega arith)
        ∙ vanish m F d o r r U (λ e l he. at_xor c v e ∙ ap₂ ◌⊕◌ (h e l he) (lagrange_roots o s os R k r seen (omega arith) e l he)
        ∙ xor_zero 0) (le_refl r)
        (λ p hp. xor_lt m (c p) (v p) (w p hp) (lagrange_lt s R k seen p))
        (record {
          inside = λ j l. ord.places.inside (k + j) (omega arith);
          apart = λ i j hi hj e. let q : k + i ≡ k + j =
              ord.places.apart (k + i) (k + j) (omega arith) (omega arith) e in omega arith;
        })
        (λ p hp. let t = ord.reached p hp in
        by_cases (dec_lt t.0 k) (λ l. inl (ap d t.2 ∙ ap (λ (u : ℕ). c (R t.0) ⊕ u) (agrees t.0 l) ∙ xor_self (c (R t.0))))
        (λ nl. let a = t.0 in inr (a - k, omega (arith, t.1), t.2 ∙ ap R (omega arith))))
        (j - k) (omega arith))
      where
        v : ℕ → ℕ
        v = lagrange m s R k seen

        d : ℕ → ℕ
        d p = c p ⊕ v p

        U : ℕ → ℕ
        U i = R (k + i)

    pub lagrange→roots : ((j : ℕ) → k ≤ j → j < n → c (R j) ≡ lagrange m s R k (λ i. c (R i)) (R j)) → ZeroFrom m o r c
    unfolding seen value_at
    lagrange→roots h e l he =
        xorsum_cong n _ _ (λ p hp. let t = ord.reached p hp in
        ap (λ (u : ℕ). u ∗ pw (p * e))
        (ap c t.2 ∙ by_cases (dec_lt t.0 k) (λ l. sym (agrees t.0 l)) (λ nl. h t.0 (omega arith) t.1)
        ∙ ap (lagrange m s R k seen) (sym t.2)))
        ∙ lagrange_roots o s os R k r seen (omega arith) e l he
