-- Numbers below n, n of them and all different, are all the numbers below n. Assumes nothing.
use mathlib.Core.Path.{◌≡◌, refl, sym, ◌∙◌}
use mathlib.Core.Logic.{◌≢◌, ◌⊎◌, inl, inr, ⊎_elim}
use Prim.Native.Nat.{ℕ, zero, suc, ◌<◌}
use native.Mathlib.Nat.{not-suc-le-zero}
use native.Mathlib.Decide.{ℕ_discrete}
use native.Mathlib.Omega.{arith}
use Rattle.field.specs.Field.{length_of}
use Rattle.codes.specs.Lagrange.{Places, AllPlaces}

choose : {P : Type 0} → Dec P → ℕ → ℕ → ℕ
choose (yes p) x y = x
choose (no p) x y = y

-- what the choice came from
chose : {P : Type 0} (d : Dec P) (x y : ℕ) → (P × (choose d x y ≡ x)) ⊎ (¬ P × (choose d x y ≡ y))
unfolding choose
chose (yes p) x y = inl (p, refl)
chose (no p) x y = inr (p, refl)

pub pigeon : (n : ℕ) (R : ℕ → ℕ) → ((j : ℕ) → j < n → R j < n) → ((i j : ℕ) → i < n → j < n → R i ≡ R j → i ≡ j)
    → (p : ℕ) → p < n → (j : ℕ) × (j < n) × (p ≡ R j)
pigeon zero R hi ne p l = absurd (not-suc-le-zero l)
pigeon (suc n) R hi ne p l = go (pigeon n S inside apart) (ℕ_discrete p (R n)) (ℕ_discrete p n)
  where
    -- R with its last value in the place of n
    S : ℕ → ℕ
    S j = choose (ℕ_discrete (R j) n) (R n) (R j)

    facts : (j : ℕ) → ((R j ≡ n) × (S j ≡ R n)) ⊎ ((R j ≢ n) × (S j ≡ R j))
    facts j = chose (ℕ_discrete (R j) n) (R n) (R j)

    last : (j : ℕ) → j < n → R j ≢ R n
    last j h e = let q : j ≡ n = ne j n (omega arith) (omega arith) e in omega arith

    inside : (j : ℕ) → j < n → S j < n
    inside j h = at (facts j)
      where
        at : ((R j ≡ n) × (S j ≡ R n)) ⊎ ((R j ≢ n) × (S j ≡ R j)) → S j < n
        at (inl t) = omega (arith, last j h, hi n (omega arith))
        at (inr t) = omega (arith, hi j (omega arith))

    apart : (i j : ℕ) → i < n → j < n → S i ≡ S j → i ≡ j
    apart i j hi' hj e = at (facts i) (facts j)
      where
        at : ((R i ≡ n) × (S i ≡ R n)) ⊎ ((R i ≢ n) × (S i ≡ R i)) → ((R j ≡ n) × (S j ≡ R n)) ⊎ ((R j ≢ n) × (S j ≡ R j)) → i ≡ j
        at (inl t) (inl u) = ne i j (omega arith) (omega arith) (t.0 ∙ sym u.0)
        at (inl t) (inr u) = absurd (last j hj (sym u.1 ∙ sym e ∙ t.1))
        at (inr t) (inl u) = absurd (last i hi' (sym t.1 ∙ e ∙ u.1))
        at (inr t) (inr u) = ne i j (omega arith) (omega arith) (sym t.1 ∙ e ∙ u.1)

    go : ((q : ℕ) → q < n → (j : ℕ) × (j < n) × (q ≡ S j)) → Dec (p ≡ R n) → Dec (p ≡ n) → (j : ℕ) × (j < suc n) × (p ≡ R j)
    go f (yes e) d = (n, omega arith, e)
    go f (no e) (yes d) =
        let t = f (R n) (omega (arith, hi n (omega arith))) in
        (t.0, omega (arith, t.1), ⊎_elim (λ u. d ∙ sym u.0) (λ u. absurd (last t.0 t.1 (sym (t.2 ∙ u.1)))) (facts t.0))
    go f (no e) (no d) =
        let t = f p (omega arith) in
        (t.0, omega (arith, t.1), ⊎_elim (λ u. absurd (e (t.2 ∙ u.1))) (λ u. t.2 ∙ u.1) (facts t.0))

pub ordered : (m : ℕ) (R : ℕ → ℕ) → Places m (length_of m) R → AllPlaces m R
ordered m R pl = record { places = pl; reached = pigeon (length_of m) R pl.inside pl.apart }
