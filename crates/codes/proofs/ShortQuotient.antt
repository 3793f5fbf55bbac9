-- (S) as a quotient of products over all places outside: where x + X v is X v times B v for each of them, a spread is a product of
-- the B v, and the X v, which every spread of a row has, cancel. Assumes nothing.
use mathlib.Core.Path.{◌≡◌, sym, ap, ap₂, ◌∙◌}
use mathlib.Core.Logic.{◌≢◌}
use Prim.Native.Nat.{ℕ, zero, suc, ◌*◌, ◌^◌, ◌<◌, ◌≤◌}
use native.Mathlib.Nat.{le_refl}
use native.Mathlib.Decide.{ℕ_discrete}
use native.Mathlib.Omega.{arith}
use Rattle.field.specs.Field.{◌⊕◌, times, inverse_of, alpha_to, length_of}
use Rattle.field.specs.Laws.{Laws}
use Rattle.field.proofs.XorLaws.{zero_xor}
use Rattle.field.proofs.RingLaws.{ring}
use Rattle.codes.specs.Lagrange.{Places, unless, others, product_over, spread, short_cell}
use Rattle.codes.proofs.RootLaws.{pw_lt, pw_pos, product_lt, apart_cancel}

module _ (m : ℕ) where
  -- y times B 0, .., B (k - 1)
  unfoldable pub grown : (ℕ → ℕ) → ℕ → ℕ → ℕ
  grown B y zero = y
  grown B y (suc k) = times m (grown B y k) (B k)

module _ (m : ℕ) (F : Laws m) where
  open F use {comm, assoc, times_lt, one, inverse}

  infixl 70 ◌∗◌
  abbrev ◌∗◌ : ℕ → ℕ → ℕ
  ◌∗◌ = times m

  regroup : (x b c g : ℕ) → x ∗ b ∗ (c ∗ g) ≡ (0 ⊕ x) ∗ c ∗ (g ∗ b)
  regroup x b c g = rw (zero_xor x) (simp (ring, F))

  module _ (X B : ℕ → ℕ) (x y o : ℕ) (hy : y < 2 ^ m) where
    -- the product of the X v that are not left out
    abbrev C : ℕ → ℕ
    C k = product_over m 0 1 (others X k o)

    abbrev P : ℕ → ℕ
    P k = product_over m x y (others X k o)

    Factors : ℕ → Type 0
    Factors k = (v : ℕ) → v < k → v ≢ o → x ⊕ X v ≡ X v ∗ B v

    abbrev G : ℕ → ℕ
    G = grown m B y

    -- up to the one that is left out
    before : (k : ℕ) → k ≤ o → Factors k → P k ≡ C k ∗ G k
    unfolding product_over others unless grown Factors
    before zero l h = sym (comm 1 y ∙ one y hy)
    before (suc k) l h = go (ℕ_discrete k o) (before k (omega arith) (λ v lv. h v (omega arith)))
      where
        go : (d : Dec (k ≡ o)) → P k ≡ C k ∗ G k
            → product_over m x y (unless d (X k) (others X k o)) ≡ product_over m 0 1 (unless d (X k) (others X k o)) ∗ (G k ∗ B k)
        go (yes e) f = absurd (omega arith)
        go (no e) f = ap₂ ◌∗◌ (h k (le_refl (suc k)) e) f ∙ regroup (X k) (B k) (C k) (G k)

    -- past it, the product that takes them all has a factor more
    past : (k : ℕ) → o < k → Factors k → P k ∗ B o ≡ C k ∗ G k
    unfolding product_over others unless grown Factors
    past zero l h = absurd (omega arith)
    past (suc k) l h =
        go (ℕ_discrete k o) (λ q. before k q (λ v lv. h v (omega arith))) (λ q. past k q (λ v lv. h v (omega arith)))
      where
        go : (d : Dec (k ≡ o)) → (k ≤ o → P k ≡ C k ∗ G k) → (o < k → P k ∗ B o ≡ C k ∗ G k)
            → product_over m x y (unless d (X k) (others X k o)) ∗ B o ≡ product_over m 0 1 (unless d (X k) (others X k o)) ∗ (G k ∗ B k)
        go (yes e) f g = ap₂ ◌∗◌ (f (omega arith)) (ap B (sym e)) ∙ assoc (C k) (G k) (B k)
        go (no e) f g =
            ap (λ (u : ℕ). u ∗ P k ∗ B o) (h k (le_refl (suc k)) e) ∙ assoc (X k ∗ B k) (P k) (B o)
            ∙ ap (λ (u : ℕ). X k ∗ B k ∗ u) (g (omega arith))
            ∙ regroup (X k) (B k) (C k) (G k)

  cancel_right : (x y b : ℕ) → x < 2 ^ m → y < 2 ^ m → b < 2 ^ m → b ≢ 0 → x ∗ b ≡ y ∗ b → x ≡ y
  cancel_right x y b hx hy hb nb e = sym (back x hx) ∙ ap (λ (u : ℕ). u ∗ inverse_of m b) e ∙ back y hy
    where
      back : (z : ℕ) → z < 2 ^ m → z ∗ b ∗ inverse_of m b ≡ z
      back z hz = assoc z b (inverse_of m b) ∙ ap (λ (u : ℕ). z ∗ u) (inverse b hb nb) ∙ one z hz

  -- U v are the places outside, and B p v tells a^p from a^(U v): 1 at the place itself, else the factor that makes a^(U v) their sum
  module _ (b r : ℕ) (U : ℕ → ℕ) (places : Places m r U) (B : ℕ → ℕ → ℕ)
      (element : (p v : ℕ) → (B p v < 2 ^ m) × (B p v ≢ 0))
      (own : (o : ℕ) → o < r → B (U o) o ≡ 1)
      (factor : (p v : ℕ) → p < length_of m → v < r → p ≢ U v → alpha_to m p ⊕ alpha_to m (U v) ≡ alpha_to m (U v) ∗ B p v) where
    -- a^(bp) times B p 0, .., B p (r - 1)
    abbrev Q : ℕ → ℕ
    Q p = grown m (B p) (alpha_to m (p * b)) r

    abbrev X : ℕ → ℕ
    X v = alpha_to m (U v)

    module _ (o : ℕ) (ho : o < r) where
      spread_grown : (p : ℕ) → p < length_of m → ((v : ℕ) → v < r → v ≢ o → p ≢ U v)
          → spread m b r U o p ∗ B p o ≡ product_over m 0 1 (others X r o) ∗ Q p
      unfolding spread Factors
      spread_grown p hp other =
          past X (B p) (alpha_to m p) (alpha_to m (p * b)) o (pw_lt m F (p * b)) r ho (λ v lv ne. factor p v hp lv (other v lv ne))

      apart : (v : ℕ) → v < r → v ≢ o → U o ≢ U v
      apart v lv ne e = ne (sym (places.apart o v ho lv e))

      spread_lt : (p : ℕ) → spread m b r U o p < 2 ^ m
      unfolding spread
      spread_lt p = product_lt m F (alpha_to m p) (alpha_to m (p * b)) (others X r o) (pw_lt m F (p * b))

      spread_pos : spread m b r U o (U o) ≢ 0
      unfolding spread
      spread_pos e = pw_pos m F (U o * b) (apart_cancel m F r U places o (alpha_to m (U o * b)) ho (pw_lt m F (U o * b)) e)

      spread_own : spread m b r U o (U o) ≡ product_over m 0 1 (others X r o) ∗ Q (U o)
      spread_own =
          sym (ap (λ (u : ℕ). spread m b r U o (U o) ∗ u) (own o ho) ∙ one (spread m b r U o (U o)) (spread_lt (U o)))
          ∙ spread_grown (U o) (places.inside o ho) apart

      -- what the quotient is
      pub short_quotient : (p w : ℕ) → p < length_of m → ((v : ℕ) → v < r → v ≢ o → p ≢ U v) → w < 2 ^ m → w ∗ (Q (U o) ∗ B p o) ≡ Q p
          → short_cell m b r U o p ≡ w
      unfolding short_cell
      short_quotient p w hp other hw e =
          let s = spread m b r U o (U o) in
          let c = product_over m 0 1 (others X r o) in
          let same : w ∗ s ≡ spread m b r U o p =
          cancel_right (w ∗ s) (spread m b r U o p) (B p o) (times_lt w s) (spread_lt p) (element p o).0 (element p o).1
          (ap (λ (u : ℕ). w ∗ u ∗ B p o) spread_own ∙ move w c (Q (U o)) (B p o) ∙ ap (λ (u : ℕ). c ∗ u) e
          ∙ sym (spread_grown p hp other)) in
          ap (λ (u : ℕ). u ∗ inverse_of m s) (sym same) ∙ assoc w s (inverse_of m s)
          ∙ ap (λ (u : ℕ). w ∗ u) (inverse s (spread_lt (U o)) spread_pos) ∙ one w hw
        where
          move : (w c q b : ℕ) → w ∗ (c ∗ q) ∗ b ≡ c ∗ (w ∗ (q ∗ b))
          move w c q b = simp (ring, F)
