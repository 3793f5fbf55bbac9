-- A table by exponent is right at every entry, where one test along the powers of a passes: of the powers, and of Zech's
-- logarithms. Assumes nothing.
use mathlib.Core.Path.{◌≡◌, sym, subst}
use mathlib.Core.Bool.{Bool, true, ◌&&◌}
use mathlib.Core.List.{List, [], ◌∷◌}
use Prim.Native.Nat.{ℕ, zero, suc, ◌+◌, ◌-◌, ◌<◌, ◌≤◌}
use native.Mathlib.Decide.{ℕ_discrete}
use native.Mathlib.Omega.{arith}
use lib.Dec.{T, eqb, eqb→eq, ltb, ltb→lt}
use lib.ListN.{length, get_or}
use Rattle.field.specs.Field.{◌⊕◌, times_alpha, alpha_to, length_of}
use Rattle.field.proofs.TestLaws.{and_left, and_right}
use Rattle.exponents.specs.Exponent.{Powers, Zech, or_one}

-- the entries pass a test, each with its own power of a; x is the power of the first
abbrev along : ℕ → (ℕ → ℕ → Bool) → ℕ → List ℕ → Bool
along m good x [] = true
along m good x (y ∷ l) = good x y && along m good (times_alpha m x) l

along_at : (m : ℕ) (good : ℕ → ℕ → Bool) (i : ℕ) (l : List ℕ) → T (along m good (alpha_to m i) l) → (k : ℕ) → k < length l
    → T (good (alpha_to m (i + k)) (get_or l k 0))
unfolding alpha_to
along_at m good i [] t k h = absurd (omega arith)
along_at m good i (y ∷ l) t zero h =
    let e : i ≡ i + 0 = omega arith in
    subst (λ (u : ℕ). T (good (alpha_to m u) y)) e (and_left (good (alpha_to m i) y) (along m good (alpha_to m (suc i)) l) t)
along_at m good i (y ∷ l) t (suc k) h =
    let e : suc i + k ≡ i + suc k = omega arith in
    subst (λ (u : ℕ). T (good (alpha_to m u) (get_or l k 0))) e
    (along_at m good (suc i) l (and_right (good (alpha_to m i) y) (along m good (alpha_to m (suc i)) l) t) k (omega arith))

-- the tests of a whole table: each entry is the power; each entry is below n, and the exponent of 1 + the power
abbrev table_of : ℕ → (ℕ → ℕ → Bool) → List ℕ → Bool
table_of m good l = eqb (length l) 128 && along m good 1 l

abbrev pub table_powers : ℕ → List ℕ → Bool
table_powers m = table_of m (λ x y. eqb y x)

abbrev is_zech : ℕ → ℕ → ℕ → Bool
is_zech m x y = ltb y (length_of m) && eqb (alpha_to m y) (or_one (1 ⊕ x))

abbrev pub table_zech : ℕ → List ℕ → Bool
table_zech m = table_of m (is_zech m)

-- what holds at each entry of a table that passes
along_all : (m : ℕ) (good : ℕ → ℕ → Bool) (l : List ℕ) → T (table_of m good l) → (k : ℕ) → k < 128 → T (good (alpha_to m k) (get_or l k 0))
unfolding alpha_to
along_all m good l t k h =
    let full = eqb→eq (length l) 128 (and_left (eqb (length l) 128) (along m good 1 l) t) in
    let e : 0 + k ≡ k = omega arith in
    subst (λ (u : ℕ). T (good (alpha_to m u) (get_or l k 0))) e
    (along_at m good 0 l (and_right (eqb (length l) 128) (along m good 1 l) t) k (omega arith))

-- a table that passes is right
pub table_powers_lem : (m : ℕ) (l : List ℕ) → T (table_powers m l) → Powers m l
table_powers_lem m l t i h = eqb→eq (get_or l i 0) (alpha_to m i) (along_all m (λ x y. eqb y x) l t i h)

pub table_zech_lem : (m : ℕ) (l : List ℕ) → T (table_zech m l) → Zech m l
table_zech_lem m l t i h =
    let y = get_or l i 0 in
    let both = along_all m (is_zech m) l t i h in
    let low = ltb y (length_of m) in
    let same = eqb (alpha_to m y) (or_one (1 ⊕ alpha_to m i)) in
    (ltb→lt y (length_of m) (and_left low same both), eqb→eq (alpha_to m y) (or_one (1 ⊕ alpha_to m i)) (and_right low same both))

-- of three tables, for m = 4, 5 and 6, the one that stands at m - 4
module _ (a b c d : List ℕ) where
  one_of : (P : ℕ → List ℕ → Type 0) → P 4 a → P 5 b → P 6 c → (m j : ℕ) → 4 ≤ m → m ≤ 6 → j ≡ m - 4 → P m (get_or (a ∷ b ∷ c ∷ []) j d)
  one_of P x y z m j l h e = subst (λ (u : ℕ). P m (get_or (a ∷ b ∷ c ∷ []) u d)) (sym e) (go (ℕ_discrete m 4) (ℕ_discrete m 5))
    where
      at : (k : ℕ) → k ≡ m → P k (get_or (a ∷ b ∷ c ∷ []) (k - 4) d) → P m (get_or (a ∷ b ∷ c ∷ []) (m - 4) d)
      at k e = subst (λ (u : ℕ). P u (get_or (a ∷ b ∷ c ∷ []) (u - 4) d)) e

      go : Dec (m ≡ 4) → Dec (m ≡ 5) → P m (get_or (a ∷ b ∷ c ∷ []) (m - 4) d)
      go (yes e) _ = at 4 (sym e) x
      go (no _) (yes e) = at 5 (sym e) y
      go (no n) (no k) = at 6 (omega arith) z

  pub three_powers : T (table_powers 4 a) → T (table_powers 5 b) → T (table_powers 6 c) → (m j : ℕ) → 4 ≤ m → m ≤ 6 → j ≡ m - 4
      → Powers m (get_or (a ∷ b ∷ c ∷ []) j d)
  three_powers x y z = one_of Powers (table_powers_lem 4 a x) (table_powers_lem 5 b y) (table_powers_lem 6 c z)

  pub three_zech : T (table_zech 4 a) → T (table_zech 5 b) → T (table_zech 6 c) → (m j : ℕ) → 4 ≤ m → m ≤ 6 → j ≡ m - 4
      → Zech m (get_or (a ∷ b ∷ c ∷ []) j d)
  three_zech x y z = one_of Zech (table_zech_lem 4 a x) (table_zech_lem 5 b y) (table_zech_lem 6 c z)
