-- Sums and counts over the numbers below n: term by term, two at once, in another order; bounds. Assumes nothing.
use mathlib.Core.Path.{◌≡◌, refl, sym, ap, ap₂, ◌∙◌, subst}
use mathlib.Core.Logic.{◌≢◌, ⊎_elim, by_cases}
use mathlib.Core.Bool.{Bool, true, false}
use Prim.Native.Nat.{ℕ, zero, suc, ◌+◌, ◌*◌, ◌<◌, ◌≤◌, min}
use native.Mathlib.Nat.{not-suc-le-zero, eq-or-lt_of_le, le_of_suc-le-suc, le_refl, add-suc, suc-mul}
use native.Mathlib.Numerals.{add-one}
use native.Mathlib.Decide.{dec_lt}
use native.Mathlib.Omega.{arith}
use lib.Dec.{T, eqb, eqb→eq, eqb_refl, ltb, ltb→lt, lt→ltb}
use Rattle.field.specs.Below.{only, total}
use Rattle.field.proofs.TestLaws.{eq→eqb}

-- what a test lets pass
pub only_yes : (b : Bool) (x : ℕ) → T b → only b x ≡ x
only_yes true x t = refl
only_yes false x t = absurd t

pub only_no : (b : Bool) (x : ℕ) → (T b → ⊥) → only b x ≡ 0
only_no true x t = absurd (t tt)
only_no false x t = refl

pub only_le : (a b : Bool) (x : ℕ) → (T a → T b) → only a x ≤ only b x
only_le true b x f = let e = only_yes b x (f tt) in omega arith
only_le false b x f = omega arith

-- totals
pub total_suc : (n : ℕ) (f : ℕ → ℕ) → total (suc n) f ≡ total n f + f n
unfolding total
total_suc n f = refl

pub total_cong : (n : ℕ) (f g : ℕ → ℕ) → ((p : ℕ) → p < n → f p ≡ g p) → total n f ≡ total n g
unfolding total
total_cong zero f g h = refl
total_cong (suc n) f g h = ap₂ ◌+◌ (total_cong n f g (λ p l. h p (omega arith))) (h n (omega arith))

pub total_le : (n : ℕ) (f g : ℕ → ℕ) → ((p : ℕ) → p < n → f p ≤ g p) → total n f ≤ total n g
unfolding total
total_le zero f g h = le_refl 0
total_le (suc n) f g h = omega (arith, total_le n f g (λ p l. h p (omega arith)), h n (omega arith))

pub total_lt : (n : ℕ) (f g : ℕ → ℕ) (u : ℕ) → u < n → ((p : ℕ) → p < n → f p ≤ g p) → f u < g u → total n f < total n g
unfolding total
total_lt zero f g u l h s = absurd (omega arith)
total_lt (suc n) f g u l h s =
    ⊎_elim (λ e. let s' : f n < g n = subst (λ (x : ℕ). f x < g x) e s in omega (arith, total_le n f g (λ p k. h p (omega arith))))
    (λ k. omega (arith, total_lt n f g u k (λ p j. h p (omega arith)) s, h n (omega arith)))
    (eq-or-lt_of_le (le_of_suc-le-suc l))

pub total_ones : (n : ℕ) → total n (λ p. 1) ≡ n
unfolding total
total_ones zero = refl
total_ones (suc n) = omega (arith, total_ones n)

-- no more numbers pass a test than there are
pub count_most : (n : ℕ) (t : ℕ → Bool) → total n (λ p. only (t p) 1) ≤ n
count_most n t = omega (arith, total_le n (λ p. only (t p) 1) (λ p. 1) (λ p _. only_le (t p) true 1 (λ _. tt)), total_ones n)

-- where each term that passes is at most x, they sum to at most x times their number
pub total_most : (n x : ℕ) (t : ℕ → Bool) (f : ℕ → ℕ) → ((p : ℕ) → p < n → T (t p) → f p ≤ x)
    → total n (λ p. only (t p) (f p)) ≤ total n (λ p. only (t p) 1) * x
unfolding total
total_most zero x t f h = omega arith
total_most (suc n) x t f h = go (t n) (h n (omega arith)) (total_most n x t f (λ p l. h p (omega arith)))
  where
    count : ℕ
    count = total n (λ p. only (t p) 1)

    go : (a : Bool) → (T a → f n ≤ x) → total n (λ p. only (t p) (f p)) ≤ count * x
        → total n (λ p. only (t p) (f p)) + only a (f n) ≤ (count + only a 1) * x
    go true s i = rw (add-one count, suc-mul count x) (omega (arith, i, s tt))
    go false s i = omega (arith, i)

pub total_zero : (n : ℕ) (f : ℕ → ℕ) → ((p : ℕ) → p < n → f p ≡ 0) → total n f ≡ 0
unfolding total
total_zero zero f h = refl
total_zero (suc n) f h = omega (arith, total_zero n f (λ p l. h p (omega arith)), h n (omega arith))

pub total_plus : (n : ℕ) (f g : ℕ → ℕ) → total n (λ p. f p + g p) ≡ total n f + total n g
unfolding total
total_plus zero f g = refl
total_plus (suc n) f g = omega (arith, total_plus n f g)

-- where only one term may differ from 0
pub total_one : (n : ℕ) (f : ℕ → ℕ) (u : ℕ) → u < n → ((p : ℕ) → p < n → p ≢ u → f p ≡ 0) → total n f ≡ f u
unfolding total
total_one zero f u l h = absurd (not-suc-le-zero l)
total_one (suc n) f u l h =
    ⊎_elim
    (λ e. ap₂ ◌+◌ (total_zero n f (λ p k. h p (omega arith) (omega arith))) (ap f (sym e)) ∙ omega arith)
    (λ k. ap₂ ◌+◌ (total_one n f u k (λ p j. h p (omega arith))) (h n (le_refl (suc n)) (omega arith)) ∙ omega arith)
    (eq-or-lt_of_le (le_of_suc-le-suc l))

pub total_total : (n k : ℕ) (f : ℕ → ℕ → ℕ) → total n (λ p. total k (f p)) ≡ total k (λ j. total n (λ p. f p j))
unfolding total
total_total n zero f = total_zero n (λ p. 0) (λ p l. refl)
total_total n (suc k) f = total_plus n (λ p. total k (f p)) (λ p. f p k) ∙ ap (λ (u : ℕ). u + total n (λ p. f p k)) (total_total n k f)

pub total_head : (n : ℕ) (f : ℕ → ℕ) → total (suc n) f ≡ f 0 + total n (λ p. f (suc p))
unfolding total
total_head zero f = omega arith
total_head (suc n) f = ap (λ (u : ℕ). u + f (suc n)) (total_head n f) ∙ omega arith

pub total_split : (n k : ℕ) (f : ℕ → ℕ) → total (n + k) f ≡ total n f + total k (λ p. f (n + p))
total_split n zero f =
    let e : n + 0 ≡ n = omega arith in
    let z : total 0 (λ p. f (n + p)) ≡ 0 = total_zero 0 (λ p. f (n + p)) (λ p l. absurd (omega arith)) in
    ap (λ (x : ℕ). total x f) e ∙ omega arith
total_split n (suc k) f =
    ap (λ (x : ℕ). total x f) (add-suc n k) ∙ total_suc (n + k) f ∙ ap (λ (u : ℕ). u + f (n + k)) (total_split n k f)
    ∙ omega (arith, total_suc k (λ p. f (n + p)))

-- in the order R
pub total_order : (n : ℕ) (R : ℕ → ℕ) → ((j : ℕ) → j < n → R j < n) → ((i j : ℕ) → i < n → j < n → R i ≡ R j → i ≡ j)
    → ((p : ℕ) → p < n → (j : ℕ) × (j < n) × (p ≡ R j)) → (f : ℕ → ℕ) → total n f ≡ total n (λ i. f (R i))
total_order n R hi ne re f =
    total_cong n f (λ p. total n (λ i. only (eqb (R i) p) (f p))) (λ p hp. let t = re p hp in
    sym (total_one n (λ i. only (eqb (R i) p) (f p)) t.0 t.1
    (λ i hj d. only_no (eqb (R i) p) (f p) (λ e. d (ne i t.0 hj t.1 (eqb→eq (R i) p e ∙ t.2))))
    ∙ only_yes (eqb (R t.0) p) (f p) (eq→eqb (R t.0) p (sym t.2))))
    ∙ total_total n n (λ p i. only (eqb (R i) p) (f p))
    ∙ total_cong n (λ i. total n (λ p. only (eqb (R i) p) (f p))) (λ i. f (R i)) (λ i l.
    total_one n (λ p. only (eqb (R i) p) (f p)) (R i) (hi i l) (λ p hp d. only_no (eqb (R i) p) (f p) (λ e. d (sym (eqb→eq (R i) p e))))
    ∙ only_yes (eqb (R i) (R i)) (f (R i)) (eqb_refl (R i)))

-- how many are below i
pub count_below : (n i : ℕ) → total n (λ j. only (ltb j i) 1) ≡ min n i
unfolding total
count_below zero i = omega arith
count_below (suc n) i =
    by_cases (dec_lt n i)
    (λ l. let e = only_yes (ltb n i) 1 (lt→ltb n i l) in omega (arith, count_below n i))
    (λ l. let e = only_no (ltb n i) 1 (λ t. l (ltb→lt n i t)) in omega (arith, count_below n i))
