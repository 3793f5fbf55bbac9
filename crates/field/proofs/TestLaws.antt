-- Tests: what each connective says, and a fact for every number below a bound by one test that is computed. Assumes nothing.
use mathlib.Core.Path.{◌≡◌, refl, subst, sym, ap, ap₂, ◌∙◌}
use mathlib.Core.Bool.{Bool, true, false, ◌&&◌, not, ◌||◌, cond}
use Prim.Native.Nat.{ℕ, zero, suc, ◌<◌, ◌≤◌}
use mathlib.Core.Logic.{⊎_elim, ◌≢◌, ◌↔◌, ◌⊎◌, inl, inr}
use native.Mathlib.Nat.{not-suc-le-zero, eq-or-lt_of_le, le_of_suc-le-suc}
use lib.Dec.{T, eqb, eqb→eq, eqb_refl, ltb, ltb→lt, lt→ltb}
use native.Mathlib.Omega.{arith}
use Rattle.field.specs.Below.{all, last_of}

pub and_left : (a b : Bool) → T (a && b) → T a
and_left true b t = tt
and_left false b t = t

pub and_right : (a b : Bool) → T (a && b) → T b
and_right true b t = t
and_right false b t = absurd t

pub below : (n : ℕ) (f : ℕ → Bool) → T (all n f) → (k : ℕ) → k < n → T (f k)
below zero f t k h = absurd (not-suc-le-zero h)
below (suc n) f t k h =
    ⊎_elim (λ e. subst (λ (x : ℕ). T (f x)) (sym e) (and_left (f n) (all n f) t)) (λ l. below n f (and_right (f n) (all n f) t) k l)
    (eq-or-lt_of_le (le_of_suc-le-suc h))

-- two functions agree on the numbers below a bound
pub agree : (n : ℕ) (f g : ℕ → ℕ) → T (all n (λ k. eqb (f k) (g k))) → (k : ℕ) → k < n → f k ≡ g k
agree n f g t k h = eqb→eq (f k) (g k) (below n (λ k. eqb (f k) (g k)) t k h)

pub agree3 : (n : ℕ) (f g : ℕ → ℕ → ℕ → ℕ) → T (all n (λ x. all n (λ y. all n (λ z. eqb (f x y z) (g x y z)))))
    → (x y z : ℕ) → x < n → y < n → z < n → f x y z ≡ g x y z
agree3 n f g t x y z hx hy hz =
    agree n (f x y) (g x y)
    (below n (λ y. all n (λ z. eqb (f x y z) (g x y z)))
    (below n (λ x. all n (λ y. all n (λ z. eqb (f x y z) (g x y z)))) t x hx) y hy) z hz

pub is_true : (b : Bool) → T b → b ≡ true
is_true true t = refl
is_true false t = absurd t

pub is_false : (b : Bool) → (T b → ⊥) → b ≡ false
is_false true t = absurd (t tt)
is_false false t = refl

pub same_test : (a b : Bool) → (T a → T b) → (T b → T a) → a ≡ b
same_test true b f g = sym (is_true b (f tt))
same_test false b f g = sym (is_false b (λ t. g t))

pub dec_t : (b : Bool) → Dec (T b)
dec_t true = yes tt
dec_t false = no (λ t. t)

pub or_cases : (a b : Bool) → T (a || b) → T a ⊎ T b
or_cases true b t = inl tt
or_cases false b t = inr t

pub or_left : (a b : Bool) → T a → T (a || b)
or_left true b t = tt
or_left false b t = absurd t

pub or_right : (a b : Bool) → T b → T (a || b)
or_right true b t = tt
or_right false b t = t

pub and_both : (a b : Bool) → T a → T b → T (a && b)
and_both true b s t = t
and_both false b s t = absurd s

pub eq→eqb : (a b : ℕ) → a ≡ b → T (eqb a b)
eq→eqb a b e = subst (λ (x : ℕ). T (eqb a x)) e (eqb_refl a)

pub not_eqb : (a b : ℕ) → T (not (eqb a b)) → a ≢ b
not_eqb a b t e = go (eqb a b) (eq→eqb a b e) t
  where
    go : (c : Bool) → T c → T (not c) → ⊥
    go true x y = y
    go false x y = x

pub ne→not : (a b : ℕ) → a ≢ b → T (not (eqb a b))
ne→not a b n = go (eqb a b) (λ t. n (eqb→eq a b t))
  where
    go : (c : Bool) → (T c → ⊥) → T (not c)
    go true f = absurd (f tt)
    go false f = tt

-- smaller, or equal and then smaller by a second number
pub lex_says : (d e w v : ℕ) → T (ltb d e || (eqb d e && ltb w v)) ↔ ((d < e) ⊎ ((d ≡ e) × (w < v)))
lex_says d e w v = (
  λ t. ⊎_elim (λ a. inl (ltb→lt d e a))
      (λ a. inr (eqb→eq d e (and_left (eqb d e) (ltb w v) a), ltb→lt w v (and_right (eqb d e) (ltb w v) a)))
      (or_cases (ltb d e) (eqb d e && ltb w v) t),
  ⊎_elim (λ l. or_left (ltb d e) (eqb d e && ltb w v) (lt→ltb d e l))
      (λ h. or_right (ltb d e) (eqb d e && ltb w v) (and_both (eqb d e) (ltb w v) (eq→eqb d e h.0) (lt→ltb w v h.1))),
)

pub all_of : (n : ℕ) (f : ℕ → Bool) → ((k : ℕ) → k < n → T (f k)) → T (all n f)
all_of zero f h = tt
all_of (suc n) f h = and_both (f n) (all n f) (h n (omega arith)) (all_of n f (λ k l. h k (omega arith)))

pub all_cong : (n : ℕ) (f g : ℕ → Bool) → ((k : ℕ) → k < n → f k ≡ g k) → all n f ≡ all n g
all_cong zero f g h = refl
all_cong (suc n) f g h = ap₂ ◌&&◌ (h n (omega arith)) (all_cong n f g (λ k l. h k (omega arith)))

-- the last that passes, where one does
pub last_passes : (n : ℕ) (t : ℕ → Bool) (p : ℕ) → p < n → T (t p) → (last_of n t < n) × T (t (last_of n t))
unfolding last_of
last_passes zero t p l h = absurd (omega arith)
last_passes (suc n) t p l h = go (t n) refl (eq-or-lt_of_le (le_of_suc-le-suc l)) (λ k. last_passes n t p k h)
  where
    go : (b : Bool) → t n ≡ b → (p ≡ n) ⊎ (p < n) → (p < n → (last_of n t < n) × T (t (last_of n t)))
        → (cond b n (last_of n t) < suc n) × T (t (cond b n (last_of n t)))
    go true e c f = (omega arith, subst T (sym e) tt)
    go false e (inl q) f = absurd (subst T (ap t q ∙ e) h)
    go false e (inr k) f = let u = f k in (omega (arith, u.0), u.1)

-- and where the test passes nowhere
pub last_none : (n : ℕ) (t : ℕ → Bool) → ((p : ℕ) → p < n → T (t p) → ⊥) → last_of n t ≡ 0
unfolding last_of
last_none zero t h = refl
last_none (suc n) t h =
    ap (λ (b : Bool). cond b n (last_of n t)) (is_false (t n) (h n (omega arith))) ∙ last_none n t (λ p l. h p (omega arith))

last_le : (n : ℕ) (t : ℕ → Bool) → last_of (suc n) t ≤ n
unfolding last_of
last_le zero t = go (t 0)
  where
    go : (b : Bool) → cond b 0 0 ≤ 0
    go true = omega arith
    go false = omega arith
last_le (suc n) t = go (t (suc n)) (last_le n t)
  where
    go : (b : Bool) → last_of (suc n) t ≤ n → cond b (suc n) (last_of (suc n) t) ≤ suc n
    go true h = omega arith
    go false h = omega arith

pub last_lt : (n : ℕ) (t : ℕ → Bool) → 0 < n → last_of n t < n
last_lt zero t h = absurd (omega arith)
last_lt (suc n) t h = omega (arith, last_le n t)
