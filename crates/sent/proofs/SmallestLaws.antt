-- The sum of the k smallest of a list of k or more is at most the sum of any k, and at least k v where no number is below v. Assumes
-- nothing.
use mathlib.Core.Path.{◌≡◌, refl, sym, ap, ◌∙◌, subst}
use mathlib.Core.Logic.{by_cases}
use mathlib.Core.Bool.{Bool, true, false, cond}
use mathlib.Core.List.{List, [], ◌∷◌}
use Prim.Native.Nat.{ℕ, zero, suc, ◌+◌, ◌*◌, ◌<◌, ◌≤◌}
use native.Mathlib.Nat.{le_refl, le_trans, suc-mul}
use native.Mathlib.Decide.{dec_le}
use native.Mathlib.Omega.{arith}
use lib.Dec.{T, leb, leb→le, le→leb}
use lib.ListN.{length, take}
use Rattle.field.specs.Below.{only, total}
use Rattle.field.proofs.TestLaws.{is_true, is_false}
use Rattle.sent.specs.Smallest.{insert, sorted, added, smallest, values_where}

-- where x goes
insert_low : (x y : ℕ) (l : List ℕ) → x ≤ y → insert x (y ∷ l) ≡ x ∷ y ∷ l
unfolding insert
insert_low x y l h = ap (λ (t : Bool). cond t (x ∷ y ∷ l) (y ∷ insert x l)) (is_true (leb x y) (le→leb x y h))

insert_high : (x y : ℕ) (l : List ℕ) → ¬ (x ≤ y) → insert x (y ∷ l) ≡ y ∷ insert x l
unfolding insert
insert_high x y l h = ap (λ (t : Bool). cond t (x ∷ y ∷ l) (y ∷ insert x l)) (is_false (leb x y) (λ t. h (leb→le x y t)))

-- what holds of both places holds of the list with x in it
inserted : (P : List ℕ → Type 0) (x y : ℕ) (l : List ℕ) → (x ≤ y → P (x ∷ y ∷ l)) → (¬ (x ≤ y) → P (y ∷ insert x l)) → P (insert x (y ∷ l))
inserted P x y l low high =
    by_cases (dec_le x y) (λ c. subst P (sym (insert_low x y l c)) (low c)) (λ c. subst P (sym (insert_high x y l c)) (high c))

-- no number of the list is below x
abbrev pub AllFrom : ℕ → List ℕ → Type 0
AllFrom x [] = Unit {0}
AllFrom x (y ∷ l) = (x ≤ y) × AllFrom x l

abbrev Rising : List ℕ → Type 0
Rising [] = Unit {0}
Rising (x ∷ l) = AllFrom x l × Rising l

from_less : (x y : ℕ) (l : List ℕ) → x ≤ y → AllFrom y l → AllFrom x l
from_less x y [] h a = tt
from_less x y (z ∷ l) h a = (le_trans h a.0, from_less x y l h a.1)

from_insert : (a x : ℕ) (l : List ℕ) → a ≤ x → AllFrom a l → AllFrom a (insert x l)
unfolding insert
from_insert a x [] h f = (h, tt)
from_insert a x (y ∷ l) h f = inserted (AllFrom a) x y l (λ c. (h, f)) (λ c. (f.0, from_insert a x l h f.1))

insert_rising : (x : ℕ) (l : List ℕ) → Rising l → Rising (insert x l)
unfolding insert
insert_rising x [] h = (tt, tt)
insert_rising x (y ∷ l) h =
    inserted Rising x y l (λ c. ((c, from_less x y l c h.0), h))
    (λ c. (from_insert y x l (omega arith) h.0, insert_rising x l h.1))

sorted_rising : (l : List ℕ) → Rising (sorted l)
unfolding sorted
sorted_rising [] = tt
sorted_rising (x ∷ l) = insert_rising x (sorted l) (sorted_rising l)

insert_length : (x : ℕ) (l : List ℕ) → length (insert x l) ≡ suc (length l)
unfolding insert
insert_length x [] = refl
insert_length x (y ∷ l) =
    inserted (λ (u : List ℕ). length u ≡ suc (suc (length l))) x y l (λ c. refl) (λ c. ap suc (insert_length x l))

sorted_length : (l : List ℕ) → length (sorted l) ≡ length l
unfolding sorted
sorted_length [] = refl
sorted_length (x ∷ l) = insert_length x (sorted l) ∙ ap suc (sorted_length l)

-- one more is taken, where x is one more
with_it : (x : ℕ) (l : List ℕ) (k : ℕ) → added (take (suc k) (insert x l)) ≤ x + added (take k l)
unfolding insert added
with_it x [] zero = omega arith
with_it x [] (suc k) = omega arith
with_it x (y ∷ l) zero = inserted (λ (u : List ℕ). added (take 1 u) ≤ x + 0) x y l (λ c. omega arith) (λ c. omega arith)
with_it x (y ∷ l) (suc k) =
    inserted (λ (u : List ℕ). added (take (suc (suc k)) u) ≤ x + (y + added (take k l))) x y l (λ c. le_refl _)
    (λ c. let i = with_it x l k in omega arith)

-- as many are taken, with one more to take from
head_less : (y : ℕ) (l : List ℕ) (k : ℕ) → AllFrom y l → Rising l → k ≤ length l → added (take k (y ∷ l)) ≤ added (take k l)
unfolding added
head_less y l zero a h c = omega arith
head_less y [] (suc k) a h c = absurd (omega arith)
head_less y (z ∷ l) (suc k) a h c = let i = head_less z l k h.0 h.1 (omega arith) in omega (arith, a.0)

without_it : (x : ℕ) (l : List ℕ) (k : ℕ) → Rising l → k ≤ length l → added (take k (insert x l)) ≤ added (take k l)
unfolding added
without_it x l zero h c = omega arith
without_it x [] (suc k) h c = absurd (omega arith)
without_it x (y ∷ l) (suc k) h c =
    inserted (λ (u : List ℕ). added (take (suc k) u) ≤ y + added (take k l)) x y l
    (λ d. let i = head_less y l k h.0 h.1 (omega arith) in omega arith)
    (λ d. let i = without_it x l k h.1 (omega arith) in omega arith)

-- where no number is below v, the k smallest sum to k v or more
sorted_from : (v : ℕ) (l : List ℕ) → AllFrom v l → AllFrom v (sorted l)
unfolding sorted
sorted_from v [] f = tt
sorted_from v (x ∷ l) f = from_insert v x (sorted l) f.0 (sorted_from v l f.1)

taken_from : (v k : ℕ) (l : List ℕ) → AllFrom v l → k ≤ length l → k * v ≤ added (take k l)
unfolding added
taken_from v zero l f c = omega arith
taken_from v (suc k) [] f c = absurd (omega arith)
taken_from v (suc k) (x ∷ l) f c = omega (arith, suc-mul k v, f.0, taken_from v k l f.1 (omega arith))

pub smallest_from : (v k : ℕ) (l : List ℕ) → AllFrom v l → k ≤ length l → k * v ≤ smallest k l
unfolding smallest
smallest_from v k l f c = taken_from v k (sorted l) (sorted_from v l f) (omega (arith, sorted_length l))

-- the values where a test passes, none of them below v
pub values_from : (v n : ℕ) (t : ℕ → Bool) (f : ℕ → ℕ) → ((p : ℕ) → p < n → T (t p) → v ≤ f p) → AllFrom v (values_where n t f)
unfolding values_where
values_from v zero t f h = tt
values_from v (suc n) t f h = go (t n) (h n (omega arith)) (values_from v n t f (λ p l. h p (omega arith)))
  where
    go : (a : Bool) → (T a → v ≤ f n) → AllFrom v (values_where n t f) → AllFrom v (cond a (f n ∷ values_where n t f) (values_where n t f))
    go true s i = (s tt, i)
    go false s i = i

-- q chooses among the places where t passes: it chooses no more than there are
pub chosen_few : (n : ℕ) (t q : ℕ → Bool) (f : ℕ → ℕ) → ((p : ℕ) → p < n → T (q p) → T (t p))
    → total n (λ p. only (q p) 1) ≤ length (values_where n t f)
unfolding values_where total
chosen_few zero t q f h = omega arith
chosen_few (suc n) t q f h = go (t n) (q n) (h n (omega arith)) (chosen_few n t q f (λ p l. h p (omega arith)))
  where
    go : (a b : Bool) → (T b → T a) → total n (λ p. only (q p) 1) ≤ length (values_where n t f)
        → total n (λ p. only (q p) 1) + only b 1 ≤ length (cond a (f n ∷ values_where n t f) (values_where n t f))
    go true true s i = omega arith
    go true false s i = omega arith
    go false true s i = absurd (s tt)
    go false false s i = omega arith

-- and k or more of them sum to at least the k smallest
pub smallest_least : (n : ℕ) (t q : ℕ → Bool) (f : ℕ → ℕ) → ((p : ℕ) → p < n → T (q p) → T (t p))
    → (k : ℕ) → k ≤ total n (λ p. only (q p) 1) → smallest k (values_where n t f) ≤ total n (λ p. only (q p) (f p))
unfolding values_where total smallest sorted added
smallest_least zero t q f h zero c = omega arith
smallest_least zero t q f h (suc k) c = absurd (omega arith)
smallest_least (suc n) t q f h k c =
    go (t n) (q n) (h n (omega arith)) k c (λ j d. smallest_least n t q f (λ p l. h p (omega arith)) j d)
  where
    l : List ℕ
    l = values_where n t f

    few : total n (λ p. only (q p) 1) ≤ length (sorted l)
    few = omega (arith, sorted_length l, chosen_few n t q f (λ p d. h p (omega arith)))

    go : (a b : Bool) → (T b → T a) → (k : ℕ) → k ≤ total n (λ p. only (q p) 1) + only b 1
        → ((j : ℕ) → j ≤ total n (λ p. only (q p) 1) → added (take j (sorted l)) ≤ total n (λ p. only (q p) (f p)))
        → added (take k (sorted (cond a (f n ∷ l) l))) ≤ total n (λ p. only (q p) (f p)) + only b (f n)
    go true true s zero c i = omega arith
    go true true s (suc k) c i = omega (arith, with_it (f n) (sorted l) k, i k (omega arith))
    go true false s k c i = omega (arith, without_it (f n) (sorted l) k (sorted_rising l) (omega (arith, few)), i k (omega arith))
    go false true s k c i = absurd (s tt)
    go false false s k c i = omega (arith, i k (omega arith))
