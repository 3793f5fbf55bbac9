-- The order of positions: which of two comes first, and that the rank of the position that an order has at i is i. Assumes nothing.
use mathlib.Core.Path.{◌≡◌, sym, ap, ◌∙◌, subst}
use mathlib.Core.Logic.{◌≢◌, ◌↔◌, ◌⊎◌, inl, inr, ⊎_elim, by_cases}
use mathlib.Core.Bool.{Bool}
use mathlib.Core.List.{List}
use Prim.Native.Nat.{ℕ, ◌-◌, ◌<◌}
use native.Mathlib.Decide.{dec_lt, ℕ_discrete}
use native.Mathlib.Omega.{arith}
use lib.Dec.{T, ltb, ltb→lt, lt→ltb}
use lib.IntN.{ℤ}
use Rattle.field.specs.Below.{only, total}
use Rattle.field.specs.Field.{length_of}
use Rattle.field.proofs.TestLaws.{same_test, lex_says}
use Rattle.field.proofs.TotalLaws.{total_cong, total_order, count_below}
use Rattle.soft.specs.Value.{reliability}
use Rattle.soft.specs.Order.{before, rank_of, reliable}
use Rattle.soft.specs.Sorted.{Sorted}

module _ (soft : List ℤ) where
  abbrev rel : ℕ → ℕ
  rel = reliability soft

  -- before, as the paper says it
  pub before_says : (p q : ℕ) → T (before soft p q) ↔ ((rel q < rel p) ⊎ ((rel q ≡ rel p) × (p < q)))
  unfolding before
  before_says p q = lex_says (rel q) (rel p) p q

  pub before_not_both : (p q : ℕ) → T (before soft p q) → T (before soft q p) → ⊥
  before_not_both p q a b =
      ⊎_elim (λ x. ⊎_elim (λ y. omega arith) (λ y. omega arith) ((before_says q p).0 b))
      (λ x. ⊎_elim (λ y. omega arith) (λ y. omega arith) ((before_says q p).0 b))
      ((before_says p q).0 a)

  pub before_one : (p q : ℕ) → p ≢ q → T (before soft p q) ⊎ T (before soft q p)
  before_one p q d =
      by_cases (dec_lt (rel q) (rel p)) (λ l. inl ((before_says p q).1 (inl l)))
      (λ a. by_cases (dec_lt (rel p) (rel q)) (λ l. inr ((before_says q p).1 (inl l)))
      (λ b. by_cases (dec_lt p q) (λ l. inl ((before_says p q).1 (inr (omega arith, l))))
      (λ c. inr ((before_says q p).1 (inr (omega arith, omega arith))))))

  pub before_trans : (p q s : ℕ) → T (before soft p q) → T (before soft q s) → T (before soft p s)
  before_trans p q s a b = (before_says p s).1 (⊎_elim
      (λ x. ⊎_elim (λ y. inl (omega arith)) (λ y. inl (omega arith)) ((before_says q s).0 b))
      (λ x. ⊎_elim (λ y. inl (omega arith)) (λ y. inr (omega arith, omega arith)) ((before_says q s).0 b))
      ((before_says p q).0 a))

  pub before_not_self : (p : ℕ) → T (before soft p p) → ⊥
  before_not_self p t = before_not_both p p t t

module _ (m : ℕ) (soft : List ℤ) (R : ℕ → ℕ) (S : Sorted m soft R) where
  -- R j comes before R i exactly when j is below i
  pub before_rank : (i j : ℕ) → i < length_of m → j < length_of m → before soft (R j) (R i) ≡ ltb j i
  before_rank i j hi hj =
      same_test (before soft (R j) (R i)) (ltb j i)
      (λ t. by_cases (dec_lt j i) (λ l. lt→ltb j i l) (λ nl. absurd (by_cases (ℕ_discrete i j)
      (λ e. before_not_self soft (R i) (subst (λ (x : ℕ). T (before soft (R x) (R i))) (sym e) t))
      (λ ne. before_not_both soft (R j) (R i) t (S.rises i j (omega arith) hj)))))
      (λ t. S.rises j i (ltb→lt j i t) hi)

  pub in_order : (f : ℕ → ℕ) → total (length_of m) f ≡ total (length_of m) (λ i. f (R i))
  in_order = total_order (length_of m) R S.order.places.inside S.order.places.apart S.order.reached

  -- the rank of the position at i is i
  pub rank_at : (i : ℕ) → i < length_of m → rank_of m soft (R i) ≡ i
  unfolding rank_of
  rank_at i hi =
      in_order (λ q. only (before soft q (R i)) 1)
      ∙ total_cong (length_of m) (λ j. only (before soft (R j) (R i)) 1) (λ j. only (ltb j i) 1)
      (λ j hj. ap (λ (x : Bool). only x 1) (before_rank i j hi hj))
      ∙ count_below (length_of m) i ∙ omega arith

  pub reliable_at : (r i : ℕ) → i < length_of m → reliable m r soft (R i) ≡ ltb i (length_of m - r)
  unfolding reliable
  reliable_at r i hi = ap (λ (x : ℕ). ltb x (length_of m - r)) (rank_at i hi)

  -- a position is reliable exactly when it stands at one of the first n - r ranks
  pub reliable_says : (r p : ℕ) → p < length_of m → T (reliable m r soft p) ↔ ((i : ℕ) × (i < length_of m - r) × (p ≡ R i))
  reliable_says r p hp = (
    λ t. let u = S.order.reached p hp in
        (u.0, ltb→lt u.0 (length_of m - r) (subst T (ap (reliable m r soft) u.2 ∙ reliable_at r u.0 u.1) t), u.2),
    λ u. let i = u.0 in let l : i < length_of m - r = u.1 in
        subst T (sym (ap (reliable m r soft) u.2 ∙ reliable_at r i (omega arith))) (lt→ltb i (length_of m - r) l),
  )
