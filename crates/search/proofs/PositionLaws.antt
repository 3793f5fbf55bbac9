-- The positions by rank, as a list, are all the positions, each before the next. Assumes nothing.
use mathlib.Core.Path.{◌≡◌, refl, sym, ap, ◌∙◌, subst}
use mathlib.Core.Logic.{⊎_elim, by_cases}
use mathlib.Core.Bool.{true}
use mathlib.Core.List.{List}
use Prim.Native.Nat.{ℕ, zero, suc, ◌<◌}
use native.Mathlib.Decide.{ℕ_discrete}
use native.Mathlib.Omega.{arith}
use lib.Dec.{T, eqb, eqb→eq}
use lib.IntN.{ℤ}
use lib.ListN.{get_or}
use Rattle.field.specs.Below.{only, total}
use Rattle.field.specs.Field.{length_of}
use Rattle.field.proofs.TestLaws.{eq→eqb, last_passes}
use Rattle.field.proofs.TotalLaws.{only_le, only_yes, only_no, total_lt, total_ones}
use Rattle.codes.proofs.Pigeon.{pigeon, ordered}
use Rattle.soft.specs.Order.{before, rank_of}
use Rattle.soft.specs.Sorted.{Sorted}
use Rattle.soft.proofs.OrderLaws.{before_not_self, before_one, before_trans}
use Rattle.search.specs.Positions.{position_at, listed, positions}

listed_at : (k : ℕ) (c : ℕ → ℕ) (i : ℕ) → i < k → get_or (listed k c) i 0 ≡ c i
unfolding listed
listed_at zero c i l = absurd (omega arith)
listed_at (suc k) c zero l = refl
listed_at (suc k) c (suc i) l = listed_at k (λ p. c (suc p)) i (omega arith)

module _ (m : ℕ) (soft : List ℤ) where
  -- a position does not come before itself, so fewer than n do
  rank_lt : (p : ℕ) → p < length_of m → rank_of m soft p < length_of m
  unfolding rank_of
  rank_lt p hp =
      subst (λ (x : ℕ). total (length_of m) (λ q. only (before soft q p) 1) < x) (total_ones (length_of m))
      (total_lt (length_of m) (λ q. only (before soft q p) 1) (λ q. 1) p hp (λ q _. only_le (before soft q p) true 1 (λ _. tt))
      (let e = only_no (before soft p p) 1 (before_not_self soft p) in omega arith))

  rank_rises : (p q : ℕ) → p < length_of m → T (before soft p q) → rank_of m soft p < rank_of m soft q
  unfolding rank_of
  rank_rises p q hp h =
      total_lt (length_of m) (λ x. only (before soft x p) 1) (λ x. only (before soft x q) 1) p hp
      (λ x _. only_le (before soft x p) (before soft x q) 1 (λ t. before_trans soft x p q t h))
      (let e = only_no (before soft p p) 1 (before_not_self soft p) in let f = only_yes (before soft p q) 1 h in omega arith)

  rank_one : (p q : ℕ) → p < length_of m → q < length_of m → rank_of m soft p ≡ rank_of m soft q → p ≡ q
  rank_one p q hp hq e =
      by_cases (ℕ_discrete p q) (λ d. d)
      (λ d. absurd (⊎_elim (λ h. omega (arith, rank_rises p q hp h)) (λ h. omega (arith, rank_rises q p hq h)) (before_one soft p q d)))

  abbrev R : ℕ → ℕ
  R i = get_or (positions m soft) i 0

  placed : (i : ℕ) → i < length_of m → (R i < length_of m) × (rank_of m soft (R i) ≡ i)
  unfolding positions position_at
  placed i hi =
      let u = pigeon (length_of m) (rank_of m soft) rank_lt rank_one i hi in
      let f = last_passes (length_of m) (λ p. eqb (rank_of m soft p) i) u.0 u.1 (eq→eqb (rank_of m soft u.0) i (sym u.2)) in
      let e = listed_at (length_of m) (position_at m soft) i hi in
      (subst (λ (x : ℕ). x < length_of m) (sym e) f.0, ap (rank_of m soft) e ∙ eqb→eq (rank_of m soft (position_at m soft i)) i f.1)

  pub positions_sorted : Sorted m soft R
  positions_sorted = record {
    order =
        ordered m R (record {
          inside = λ j l. (placed j l).0;
          apart = λ i j hi hj e. sym (placed i hi).1 ∙ ap (rank_of m soft) e
              ∙ (placed j hj).1;
        });
    rises = λ i j l hj. let a = placed i (omega arith) in let c = placed j hj in
        ⊎_elim (λ h. h) (λ h. absurd (let k = rank_rises (R j) (R i) c.0 h in omega (arith, a.1, c.1)))
        (before_one soft (R i) (R j) (λ e. let q = ap (rank_of m soft) e in omega (arith, a.1, c.1)));
  }
