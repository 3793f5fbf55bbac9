-- The nearest candidate is one, and the number of candidates is one: two lists without repeats and with the same members are
-- equally long. Assumes nothing.
use mathlib.Core.Path.{◌≡◌, refl, sym, ap, ◌∙◌, subst}
use mathlib.Core.Logic.{◌≢◌, inl, inr, ⊎_elim}
use mathlib.Core.List.{List, [], ◌∷◌}
use Prim.Native.Nat.{ℕ, suc, ◌≤◌}
use native.Mathlib.Omega.{arith}
use lib.IntN.{ℤ}
use lib.ListN.{length}
use Rattle.soft.specs.Distance.{soft_distance}
use Rattle.soft.specs.Candidate.{Member, NoRepeats, Nearest, Counted}

-- l without one x
record Without (x : ℕ) (l : List ℕ) : Type 0 where
  rest : List ℕ
  shorter : length l ≡ suc (length rest)
  others : (y : ℕ) → y ≢ x → Member y l → Member y rest

without : (x : ℕ) (l : List ℕ) → Member x l → Without x l
without x [] h = absurd h
without x (z ∷ l) (inl e) = record { rest = l; shorter = refl; others = λ y n. ⊎_elim (λ q. absurd (n (q ∙ sym e))) (λ h. h) }
without x (z ∷ l) (inr h) =
    let w = without x l h in
    record { rest = z ∷ w.rest; shorter = ap suc w.shorter; others = λ y n. ⊎_elim inl (λ q. inr (w.others y n q)) }

pub no_longer : (l k : List ℕ) → NoRepeats l → ((x : ℕ) → Member x l → Member x k) → length l ≤ length k
no_longer [] k o h = omega arith
no_longer (x ∷ l) k o h =
    let w = without x k (h x (inl refl)) in
    omega (
      arith,
      w.shorter,
      no_longer l w.rest o.1
          (λ y q. w.others y (λ e. o.0 (subst (λ (z : ℕ). Member z l) e q)) (h y (inr q))),
    )

module _ (m b r tau : ℕ) (soft : List ℤ) where
  pub counted_one : (N M : ℕ) → Counted m b r tau soft N → Counted m b r tau soft M → N ≡ M
  counted_one N M c d =
      omega (
        arith,
        c.number,
        d.number,
        no_longer c.list d.list c.once (λ x h. (d.members x).1 ((c.members x).0 h)),
        no_longer d.list c.list d.once (λ x h. (c.members x).1 ((d.members x).0 h)),
      )

  pub nearest_one : (w v : ℕ) → Nearest m b r tau soft w → Nearest m b r tau soft v → w ≡ v
  nearest_one w v c d =
      let e : soft_distance m soft w ≡ soft_distance m soft v = omega (arith, c.least v d.candidate, d.least w c.candidate) in
      omega (arith, c.lowest v d.candidate (sym e), d.lowest w c.candidate e)
