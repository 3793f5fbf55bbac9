-- Lists that are filled by a loop, a store a turn. Assumes nothing.
use mathlib.Core.Path.{◌≡◌, refl, sym, ap, ◌∙◌}
use mathlib.Core.Logic.{◌≢◌, by_cases}
use mathlib.Core.Bool.{Bool, true, ◌&&◌}
use mathlib.Core.List.{List, [], ◌∷◌}
use Prim.Native.Nat.{ℕ, zero, suc, ◌+◌, ◌<◌}
use native.Mathlib.Decide.{ℕ_discrete}
use native.Mathlib.Omega.{arith}
use lib.Dec.{T, eqb, eqb→eq}
use lib.ListN.{length, get_or, set, length-set}
use lib.Seq.{get_or-set_same, get_or-set_other}
use Rattle.field.proofs.TestLaws.{and_left, and_right}

-- a list of zeros
abbrev pub zeros : List ℕ → Bool
zeros [] = true
zeros (x ∷ l) = eqb x 0 && zeros l

pub zeros_at : (l : List ℕ) → T (zeros l) → (i : ℕ) → get_or l i 0 ≡ 0
zeros_at [] t i = refl
zeros_at (x ∷ l) t zero = eqb→eq x 0 (and_left (eqb x 0) (zeros l) t)
zeros_at (x ∷ l) t (suc i) = zeros_at l (and_right (eqb x 0) (zeros l) t) i

-- F 0, .., F (k - 1) stand at the places g 0, .., g (k - 1), and everything else is as it was
pub record Written (g F : ℕ → ℕ) (before : List ℕ) (k : ℕ) (l : List ℕ) : Type 0 where
  pub size : length l ≡ length before
  pub new : (i : ℕ) → i < k → get_or l (g i) 0 ≡ F i
  pub old : (i : ℕ) → ((j : ℕ) → j < k → i ≢ g j) → get_or l i 0 ≡ get_or before i 0

module _ (g F : ℕ → ℕ) (before : List ℕ) where
  pub written_none : Written g F before 0 before
  written_none = record { size = refl; new = λ i l. absurd (omega arith); old = λ i h. refl }

  -- one store more
  pub written_more : (k : ℕ) (l : List ℕ) → Written g F before k l → ((j : ℕ) → j < k → g j ≢ g k) → g k < length before → (x : ℕ) → x ≡ F k
      → Written g F before (k + 1) (set l (g k) x)
  written_more k l w apart fit x e =
      let room : g k < length l = omega (arith, w.size) in
      record {
        size = length-set l (g k) x ∙ w.size;
        new = λ i li.
            by_cases (ℕ_discrete i k)
            (λ same. ap (λ (u : ℕ). get_or (set l (g k) x) (g u) 0) same ∙ get_or-set_same l (g k) x 0 room ∙ e ∙ ap F (sym same))
            (λ other. let less : i < k = omega arith in get_or-set_other l (g k) (g i) x 0 (apart i less) ∙ w.new i less);
        old = λ i h. get_or-set_other l (g k) i x 0 (h k (omega arith)) ∙ w.old i (λ j lj. h j (omega arith));
      }
