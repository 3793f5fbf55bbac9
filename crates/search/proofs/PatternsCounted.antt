-- All patterns, each once, as one list of the length that `patterns` gives. Assumes nothing.
--   listed k may a acc   the numbers with a above the lowest k bits and at most `may` of those set, in front of acc
use mathlib.Core.Path.{◌≡◌, refl, sym, ap, ◌∙◌}
use mathlib.Core.Logic.{◌↔◌, ◌⊎◌, inl, inr, ⊎_elim, by_cases}
use mathlib.Core.List.{List, [], ◌∷◌}
use Prim.Native.Nat.{ℕ, zero, suc, ◌+◌, ◌-◌, ◌*◌, ◌/◌, ◌%◌, ◌^◌, ◌≤◌}
use native.Mathlib.Nat.{div-eq_of_lt, mod-lt, zero-lt-suc}
use native.Mathlib.Decide.{ℕ_discrete}
use native.Mathlib.Omega.{arith}
use lib.ListN.{length}
use lib.Pow.{shr-shr}
use Rattle.field.specs.Field.{length_of}
use Rattle.codes.proofs.WordLaws.{bit_shift, below_div}
use Rattle.soft.specs.Candidate.{Member, NoRepeats}
use Rattle.search.specs.Search.{patterns}
use Rattle.search.specs.ByRank.{sum_bits}
use Rattle.search.specs.Pattern.{Pattern}

abbrev ones : ℕ → ℕ → ℕ
ones k g = sum_bits (λ j. 1) k g

-- a is above the lowest k bits of g, and at most `may` of those are set
record Low (k may a g : ℕ) : Type 0 where
  above : g / 2 ^ k ≡ a
  few : ones k g ≤ may

unfoldable listed : ℕ → ℕ → ℕ → List ℕ → List ℕ
listed zero may a acc = a ∷ acc
listed (suc k) zero a acc = listed k zero (a * 2) acc
listed (suc k) (suc may) a acc = listed k may (a * 2 + 1) (listed k (suc may) (a * 2) acc)

-- the bit at k, and what is above it
halved : (k g : ℕ) → g / 2 ^ suc k ≡ g / 2 ^ k / 2
halved k g = let e : suc k ≡ k + 1 = omega arith in ap (λ (x : ℕ). g / 2 ^ x) e ∙ sym (shr-shr g k 1)

ones_more : (k g : ℕ) → ones (suc k) g ≡ ones k g + g / 2 ^ k % 2
unfolding sum_bits
ones_more k g = ap (λ (x : ℕ). ones k g + x * 1) (bit_shift g k) ∙ omega arith

low_end : (may a g : ℕ) → Low zero may a g ↔ (g ≡ a)
unfolding sum_bits
low_end may a g = (
  λ h. let e : g / 2 ^ 0 ≡ g = omega arith in sym e ∙ h.above,
  λ e. record { above = (let q : g / 2 ^ 0 ≡ g = omega arith in q) ∙ e; few = omega arith },
)

-- the bit at k is kept, or flipped
low_kept : (k may a g : ℕ) → Low k may (a * 2) g → Low (suc k) may a g
low_kept k may a g h = record { above = halved k g ∙ omega (arith, h.above); few = omega (arith, ones_more k g, h.above, h.few) }

low_flipped : (k may a g : ℕ) → Low k may (a * 2 + 1) g → Low (suc k) (suc may) a g
low_flipped k may a g h = record { above = halved k g ∙ omega (arith, h.above); few = omega (arith, ones_more k g, h.above, h.few) }

low_none : (k a g : ℕ) → Low (suc k) zero a g → Low k zero (a * 2) g
low_none k a g h = record { above = omega (arith, halved k g, h.above, ones_more k g, h.few); few = omega (arith, ones_more k g, h.few) }

low_some : (k may a g : ℕ) → Low (suc k) (suc may) a g → Low k (suc may) (a * 2) g ⊎ Low k may (a * 2 + 1) g
low_some k may a g h =
    by_cases (ℕ_discrete (g / 2 ^ k % 2) 0)
    (λ e. inl (record { above = omega (arith, halved k g, h.above); few = omega (arith, ones_more k g, h.few) }))
    (λ n. let e : g / 2 ^ k % 2 ≡ 1 = omega (arith, mod-lt (g / 2 ^ k) (zero-lt-suc 1)) in
    inr (record { above = omega (arith, halved k g, h.above); few = omega (arith, ones_more k g, h.few) }))

listed→ : (k may a : ℕ) (acc : List ℕ) (g : ℕ) → Member g (listed k may a acc) → Member g acc ⊎ Low k may a g
unfolding listed
listed→ zero may a acc g (inl e) = inr ((low_end may a g).1 e)
listed→ zero may a acc g (inr h) = inl h
listed→ (suc k) zero a acc g h = ⊎_elim inl (λ l. inr (low_kept k zero a g l)) (listed→ k zero (a * 2) acc g h)
listed→ (suc k) (suc may) a acc g h =
    ⊎_elim (λ x. ⊎_elim inl (λ l. inr (low_kept k (suc may) a g l)) (listed→ k (suc may) (a * 2) acc g x))
    (λ l. inr (low_flipped k may a g l))
    (listed→ k may (a * 2 + 1) (listed k (suc may) (a * 2) acc) g h)

listed← : (k may a : ℕ) (acc : List ℕ) (g : ℕ) → Member g acc ⊎ Low k may a g → Member g (listed k may a acc)
unfolding listed
listed← zero may a acc g (inl h) = inr h
listed← zero may a acc g (inr l) = inl ((low_end may a g).0 l)
listed← (suc k) zero a acc g h = listed← k zero (a * 2) acc g (⊎_elim inl (λ l. inr (low_none k a g l)) h)
listed← (suc k) (suc may) a acc g h =
    listed← k may (a * 2 + 1) (listed k (suc may) (a * 2) acc) g
    (⊎_elim (λ x. inl (listed← k (suc may) (a * 2) acc g (inl x)))
    (λ l. ⊎_elim (λ x. inl (listed← k (suc may) (a * 2) acc g (inr x))) inr (low_some k may a g l)) h)

listed_once : (k may a : ℕ) (acc : List ℕ) → NoRepeats acc → ((g : ℕ) → Low k may a g → Member g acc → ⊥) → NoRepeats (listed k may a acc)
unfolding listed
listed_once zero may a acc o d = (d a ((low_end may a a).1 refl), o)
listed_once (suc k) zero a acc o d = listed_once k zero (a * 2) acc o (λ g l. d g (low_kept k zero a g l))
listed_once (suc k) (suc may) a acc o d =
    listed_once k may (a * 2 + 1) (listed k (suc may) (a * 2) acc)
    (listed_once k (suc may) (a * 2) acc o (λ g l. d g (low_kept k (suc may) a g l)))
    (λ g l x. ⊎_elim (λ y. d g (low_flipped k may a g l) y) (λ y. omega (arith, l.above, y.above)) (listed→ k (suc may) (a * 2) acc g x))

listed_length : (k may a : ℕ) (acc : List ℕ) → length (listed k may a acc) ≡ patterns k may + length acc
unfolding listed patterns
listed_length zero may a acc = omega arith
listed_length (suc k) zero a acc = listed_length k zero (a * 2) acc
listed_length (suc k) (suc may) a acc =
    omega (arith, listed_length k may (a * 2 + 1) (listed k (suc may) (a * 2) acc), listed_length k (suc may) (a * 2) acc)

pub patterns_listed : (m r tau : ℕ)
    → (l : List ℕ) × NoRepeats l × ((f : ℕ) → Member f l ↔ Pattern m r tau f) × (length l ≡ patterns (length_of m - r) tau)
patterns_listed m r tau = (
  listed K tau 0 [],
  listed_once K tau 0 [] tt (λ g l x. x),
  (λ f. (
    λ h. ⊎_elim (λ x. absurd x) (λ l. record { ranks = below_div f K l.above; few = l.few }) (listed→ K tau 0 [] f h),
    λ p. listed← K tau 0 [] f (inr (record { above = div-eq_of_lt p.ranks; few = p.few })),
  )),
  listed_length K tau 0 [] ∙ omega arith,
)
  where
    K : ℕ
    K = length_of m - r
