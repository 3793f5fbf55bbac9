-- A sent codeword with a margin is nearer than every other codeword. Assumes nothing.
use mathlib.Core.Path.{◌≡◌, sym, ◌∙◌, subst}
use mathlib.Core.Logic.{◌≢◌, by_cases}
use mathlib.Core.Bool.{Bool, true, false, not, ◌&&◌}
use mathlib.Core.List.{List}
use Prim.Native.Nat.{ℕ, ◌+◌, ◌-◌, ◌<◌, ◌≤◌}
use native.Mathlib.Nat.{le_refl}
use native.Mathlib.Decide.{ℕ_discrete}
use native.Mathlib.Omega.{arith}
use lib.Dec.{T, eqb, eqb→eq}
use lib.IntN.{ℤ}
use Rattle.field.specs.Below.{only, total}
use Rattle.field.specs.Field.{length_of}
use Rattle.field.specs.Laws.{Laws}
use Rattle.field.proofs.TestLaws.{and_left, and_right, ne→not, not_eqb}
use Rattle.field.proofs.TotalLaws.{only_le, total_le, total_plus}
use Rattle.codes.specs.Codeword.{bit_of, RootsFrom}
use Rattle.codes.proofs.CodewordsApart.{codewords_apart}
use Rattle.soft.specs.Value.{hard, reliability}
use Rattle.soft.specs.Distance.{differs, soft_distance, flips_of, reliable_flips}
use Rattle.soft.specs.Candidate.{Nearest}
use Rattle.sent.specs.Smallest.{smallest, right_reliabilities}
use Rattle.sent.proofs.SmallestLaws.{smallest_least}

-- what passes a test passes it beside another or passes that other
cover : (a d : Bool) (x : ℕ) → only a x ≤ only (a && not d) x + only d x
cover true true x = omega arith
cover true false x = omega arith
cover false d x = omega arith

right : (x y : ℕ) → T (not (not (eqb x y))) → x ≡ y
right x y t = eqb→eq x y (go (eqb x y) t)
  where
    go : (z : Bool) → T (not (not z)) → T z
    go true h = h
    go false h = h

module _ (m : ℕ) (F : Laws m) (b r : ℕ) (soft : List ℤ) (c v : ℕ) (hc : RootsFrom m b r c) (hv : RootsFrom m b r v) (ne : c ≢ v) where
  abbrev unlike : ℕ → Bool
  unlike p = not (eqb (bit_of c p) (bit_of v p))

  -- c is right there, and v is another
  abbrev other : ℕ → Bool
  other p = unlike p && not (differs soft c p)

  others_many : r + 1 - flips_of m soft c ≤ total (length_of m) (λ p. only (other p) 1)
  unfolding flips_of
  others_many =
      omega (
        arith,
        codewords_apart m F b r c v hc hv ne,
        total_le (length_of m) (λ p. only (unlike p) 1) (λ p. only (other p) 1 + only (differs soft c p) 1)
            (λ p _. cover (unlike p) (differs soft c p) 1),
        total_plus (length_of m) (λ p. only (other p) 1) (λ p. only (differs soft c p) 1),
      )

  -- v is wrong there
  others_count : total (length_of m) (λ p. only (other p) (reliability soft p)) ≤ soft_distance m soft v
  unfolding soft_distance differs
  others_count = total_le (length_of m) _ _ (λ p _. only_le (other p) (not (eqb (bit_of v p) (hard soft p))) (reliability soft p) (λ t.
      ne→not (bit_of v p) (hard soft p) (λ e.
      not_eqb (bit_of c p) (bit_of v p) (and_left (unlike p) (not (differs soft c p)) t)
      (right (bit_of c p) (hard soft p) (and_right (unlike p) (not (differs soft c p)) t) ∙ sym e))))

  pub sent_nearer : soft_distance m soft c < smallest (r + 1 - flips_of m soft c) (right_reliabilities m soft c)
      → soft_distance m soft c < soft_distance m soft v
  unfolding right_reliabilities
  sent_nearer h =
      omega (
        arith,
        h,
        others_count,
        smallest_least (length_of m) (λ p. not (differs soft c p)) other (reliability soft)
            (λ p _ t. and_right (unlike p) (not (differs soft c p)) t)
            (r + 1 - flips_of m soft c) others_many,
      )

module _ (m : ℕ) (F : Laws m) (b r tau : ℕ) (soft : List ℤ) (c : ℕ) where
  -- so it is the nearest candidate
  pub sent_nearest : RootsFrom m b r c → reliable_flips m r soft c ≤ tau
      → soft_distance m soft c < smallest (r + 1 - flips_of m soft c) (right_reliabilities m soft c) → Nearest m b r tau soft c
  sent_nearest hc few h = record {
    candidate = record { codeword = hc; near = few };
    least = λ v hv. by_cases (ℕ_discrete c v) (λ e. subst (λ (x : ℕ). soft_distance m soft c ≤ soft_distance m soft x) e (le_refl _))
        (λ n. omega (arith, sent_nearer m F b r soft c v hc hv.codeword n h));
    lowest = λ v hv q. by_cases (ℕ_discrete c v) (λ e. subst (λ (x : ℕ). c ≤ x) e (le_refl c))
        (λ n. absurd (omega (arith, sent_nearer m F b r soft c v hc hv.codeword n h)));
  }
