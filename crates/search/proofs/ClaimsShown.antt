-- The claims of specs/Claims, each under its name. Assumes nothing.
use mathlib.Core.Path.{◌≡◌, refl, sym, ap, ap₂, ◌∙◌}
use mathlib.Core.List.{List}
use Prim.Native.Nat.{ℕ, zero, suc, ◌+◌}
use native.Mathlib.Omega.{arith}
use lib.IntN.{ℤ}
use Rattle.field.specs.Below.{total}
use Rattle.field.proofs.TotalLaws.{total_head, total_plus}
use Rattle.field.proofs.FieldLaws.{laws}
use Rattle.search.specs.Search.{patterns}
use Rattle.search.specs.Pattern.{choose}
use Rattle.search.specs.Claims.{PatternsAreCounted, PatternsAreBinomials, EveryCandidateHasOnePattern, BinaryPatternsAreCandidates}
use Rattle.search.specs.Claims.{BestIsNearest, CandidatesAreCounted, NothingIsMissed}
use Rattle.search.proofs.BestIsNearest.{search_counts, search_nearest, search_distance, search_flips, search_finds}
use Rattle.search.proofs.PatternsCounted.{patterns_listed}
use Rattle.search.proofs.OnePatternEach.{binary_candidate, candidate_pattern, pattern_one}

-- a sum of binomial coefficients by Pascal's rule
pascal : (k tau : ℕ) → total (suc (suc tau)) (choose (suc k)) ≡ total (suc (suc tau)) (choose k) + total (suc tau) (choose k)
unfolding choose
pascal k tau =
    total_head (suc tau) (choose (suc k)) ∙ ap (λ (u : ℕ). 1 + u) (total_plus (suc tau) (λ i. choose k (suc i)) (choose k))
    ∙ omega (arith, total_head (suc tau) (choose k))

choose_none : (tau : ℕ) → total (suc tau) (choose 0) ≡ 1
unfolding choose total
choose_none zero = refl
choose_none (suc tau) = omega (arith, choose_none tau)

choose_one : (k : ℕ) → total 1 (choose k) ≡ 1
unfolding choose total
choose_one k = refl

pub patterns_are_counted : PatternsAreCounted
patterns_are_counted = patterns_listed

pub patterns_are_binomials : PatternsAreBinomials
unfolding patterns
patterns_are_binomials zero tau = sym (choose_none tau)
patterns_are_binomials (suc k) zero = patterns_are_binomials k zero ∙ choose_one k ∙ sym (choose_one (suc k))
patterns_are_binomials (suc k) (suc tau) = ap₂ ◌+◌ (patterns_are_binomials k (suc tau)) (patterns_are_binomials k tau) ∙ sym (pascal k tau)

module _ (m b r tau : ℕ) (soft : List ℤ) (R : ℕ → ℕ) where
  pub every_candidate_has_one_pattern : EveryCandidateHasOnePattern m b r tau soft R
  every_candidate_has_one_pattern c w h =
      let F = laws m c.m_low c.m_high in
      let u = candidate_pattern m b r soft R c.sorted c.fit F c.first tau w h in (
        u.0,
        u.1,
        u.2,
        u.3,
        λ g p t e. pattern_one m b r soft R c.sorted c.fit F c.first tau g u.0 p u.1 t u.2
            (e ∙ sym u.3),
      )

  pub binary_patterns_are_candidates : BinaryPatternsAreCandidates m b r tau soft R
  binary_patterns_are_candidates c f p t =
      binary_candidate m b r soft R c.sorted c.fit (laws m c.m_low c.m_high) c.first tau f p t

  pub best_is_nearest : BestIsNearest m b r tau soft R
  best_is_nearest c t =
      let F = laws m c.m_low c.m_high in (
        search_nearest m b r soft R c.sorted c.fit F c.first tau t,
        search_distance m b r soft R c.sorted c.fit F c.first tau t,
        search_flips m b r soft R c.sorted c.fit F c.first tau t,
      )

  pub candidates_are_counted : CandidatesAreCounted m b r tau soft R
  candidates_are_counted c = search_counts m b r soft R c.sorted c.fit (laws m c.m_low c.m_high) c.first tau

  pub nothing_is_missed : NothingIsMissed m b r tau soft R
  nothing_is_missed c w h = search_finds m b r soft R c.sorted c.fit (laws m c.m_low c.m_high) c.first tau w h
