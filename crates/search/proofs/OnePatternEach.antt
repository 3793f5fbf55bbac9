-- Every candidate is met by exactly one pattern, and what a binary pattern completes to is a candidate. Assumes nothing.
use mathlib.Core.Path.{◌≡◌, sym, ap, ◌∙◌, subst}
use mathlib.Core.Bool.{not}
use mathlib.Core.List.{List}
use Prim.Native.Nat.{ℕ, ◌+◌, ◌-◌, ◌^◌, ◌<◌, ◌≤◌}
use native.Mathlib.Omega.{arith}
use lib.Dec.{T, eqb}
use lib.IntN.{ℤ}
use Rattle.field.specs.Below.{only}
use Rattle.field.specs.Field.{◌⊕◌, length_of}
use Rattle.field.specs.Laws.{Laws}
use Rattle.field.proofs.TotalLaws.{total_cong}
use Rattle.field.proofs.XorLaws.{xor_self_left, xor_lt}
use Rattle.codes.specs.Codeword.{bit_of, word_of}
use Rattle.codes.proofs.WordLaws.{bit_lt, bit_xor, bit_ext, bit_word, word_lt}
use Rattle.soft.specs.Value.{hard}
use Rattle.soft.specs.Sorted.{Sorted}
use Rattle.soft.specs.Distance.{reliable_flips}
use Rattle.soft.specs.Candidate.{Candidate}
use Rattle.search.specs.Search.{binary, completed}
use Rattle.search.specs.ByRank.{sum_bits}
use Rattle.search.specs.Pattern.{Pattern, flipped_by}
use Rattle.search.proofs.EveryCandidateSeen.{apart, leaf→, leaf←}
use Rattle.search.proofs.BestIsNearest.{apart_total, flips_by_rank}
use Rattle.search.proofs.RankBits.{spread_at, sum_bits_total}
use Rattle.search.proofs.RankSearch.{apart_by}

xor_bits_lt : (x y : ℕ) → x < 2 → y < 2 → x ⊕ y < 2
xor_bits_lt x y = xor_lt 1 x y

module _ (m b r : ℕ) (soft : List ℤ) (R : ℕ → ℕ) (S : Sorted m soft R) (fit : r ≤ length_of m) (F : Laws m) (first : b ≤ 1) where
  abbrev K : ℕ
  K = length_of m - r

  abbrev received : ℕ
  received = word_of (length_of m) (hard soft)

  abbrev by : ℕ → ℕ
  by f = flipped_by m r R soft f

  -- a pattern's bit at a rank is its flip on top of the hard decision
  by_bit : (f j : ℕ) → j < K → bit_of (by f) (R j) ≡ bit_of received (R j) ⊕ bit_of f j
  unfolding flipped_by
  by_bit f j l =
      bit_xor received _ (R j) ∙ ap (λ (u : ℕ). bit_of received (R j) ⊕ u)
      (spread_at R K f (λ i j a c. S.order.places.apart i j (omega arith) (omega arith)) j l)

  -- a word that agrees with a pattern on the reliable ranks differs from the hard decisions as often as the pattern flips
  flips_of_lem : (f c : ℕ) → ((j : ℕ) → j < K → bit_of c (R j) ≡ bit_of (by f) (R j)) → reliable_flips m r soft c ≡ sum_bits (λ j. 1) K f
  flips_of_lem f c h =
      sym (flips_by_rank m b r soft R S fit c) ∙ apart_total R K 0 received c
      ∙ total_cong K _ _ (λ j l. let e : 0 + j ≡ j = omega arith in ap (λ (x : ℕ). apart R x received c) e
      ∙ ap (λ (u : ℕ). only (not (eqb u (bit_of received (R j)))) 1) (h j l ∙ by_bit f j l)
      ∙ apart_by (bit_of received (R j)) (bit_of f j) 1 (bit_lt f j))
      ∙ sym (sum_bits_total (λ j. 1) K f)

  pub binary_candidate : (tau f : ℕ) → Pattern m r tau f → T (binary m b r R (by f)) → Candidate m b r tau soft (completed m b r R (by f))
  binary_candidate tau f h t =
      let u = leaf→ R m b r F first S.order fit (by f) t in
      record { codeword = u.0; near = subst (λ (x : ℕ). x ≤ tau) (sym (flips_of_lem f (completed m b r R (by f)) u.1)) h.few }

  -- the ranks at which a word differs from the hard decisions
  flips_set : ℕ → ℕ
  flips_set c = word_of K (λ j. bit_of received (R j) ⊕ bit_of c (R j))

  set_two : (c j : ℕ) → j < K → bit_of received (R j) ⊕ bit_of c (R j) < 2
  set_two c j _ = xor_bits_lt (bit_of received (R j)) (bit_of c (R j)) (bit_lt received (R j)) (bit_lt c (R j))

  set_agrees : (c j : ℕ) → j < K → bit_of c (R j) ≡ bit_of (by (flips_set c)) (R j)
  unfolding flips_set
  set_agrees c j l =
      sym (by_bit (flips_set c) j l ∙ ap (λ (u : ℕ). bit_of received (R j) ⊕ u)
      (bit_word K (λ j. bit_of received (R j) ⊕ bit_of c (R j)) (set_two c) j l)
      ∙ xor_self_left (bit_of received (R j)) (bit_of c (R j)))

  set_low : (c : ℕ) → flips_set c < 2 ^ K
  unfolding flips_set
  set_low c = word_lt K (λ j. bit_of received (R j) ⊕ bit_of c (R j)) (set_two c)

  pub candidate_pattern : (tau c : ℕ) → Candidate m b r tau soft c
      → (f : ℕ) × Pattern m r tau f × T (binary m b r R (by f)) × (completed m b r R (by f) ≡ c)
  candidate_pattern tau c h =
      let u = leaf← R m b r F first S.order fit (by (flips_set c)) c h.codeword (set_agrees c) in (
        flips_set c,
        record { ranks = set_low c; few = subst (λ (x : ℕ). x ≤ tau) (flips_of_lem (flips_set c) c (set_agrees c)) h.near },
        u.0,
        sym u.1,
      )

  -- two patterns that complete to one word are one
  pub pattern_one : (tau f g : ℕ) → Pattern m r tau f → Pattern m r tau g → T (binary m b r R (by f)) → T (binary m b r R (by g))
      → completed m b r R (by f) ≡ completed m b r R (by g) → f ≡ g
  pattern_one tau f g hf hg tf tg e =
      bit_ext f g K hf.ranks hg.ranks (λ j l.
      sym (xor_self_left (bit_of received (R j)) (bit_of f j)) ∙ ap (λ (u : ℕ). bit_of received (R j) ⊕ u) (same j l)
      ∙ xor_self_left (bit_of received (R j)) (bit_of g j))
    where
      same : (j : ℕ) → j < K → bit_of received (R j) ⊕ bit_of f j ≡ bit_of received (R j) ⊕ bit_of g j
      same j l =
          sym (by_bit f j l) ∙ sym ((leaf→ R m b r F first S.order fit (by f) tf).1 j l) ∙ ap (λ (u : ℕ). bit_of u (R j)) e
          ∙ (leaf→ R m b r F first S.order fit (by g) tg).1 j l ∙ by_bit g j l
