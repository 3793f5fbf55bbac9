-- What decode comes to, given what its checks, the preparation and the search say: each answer is the one that its record permits.
-- Assumes nothing.
use mathlib.Core.Path.{◌≡◌, refl, sym, ap, ◌∙◌, subst}
use mathlib.Core.Bool.{Bool, true, false, not}
use mathlib.Core.List.{List}
use Prim.Native.Nat.{ℕ, ◌*◌}
use native.Mathlib.Omega.{arith}
use lib.Dec.{T}
use lib.IntN.{ℤ}
use lib.ListN.{length}
use Rattle.field.proofs.FieldLaws.{laws}
use Rattle.codes.proofs.ShapeLaws.{roots_fit}
use Rattle.words.specs.Packing.{written}
use Rattle.frame.specs.Refusal.{decode_refusal}
use Rattle.frame.proofs.RefusalLaws.{DecodePassed, decode_passed}
use Rattle.search.specs.Best.{Best}
use Rattle.search.specs.Search.{searched}
use Rattle.search.specs.Plan.{Plan, Prepares}
use Rattle.search.specs.ByRank.{rank_searched}
use Rattle.search.specs.Claims.{Case}
use Rattle.search.proofs.RankSearch.{rank_search_is}
use Rattle.search.proofs.ClaimsShown.{best_is_nearest, candidates_are_counted, nothing_is_missed}
use Rattle.decode.specs.Decode.{Decoded, DecodeAnswers, nothing, decoded}
use Rattle.decode.specs.Call.{refusing}

-- what a best says in an answer
abbrev pub telling : Best → Rattle.decode.specs.declared.Decoding.Decoding
telling x = record { refusal = 0; distance = x.distance; flips = x.flips; candidates = x.count }

-- what the code's test of `found` says
flipped_true : (b : Bool) → not b ≡ true → b ≡ false
flipped_true true e = sym e
flipped_true false e = refl

flipped_false : (b : Bool) → not b ≡ false → b ≡ true
flipped_false true e = refl
flipped_false false e = sym e

module _ (m t s order : ℕ) (soft : List ℤ) (before : List ℕ) (passes : decode_refusal m t s order (length soft) (length before) ≡ 0)
  where
    pub decode_checked : DecodePassed m t s order (length soft) (length before)
    decode_checked = decode_passed m t s order (length soft) (length before) passes

    module _ (p : Plan) (P : Prepares m 1 (2 * t) soft p) (x : Best) (q : x ≡ rank_searched p order) where
      case : Case m 1 (2 * t) order soft p.place
      case = record {
        m_low = decode_checked.known.m_low;
        m_high = decode_checked.known.m_high;
        first = omega arith;
        fit = roots_fit m t decode_checked.known;
        sorted = P.sorted;
      }

      is_search : x ≡ searched m 1 (2 * t) p.place soft order
      is_search = q ∙ rank_search_is m 1 (2 * t) soft p P (laws m case.m_low case.m_high) case.first case.fit order

      pub decode_finds_none : not x.found ≡ true → DecodeAnswers m t s order soft before (refusing 6) before
      decode_finds_none f =
          nothing passes (λ w c. subst T (ap (λ (y : Best). y.found) (sym is_search) ∙ flipped_true x.found f)
          (nothing_is_missed m 1 (2 * t) order soft p.place case w c))
          (record { says = refl; keeps = refl })

      pub decode_finds : not x.found ≡ false → (after : List ℕ) → after ≡ written m x.word before
          → DecodeAnswers m t s order soft before (telling x) after
      decode_finds f after w =
          decoded passes (subst (λ (y : Best). Decoded m t order soft before (telling y) after) (sym is_search) (record {
            word = best.word;
            nearest = known.0;
            refusal = refl;
            distance = known.1;
            flips = known.2;
            candidates = candidates_are_counted m 1 (2 * t) order soft p.place case;
            writes = w ∙ ap (λ (y : Best). written m y.word before) is_search;
          }))
        where
          best : Best
          best = searched m 1 (2 * t) p.place soft order

          known : Rattle.soft.specs.Candidate.Nearest m 1 (2 * t) order soft best.word
              × (best.distance ≡ Rattle.soft.specs.Distance.soft_distance m soft best.word)
              × (best.flips ≡ Rattle.soft.specs.Distance.flips_of m soft best.word)
          known =
              best_is_nearest m 1 (2 * t) order soft p.place case
              (subst T (sym (ap (λ (y : Best). y.found) (sym is_search) ∙ flipped_false x.found f)) tt)
