-- The decode call as a function: its every result is what the contract permits, and nothing else is permitted. Assumes nothing.
use mathlib.Core.Path.{◌≡◌, refl, sym, ap, ◌∙◌, subst}
use mathlib.Core.Bool.{Bool, true, false}
use Prim.Native.Nat.{ℕ, zero, suc, ◌*◌}
use native.Mathlib.Omega.{arith}
use lib.Dec.{T}
use lib.ListN.{length, get_or}
use Rattle.codes.proofs.ShapeLaws.{roots_fit}
use Rattle.frame.proofs.RefusalLaws.{DecodePassed, decode_passed}
use Rattle.search.specs.Best.{Best}
use Rattle.search.specs.Search.{searched}
use Rattle.search.specs.Positions.{positions, search_over}
use Rattle.search.specs.Claims.{Case}
use Rattle.search.proofs.PositionLaws.{positions_sorted}
use Rattle.search.proofs.ClaimsShown.{best_is_nearest, candidates_are_counted, nothing_is_missed}
use Rattle.decode.specs.Decode.{DecodeAnswers, refused, nothing, decoded}
use Rattle.decode.specs.Call.{refusing, Call, Result, checks_of}
use Rattle.decode.specs.Called.{found_if, checked, result_of}
use Rattle.decode.proofs.DecodeOneAnswer.{decode_one_answer}

-- a result is what the contract permits for a call
abbrev pub Answers : Call → Result → Type 0
Answers c x = DecodeAnswers c.m c.t c.s c.order c.soft c.before x.answer x.after

module _ (c : Call) (e : checks_of c ≡ 0) where
  abbrev R : ℕ → ℕ
  R i = get_or (positions c.m c.soft) i 0

  abbrev best : Best
  best = searched c.m 1 (2 * c.t) R c.soft c.order

  passed : DecodePassed c.m c.t c.s c.order (length c.soft) (length c.before)
  passed = decode_passed c.m c.t c.s c.order (length c.soft) (length c.before) e

  case : Case c.m 1 (2 * c.t) c.order c.soft R
  case = record {
    m_low = passed.known.m_low;
    m_high = passed.known.m_high;
    first = omega arith;
    fit = roots_fit c.m c.t passed.known;
    sorted = positions_sorted c.m c.soft;
  }

  found_answers : (b : Bool) → best.found ≡ b → Answers c (found_if b best c)
  found_answers true q =
      let known = best_is_nearest c.m 1 (2 * c.t) c.order c.soft R case (subst T (sym q) tt) in
      decoded e (record {
        word = best.word;
        nearest = known.0;
        refusal = refl;
        distance = known.1;
        flips = known.2;
        candidates = candidates_are_counted c.m 1 (2 * c.t) c.order c.soft R case;
        writes = refl;
      })
  found_answers false q =
      nothing e (λ w h. subst T q (nothing_is_missed c.m 1 (2 * c.t) c.order c.soft R case w h))
      (record { says = refl; keeps = refl })

pub result_answers : (c : Call) → Answers c (result_of c)
unfolding result_of search_over
result_answers c = go (checks_of c) refl
  where
    go : (N : ℕ) → checks_of c ≡ N → Answers c (checked N c)
    go zero e = found_answers c e (best c e).found refl
    go (suc N) e = refused (λ z. let q : suc N ≡ 0 = sym e ∙ z in omega arith) (record { says = ap refusing (sym e); keeps = refl })

pub answers_as_result : (c : Call) (x : Result) → Answers c x → x ≡ result_of c
answers_as_result c x h =
    let p = decode_one_answer c.m c.t c.s c.order c.soft c.before _ _ _ _ h (result_answers c) in
    λ i. record { answer = p.0 i; after = p.1 i }
