-- A hard-sliced word with at most t wrong bits comes back at order t or more: demand 3, its margin by the size of the values. Assumes
-- nothing.
use mathlib.Core.Path.{◌≡◌, ap₂, subst}
use mathlib.Core.Logic.{by_cases}
use mathlib.Core.Bool.{not, false, ◌&&◌}
use Prim.Native.Nat.{ℕ, ◌-◌, ◌*◌, ◌<◌, ◌≤◌}
use native.Mathlib.Decide.{dec_lt}
use native.Mathlib.Omega.{arith}
use lib.Dec.{T, eqb}
use lib.ListN.{length}
use Rattle.field.specs.Field.{length_of}
use Rattle.field.proofs.TestLaws.{and_right}
use Rattle.field.proofs.TotalLaws.{total_le, only_le}
use Rattle.codes.proofs.WordLaws.{bit_high}
use Rattle.codes.proofs.ShapeLaws.{length_large}
use Rattle.soft.specs.Value.{reliability}
use Rattle.soft.specs.Order.{reliable}
use Rattle.soft.specs.Distance.{differs, flips_of, reliable_flips}
use Rattle.soft.proofs.ValueLaws.{hard_unsent, reliability_unsent}
use Rattle.sent.proofs.MarginBySize.{margin_by_size}
use Rattle.frame.proofs.RefusalLaws.{DecodePassed, decode_passed}
use Rattle.decode.specs.Call.{Call, checks_of}
use Rattle.demands.specs.Demand3.{wrong_sum, right_sum, Sent}
use Rattle.demands.specs.HardSliced.{HardSliced}
use Rattle.demands.specs.Claims.{HardSlicedWordsAreRead}
use Rattle.demands.proofs.SecondGivesThird.{second_gives_third}

module _ (c : Call) (checked : checks_of c ≡ 0) (v w : ℕ) (h : HardSliced c v w) where
  passed : DecodePassed c.m c.t c.s c.order (length c.soft) (length c.before)
  passed = decode_passed c.m c.t c.s c.order (length c.soft) (length c.before) checked

  -- the values are those of the places that were sent
  past : (p : ℕ) → length_of c.m - c.s ≤ p → length c.soft ≤ p
  past p l = omega (arith, passed.count)

  -- where nothing was sent the word is right
  unsent_right : (p : ℕ) → length_of c.m - c.s ≤ p → differs c.soft w p ≡ false
  unfolding differs
  unsent_right p l =
      ap₂ (λ (x y : ℕ). not (eqb x y)) (bit_high w (length_of c.m - c.s) p h.unsent l) (hard_unsent c.soft p (past p l))

  most : (p : ℕ) → p < length_of c.m → T (differs c.soft w p) → reliability c.soft p ≤ v
  most p _ t =
      by_cases (dec_lt p (length_of c.m - c.s)) (λ l. omega (arith, h.sizes p l))
      (λ l. absurd (subst T (unsent_right p (omega arith)) t))

  least : (p : ℕ) → p < length_of c.m → T (not (differs c.soft w p)) → v ≤ reliability c.soft p
  least p _ t =
      by_cases (dec_lt p (length_of c.m - c.s)) (λ l. omega (arith, h.sizes p l))
      (λ l. omega (arith, h.high, reliability_unsent c.soft p (past p (omega arith))))

  margin : wrong_sum c w < right_sum c w
  margin = margin_by_size c.m (2 * c.t) v c.soft w h.low wide (omega (arith, h.few)) most least
    where
      wide : 2 * c.t < length_of c.m
      wide = omega (arith, passed.known.t_high, length_large c.m passed.known.m_low passed.known.m_high)

  -- no more wrong bits stand in the reliable set than there are
  reliable_few : reliable_flips c.m (2 * c.t) c.soft w ≤ flips_of c.m c.soft w
  unfolding reliable_flips flips_of
  reliable_few = total_le (length_of c.m) _ _ (λ p _. let in-set = reliable c.m (2 * c.t) c.soft p in
      let off = differs c.soft w p in only_le (in-set && off) off 1 (and_right in-set off))

  sent : c.t ≤ c.order → Sent c w
  sent enough = record {
    codeword = h.codeword;
    unsent = h.unsent;
    few = omega (arith, h.few);
    allowed = omega (arith, h.few, reliable_few);
  }

pub hard_sliced_words_are_read : HardSlicedWordsAreRead
hard_sliced_words_are_read x second c checked enough v w h =
    second_gives_third x second c checked w (sent c checked v w h enough) (margin c checked v w h)
