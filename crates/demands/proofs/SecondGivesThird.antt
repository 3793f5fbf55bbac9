-- What meets demand 2 meets demand 3: the sent codeword is one of those among which the decoder chooses, and every other is farther.
-- Assumes nothing.
use mathlib.Core.Path.{◌≡◌, sym, ap, ◌∙◌, subst}
use mathlib.Core.Logic.{◌≢◌, by_cases}
use Prim.Native.Nat.{ℕ, ◌*◌, ◌<◌}
use native.Mathlib.Decide.{ℕ_discrete}
use native.Mathlib.Omega.{arith}
use lib.ListN.{length}
use Rattle.codes.specs.Code.{Known}
use Rattle.codes.specs.Codeword.{Codeword}
use Rattle.sent.proofs.ClaimsShown.{others_are_farther}
use Rattle.words.specs.Packing.{word_in}
use Rattle.words.proofs.PackingLaws.{written_read}
use Rattle.frame.proofs.RefusalLaws.{decode_passed}
use Rattle.decode.specs.Call.{Call, Result, checks_of}
use Rattle.demands.specs.Calls.{Calls}
use Rattle.demands.specs.Decodes.{distance_of, Chosen, Returns}
use Rattle.demands.specs.Demand2.{Demand2}
use Rattle.demands.specs.Demand3.{wrong_sum, right_sum, Sent, Demand3}

module _ (c : Call) (e : checks_of c ≡ 0) where
  known : Known c.m c.t
  known = (decode_passed c.m c.t c.s c.order (length c.soft) (length c.before) e).known

  -- a result returns one word
  returns_one : (v w : ℕ) (y : Result) → Returns c v y → Returns c w y → v ≡ w
  returns_one v w y h k =
      sym (written_read c.m v c.before known.m_low known.m_high h.bits)
      ∙ ap (word_in c.m) (sym h.writes ∙ k.writes)
      ∙ written_read c.m w c.before known.m_low known.m_high k.bits

  -- any other codeword is farther than the one that was sent, so no other is chosen
  sent_chosen : (w : ℕ) → Sent c w → wrong_sum c w < right_sum c w → (v : ℕ) → Chosen c v → v ≡ w
  sent_chosen w h margin v k =
      by_cases (ℕ_discrete v w) (λ q. q)
      (λ n. absurd (omega (arith, k.least w (record { codeword = h.codeword; near = h.allowed }), farther v k.among.codeword n)))
    where
      farther : (u : ℕ) → Codeword c.m c.t u → u ≢ w → wrong_sum c w < distance_of c u
      farther = others_are_farther c.m 1 (2 * c.t) c.order c.soft w (record {
        m_low = known.m_low;
        m_high = known.m_high;
        first = omega arith;
        codeword = h.codeword;
        few = h.few;
        allowed = h.allowed;
        margin = margin;
      })

pub second_gives_third : (x : Calls) → Demand2 x → Demand3 x
second_gives_third x h c e w k margin =
    let u = (h.decode c e).some w (record { codeword = k.codeword; near = k.allowed }) in
    let r = subst (λ (v : ℕ). Returns c v (x.decode c)) (sent_chosen c e w k margin u.0 u.1) u.2 in
    (r, λ v q. returns_one c e v w (x.decode c) q r)
