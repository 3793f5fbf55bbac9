-- In demand 3 "less than" cannot be "at most": P10's values, with 04 60 sent. Assumes nothing.
use mathlib.Core.Path.{◌≡◌, refl, sym, ◌∙◌, subst}
use native.Mathlib.Omega.{arith}
use lib.Dec.{ltb→lt}
use Rattle.decode.specs.Call.{checks_of}
use Rattle.demands.specs.Decodes.{Returns}
use Rattle.demands.specs.Demand3.{AtEquality}
use Rattle.settled.specs.SettledCalls.{calling, tied}
use Rattle.settled.specs.Settled.{giving}
use Rattle.settled.proofs.Computing.{computing}
use Rattle.demands.proofs.DemandsAreContracts.{decodes_one}
use Rattle.settled.proofs.SettledWords.{passes_1}
use Rattle.demands.proofs.SentWords.{sent_tied, equal_tied}
use Rattle.settled.proofs.SettledShown.{p10}

-- what P10 gives is the zero word
zero_returned : Returns (calling 1 tied) 0 (giving 0 0 10 1 2)
unfolding computing
zero_returned = record { bits = ltb→lt _ _ tt; refusal = refl; distance = refl; flips = refl; writes = refl }

pub equality_shown : AtEquality (calling 1 tied) 0x6004 0
equality_shown = record {
  checked = checked;
  sent = sent_tied;
  equal = equal_tied;
  other = λ e. omega arith;
  returned = λ x h. subst (Returns (calling 1 tied) 0)
      (sym (decodes_one (calling 1 tied) _ (h.decode (calling 1 tied) checked) checked ∙ p10)) zero_returned;
}
  where
    checked : checks_of (calling 1 tied) ≡ 0
    checked = passes_1 tied refl
