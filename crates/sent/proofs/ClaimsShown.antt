-- The claims of specs/Claims, each under its name. Assumes nothing.
use mathlib.Core.Path.{sym}
use mathlib.Core.Bool.{not}
use mathlib.Core.List.{List}
use Prim.Native.Nat.{ℕ}
use lib.IntN.{ℤ}
use Rattle.field.specs.Field.{length_of}
use Rattle.field.proofs.FieldLaws.{laws}
use Rattle.soft.specs.Value.{reliability}
use Rattle.soft.specs.Distance.{differs}
use Rattle.soft.proofs.CandidateLaws.{nearest_one}
use Rattle.sent.specs.Smallest.{right_reliabilities}
use Rattle.sent.specs.Claims.{SmallestAreLeast, OthersAreFarther, SentIsNearest}
use Rattle.sent.proofs.SmallestLaws.{smallest_least}
use Rattle.sent.proofs.SentIsNearest.{sent_nearer, sent_nearest}

pub smallest_are_least : SmallestAreLeast
unfolding right_reliabilities
smallest_are_least m soft w k q h c = smallest_least (length_of m) (λ p. not (differs soft w p)) q (reliability soft) h k c

module _ (m b r tau : ℕ) (soft : List ℤ) (c : ℕ) where
  pub others_are_farther : OthersAreFarther m b r tau soft c
  others_are_farther h v hv n = sent_nearer m (laws m h.m_low h.m_high) b r soft c v h.codeword hv (λ e. n (sym e)) h.margin

  pub sent_is_nearest : SentIsNearest m b r tau soft c
  sent_is_nearest h =
      let near = sent_nearest m (laws m h.m_low h.m_high) b r tau soft c h.codeword h.allowed h.margin in
      (near, λ w hw. nearest_one m b r tau soft w c hw near)
