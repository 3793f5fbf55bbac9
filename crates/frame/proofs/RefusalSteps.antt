-- Which number each call gives, and when: by the checks that are passed and the first that is met. Assumes nothing.
use mathlib.Core.Path.{◌≡◌, refl, ◌∙◌}
use mathlib.Core.Bool.{Bool, true, false, cond, ◌&&◌}
use Prim.Native.Nat.{ℕ, ◌-◌, ◌^◌, ◌<◌, ◌≤◌}
use native.Mathlib.Omega.{arith}
use lib.Dec.{T, T_not, leb, leb→le, le→leb, ltb→lt, lt→ltb}
use Rattle.field.proofs.TestLaws.{and_both, dec_t}
use Rattle.codes.specs.Code.{Known, dimension_of}
use Rattle.words.specs.Packing.{bytes_of}
use Rattle.frame.specs.Refusal.{unknown_code, too_short, high_order, small_buffer, large_message, encode_refusal, read_refusal}
use Rattle.frame.proofs.RefusalLaws.{known_by}

-- a check that is met gives its number, one that is not leaves it to the next
met : (b : Bool) (N x : ℕ) → T b → cond b N x ≡ N
met true N x t = refl
met false N x t = absurd t

unmet : (b : Bool) (N x : ℕ) → (T b → ⊥) → cond b N x ≡ x
unmet true N x t = absurd (t tt)
unmet false N x t = refl

module _ (m t : ℕ) where
  pub at_1 : (x : ℕ) → (Known m t → ⊥) → cond (unknown_code m t).0 1 x ≡ 1
  at_1 x h = go (dec_t (unknown_code m t).0)
    where
      go : Dec (T (unknown_code m t).0) → cond (unknown_code m t).0 1 x ≡ 1
      go (yes u) = met (unknown_code m t).0 1 x u
      go (no u) = absurd (h (known_by m t 0 (unmet (unknown_code m t).0 1 0 u)))

  pub past_1 : (x : ℕ) → Known m t → cond (unknown_code m t).0 1 x ≡ x
  past_1 x k =
      let h =
      and_both (leb 4 m && leb m 6) (leb 1 t && leb t 3)
      (and_both (leb 4 m) (leb m 6) (le→leb 4 m k.m_low) (le→leb m 6 k.m_high))
      (and_both (leb 1 t) (leb t 3) (le→leb 1 t k.t_low) (le→leb t 3 k.t_high))
      in
      unmet (unknown_code m t).0 1 x (λ u. T_not (leb 4 m && leb m 6 && (leb 1 t && leb t 3)) u h)

  module _ (s : ℕ) where
    pub at_2 : (x : ℕ) → dimension_of m t ≤ s → cond (too_short m t s).0 2 x ≡ 2
    at_2 x h = met (too_short m t s).0 2 x (le→leb (dimension_of m t) s h)

    pub past_2 : (x : ℕ) → s < dimension_of m t → cond (too_short m t s).0 2 x ≡ x
    past_2 x h = unmet (too_short m t s).0 2 x (λ u. omega (arith, leb→le (dimension_of m t) s u))

    pub past_7 : (message x : ℕ) → message < 2 ^ (dimension_of m t - s) → cond (large_message m t s message).0 7 x ≡ x
    past_7 message x h = unmet (large_message m t s message).0 7 x (λ u. omega (arith, leb→le (2 ^ (dimension_of m t - s)) message u))

pub at_3 : (order x : ℕ) → 3 < order → cond (high_order order).0 3 x ≡ 3
at_3 order x h = met (high_order order).0 3 x (lt→ltb 3 order h)

pub past_5 : (m room x : ℕ) → bytes_of m ≤ room → cond (small_buffer m room).0 5 x ≡ x
past_5 m room x h = unmet (small_buffer m room).0 5 x (λ u. omega (arith, ltb→lt room (bytes_of m) u))

module _ (m t s message room : ℕ) where
  pub encode_passes : Known m t → s < dimension_of m t → message < 2 ^ (dimension_of m t - s) → bytes_of m ≤ room
      → encode_refusal m t s message room ≡ 0
  unfolding encode_refusal
  encode_passes k hs hm h = past_1 m t _ k ∙ past_2 m t s _ hs ∙ past_7 m t s message _ hm ∙ past_5 m room 0 h

module _ (m t s room : ℕ) where
  pub read_passes : Known m t → s < dimension_of m t → bytes_of m ≤ room → read_refusal m t s room ≡ 0
  unfolding read_refusal
  read_passes k hs h = past_1 m t _ k ∙ past_2 m t s _ hs ∙ past_5 m room 0 h
