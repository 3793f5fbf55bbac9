-- What encode comes to, given what its checks and its callees say: the answer is the one that its record permits. Assumes nothing.
use mathlib.Core.Path.{◌≡◌, refl, sym, ap, ◌∙◌, subst}
use mathlib.Core.List.{List}
use Prim.Native.Nat.{ℕ, ◌+◌, ◌-◌, ◌*◌, ◌%◌, ◌^◌, ◌<◌, ◌≤◌}
use native.Mathlib.Nat.{le_trans}
use native.Mathlib.Omega.{arith}
use lib.Pow.{pow_mono, shl_lt, shl_exact}
use lib.ListN.{length}
use Rattle.field.specs.Field.{◌⊕◌}
use Rattle.codes.specs.Code.{Known, dimension_of, parity_of, generator_of}
use Rattle.codes.specs.Generator.{remainder_by, with_parity, systematic}
use Rattle.codes.proofs.ShapeLaws.{length_small, parity_full}
use Rattle.codes.proofs.WordLaws.{high_lt}
use Rattle.codes.proofs.SystematicWord.{systematic_high, systematic_codeword}
use Rattle.words.specs.Packing.{written}
use Rattle.frame.specs.Refusal.{encode_refusal}
use Rattle.frame.proofs.RefusalLaws.{EncodePassed, encode_passed}
use Rattle.codec.specs.Encode.{EncodeAnswers}

-- the message moved up by the parity bits is a word of n bits
module _ (m t M : ℕ) (k : Known m t) (h : M < 2 ^ dimension_of m t) where
  pub message_moved : (M * 2 ^ parity_of m t) % 2 ^ 64 ≡ M * 2 ^ parity_of m t
  message_moved =
      shl_exact {a = M} (dimension_of m t) (parity_of m t) 64 h (omega (arith, parity_full m t k, length_small m k.m_low k.m_high))

  pub moved_lt : M * 2 ^ parity_of m t < 2 ^ (parity_of m t + dimension_of m t)
  moved_lt =
      let e : dimension_of m t + parity_of m t ≡ parity_of m t + dimension_of m t = omega arith in
      subst (λ (x : ℕ). M * 2 ^ parity_of m t < 2 ^ x) e (shl_lt (dimension_of m t) (parity_of m t) h)

pub systematic_is : (m t M : ℕ)
    → M * 2 ^ parity_of m t ⊕ remainder_by (parity_of m t) (generator_of m t) (dimension_of m t) (M * 2 ^ parity_of m t) ≡ systematic m t M
unfolding systematic with_parity
systematic_is m t M = refl

module _ (m t s message : ℕ) (before : List ℕ) (N : ℕ) (e : N ≡ encode_refusal m t s message (length before)) where
  pub encode_refuses : 0 < N → EncodeAnswers m t s message before N before
  encode_refuses h = EncodeAnswers.refused (λ z. let q : N ≡ 0 = e ∙ z in omega arith) e refl

  module _ (h : N ≤ 0) where
    pub encode_checked : EncodePassed m t s message (length before)
    encode_checked = encode_passed m t s message (length before) (sym e ∙ omega arith)

    pub encode_small : message < 2 ^ dimension_of m t
    encode_small = le_trans encode_checked.small (pow_mono {i = dimension_of m t - s} (omega arith))

    pub encode_writes : (word : ℕ) (after : List ℕ) → word ≡ systematic m t message → after ≡ written m word before
        → EncodeAnswers m t s message before 0 after
    encode_writes word after q w =
        EncodeAnswers.encoded (sym e ∙ omega arith) refl (record {
          word = systematic m t message;
          codeword = systematic_codeword m t message encode_checked.known encode_small;
          high = systematic_high m t message encode_checked.known encode_small;
          unsent =
              subst (λ (x : ℕ). systematic m t message < 2 ^ x)
              (omega (arith, parity_full m t encode_checked.known, encode_checked.short))
              (high_lt (systematic m t message) (parity_of m t) (dimension_of m t - s)
              (subst (λ (x : ℕ). x < 2 ^ (dimension_of m t - s)) (sym (systematic_high m t message encode_checked.known encode_small))
              encode_checked.small));
          writes = w ∙ ap (λ (x : ℕ). written m x before) q;
        })
