-- What encode wrote, read brings back; and what read accepts, encode writes again. Assumes nothing.
use mathlib.Core.Path.{◌≡◌, refl, sym, ap, ◌∙◌, subst}
use mathlib.Core.List.{List}
use Prim.Native.Nat.{ℕ, ◌-◌, ◌/◌, ◌^◌, ◌<◌}
use native.Mathlib.Omega.{arith}
use lib.ListN.{length, get_or}
use Rattle.codes.specs.Code.{dimension_of, parity_of}
use Rattle.codes.proofs.WordLaws.{high_below}
use Rattle.codes.proofs.ShapeLaws.{parity_full}
use Rattle.codes.proofs.SystematicWord.{codeword_high}
use Rattle.words.specs.Packing.{written, word_in}
use Rattle.frame.specs.Refusal.{encode_refusal, read_refusal}
use Rattle.words.proofs.PackingLaws.{written_length, written_read, written_same}
use Rattle.frame.proofs.RefusalLaws.{EncodePassed, ReadPassed, encode_passed, read_passed}
use Rattle.frame.proofs.RefusalSteps.{encode_passes, read_passes}
use Rattle.codec.specs.Encode.{Encoded, EncodeAnswers, refused, encoded}
use Rattle.codec.specs.Read.{Readable, ReadAnswers}
use Rattle.codec.specs.GivenBack.{says}
use Rattle.codec.specs.declared.Reading.{Reading}
use Rattle.codec.proofs.CodecOneAnswer.{read_one_answer}

module _ (m t s message : ℕ) (before after : List ℕ) (e : encode_refusal m t s message (length before) ≡ 0)
    (h : Encoded m t s message before after) where
  passed : EncodePassed m t s message (length before)
  passed = encode_passed m t s message (length before) e

  word_in_is : word_in m after ≡ h.word
  word_in_is =
      ap (word_in m) h.writes ∙ written_read m h.word before passed.known.m_low passed.known.m_high h.codeword.bits

  same_length : length after ≡ length before
  same_length = ap length h.writes ∙ written_length m h.word before passed.room

  encoded_read : ReadAnswers m t s after (says 0 message)
  encoded_read =
      ReadAnswers.taken (read_passes m t s (length after) passed.known passed.short (omega (arith, same_length, passed.room)))
      (subst (Readable m t s) (sym word_in_is) (record { codeword = h.codeword; unsent = h.unsent }))
      (ap (says 0) (sym (ap (λ (x : ℕ). x / 2 ^ parity_of m t) word_in_is ∙ h.high)))

-- "The encoder sends each message to its one word and the reader brings it back."
pub encode_then_read : (m t s message : ℕ) (before after : List ℕ) (answer : Reading)
    → EncodeAnswers m t s message before 0 after → ReadAnswers m t s after answer → answer ≡ says 0 message
encode_then_read m t s message before after answer (refused n h k) r = absurd (n (sym h))
encode_then_read m t s message before after answer (encoded e _ h) r =
    read_one_answer m t s after answer (says 0 message) r (encoded_read m t s message before after e h)

-- what stands in the buffer is written there again, so that no byte changes
module _ (m t s : ℕ) (bytes : List ℕ) (small : (i : ℕ) → get_or bytes i 0 < 256) (e : read_refusal m t s (length bytes) ≡ 0)
    (r : Readable m t s (word_in m bytes)) where
  checked : ReadPassed m t s (length bytes)
  checked = read_passed m t s (length bytes) e

  abbrev message : ℕ
  message = word_in m bytes / 2 ^ parity_of m t

  message_small : message < 2 ^ (dimension_of m t - s)
  message_small =
      high_below (word_in m bytes) (parity_of m t) (dimension_of m t - s)
      (subst (λ (x : ℕ). word_in m bytes < 2 ^ x) (omega (arith, parity_full m t checked.known, checked.short)) r.unsent)

  passes : encode_refusal m t s message (length bytes) ≡ 0
  passes = encode_passes m t s message (length bytes) checked.known checked.short message_small checked.room

  written_again : (answer : ℕ) (after : List ℕ) → EncodeAnswers m t s message bytes answer after → (answer ≡ 0) × (after ≡ bytes)
  written_again answer after (refused n _ _) = absurd (n passes)
  written_again answer after (encoded _ q h) = (
    q,
    h.writes ∙ ap (λ (x : ℕ). written m x bytes)
        (codeword_high m t checked.known h.word (word_in m bytes) h.codeword r.codeword h.high)
        ∙ written_same m (word_in m bytes) bytes checked.room (λ i _. small i) refl,
  )

pub read_then_encode : (m t s message : ℕ) (bytes : List ℕ) → ((i : ℕ) → get_or bytes i 0 < 256) → ReadAnswers m t s bytes (says 0 message)
    → (answer : ℕ) (after : List ℕ) → EncodeAnswers m t s message bytes answer after → (answer ≡ 0) × (after ≡ bytes)
read_then_encode m t s message bytes small (ReadAnswers.refused n h) answer after a = absurd (n (sym (ap (λ (x : Reading). x.refusal) h)))
read_then_encode m t s message bytes small (ReadAnswers.padded e f h) answer after a =
    absurd (let z : ◌≡◌ {A = ℕ} 0 8 = ap (λ (x : Reading). x.refusal) h in omega arith)
read_then_encode m t s message bytes small (ReadAnswers.unsent e p f h) answer after a =
    absurd (let z : ◌≡◌ {A = ℕ} 0 9 = ap (λ (x : Reading). x.refusal) h in omega arith)
read_then_encode m t s message bytes small (ReadAnswers.missing_root e p f h) answer after a =
    absurd (let z : ◌≡◌ {A = ℕ} 0 10 = ap (λ (x : Reading). x.refusal) h in omega arith)
read_then_encode m t s message bytes small (ReadAnswers.taken e r h) answer after a =
    written_again m t s bytes small e r answer after
    (subst (λ (x : ℕ). EncodeAnswers m t s x bytes answer after) (ap (λ (x : Reading). x.message) h) a)
