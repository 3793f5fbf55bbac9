-- The functions of specs/Called keep the contracts of encode and read, and read's contract permits nothing else; and what read's checks
-- come to there. Assumes nothing.
use mathlib.Core.Path.{◌≡◌, refl, sym, ap, ◌∙◌}
use mathlib.Core.List.{List}
use Prim.Native.Nat.{ℕ, zero, suc, ◌<◌}
use native.Mathlib.Omega.{arith}
use lib.ListN.{length}
use Rattle.std.specs.Prelude.{Result, Ok, Err, IsErrAnd}
use Rattle.codes.specs.Generator.{systematic}
use Rattle.words.specs.Packing.{word_in}
use Rattle.frame.specs.declared.refusal.Refusal.{Refusal}
use Rattle.frame.specs.Numbers.{number}
use Rattle.frame.specs.Refusal.{encode_refusal, read_refusal}
use Rattle.codec.specs.Encode.{EncodeAnswers}
use Rattle.codec.specs.Read.{ReadAnswers}
use Rattle.codec.specs.GivenBack.{says}
use Rattle.codec.specs.Called.{encoding_after, encoding_of, reading_after, reading_of}
use Rattle.codec.specs.declared.Reading.{Reading}
use Rattle.codec.specs.declared.fault.Fault.{Fault}
use Rattle.codec.specs.declared.fault.Fault.TheVariants.{Refused}
use Rattle.codec.specs.Faulty.{faulty, answer_of}
use Rattle.codec.proofs.EncodeLaws.{encode_refuses, encode_writes}
use Rattle.codec.proofs.ReadLaws.{passed, word_wide, word_answers_lem, read_refuses}
use Rattle.codec.proofs.ReadLaws.{reading_taken, reading_pad, reading_unsent, reading_root}

pub encoding_answers : (m t s message : ℕ) (before : List ℕ)
    → EncodeAnswers m t s message before (encoding_of m t s message before).answer (encoding_of m t s message before).after
unfolding encoding_of
encoding_answers m t s message before = go (encode_refusal m t s message (length before)) refl
  where
    go : (N : ℕ) → N ≡ encode_refusal m t s message (length before)
        → EncodeAnswers m t s message before (encoding_after N m t message before).answer (encoding_after N m t message before).after
    go zero e = encode_writes m t s message before 0 e (omega arith) (systematic m t message) _ refl refl
    go (suc N) e = encode_refuses m t s message before (suc N) e (omega arith)

module _ (m t s : ℕ) (bytes : List ℕ) where
  pub reading_answers : ReadAnswers m t s bytes (reading_of m t s bytes)
  unfolding reading_of
  reading_answers = go (read_refusal m t s (length bytes)) refl
    where
      go : (N : ℕ) → N ≡ read_refusal m t s (length bytes) → ReadAnswers m t s bytes (reading_after N m t s (word_in m bytes))
      go zero e = word_answers_lem m t s bytes (sym e)
      go (suc N) e = read_refuses m t s bytes (suc N) e (omega arith)

  -- a call whose checks gave N
  pub checked : (N : ℕ) → read_refusal m t s (length bytes) ≡ N → reading_of m t s bytes ≡ reading_after N m t s (word_in m bytes)
  unfolding reading_of
  checked N e = ap (λ (x : ℕ). reading_after x m t s (word_in m bytes)) e

  -- a call that they refuse
  pub checks_refused : (N : ℕ) → 0 < N → read_refusal m t s (length bytes) ≡ N → reading_of m t s bytes ≡ says N 0
  checks_refused zero h e = absurd (omega arith)
  checks_refused (suc N) h e = checked (suc N) e

  pub answers_as_reading : (y : Reading) → ReadAnswers m t s bytes y → y ≡ reading_of m t s bytes
  answers_as_reading y (ReadAnswers.refused n h) = go (read_refusal m t s (length bytes)) refl
    where
      go : (N : ℕ) → read_refusal m t s (length bytes) ≡ N → y ≡ reading_of m t s bytes
      go zero e = absurd (n e)
      go (suc N) e = h ∙ ap (λ (x : ℕ). says x 0) e ∙ sym (checked (suc N) e)
  answers_as_reading y (ReadAnswers.padded e u h) =
      let p = passed m t s bytes e in
      h ∙ sym (checked 0 e ∙ reading_pad m t s (word_in m bytes) p.known p.short (word_wide m t s bytes e) u)
  answers_as_reading y (ReadAnswers.unsent e at u h) =
      let p = passed m t s bytes e in
      h ∙ sym (checked 0 e ∙ reading_unsent m t s (word_in m bytes) p.known p.short (word_wide m t s bytes e) at u)
  answers_as_reading y (ReadAnswers.missing_root e at u h) =
      let p = passed m t s bytes e in
      h ∙ sym (checked 0 e ∙ reading_root m t s (word_in m bytes) p.known p.short (word_wide m t s bytes e) at u)
  answers_as_reading y (ReadAnswers.taken e u h) =
      let p = passed m t s bytes e in
      h ∙ sym (checked 0 e ∙ reading_taken m t s (word_in m bytes) p.known p.short u)

-- a refusal of the checks that `?` passes on is answered by its number
pub passed_on : (r : Result ℕ Fault) (e : Refusal) → IsErrAnd r (λ f. f ≡ Refused e) → answer_of r ≡ says (number e) 0
passed_on (Ok M) e h = absurd h
passed_on (Err f) e h = ap faulty h
