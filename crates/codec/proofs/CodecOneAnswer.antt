-- For each input encode and read have one permitted answer, and encode one permitted buffer. Assumes nothing.
use mathlib.Core.Path.{◌≡◌, sym, ap, ◌∙◌}
use mathlib.Core.List.{List}
use Prim.Native.Nat.{ℕ}
use lib.ListN.{length}
use Rattle.codes.proofs.SystematicWord.{codeword_high}
use Rattle.words.specs.Packing.{written}
use Rattle.frame.proofs.RefusalLaws.{encode_known}
use Rattle.codec.specs.Encode.{EncodeAnswers, refused, encoded}
use Rattle.codec.specs.Read.{ReadAnswers}
use Rattle.codec.specs.declared.Reading.{Reading}
use Rattle.codec.proofs.CalledLaws.{answers_as_reading}

pub encode_one_answer : (m t s message : ℕ) (before : List ℕ) (a b : ℕ) (after other : List ℕ)
    → EncodeAnswers m t s message before a after → EncodeAnswers m t s message before b other → (a ≡ b) × (after ≡ other)
encode_one_answer m t s message before a b after other (refused n h u) (refused l k v) = (h ∙ sym k, u ∙ sym v)
encode_one_answer m t s message before a b after other (refused n h u) (encoded e k v) = absurd (n e)
encode_one_answer m t s message before a b after other (encoded e h u) (refused l k v) = absurd (l e)
encode_one_answer m t s message before a b after other (encoded e h u) (encoded _ k v) = (
  h ∙ sym k,
  u.writes
      ∙ ap (λ (x : ℕ). written m x before)
      (codeword_high m t (encode_known m t s message (length before) e) u.word v.word u.codeword v.codeword
      (u.high ∙ sym v.high))
      ∙ sym v.writes,
)

pub read_one_answer : (m t s : ℕ) (bytes : List ℕ) (a b : Reading) → ReadAnswers m t s bytes a → ReadAnswers m t s bytes b → a ≡ b
read_one_answer m t s bytes a b h k = answers_as_reading m t s bytes a h ∙ sym (answers_as_reading m t s bytes b k)
