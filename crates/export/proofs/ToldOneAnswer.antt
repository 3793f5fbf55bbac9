-- What a C host is told is one for each input, as the calls' answers are. Assumes nothing.
use mathlib.Core.Path.{◌≡◌, sym, ap, ◌∙◌}
use mathlib.Core.List.{List, [], ◌∷◌}
use Prim.Native.Nat.{ℕ}
use lib.IntN.{ℤ}
use Rattle.codec.specs.declared.Reading.{Reading}
use Rattle.codec.proofs.CodecOneAnswer.{read_one_answer}
use Rattle.decode.specs.declared.Decoding.{Decoding}
use Rattle.decode.proofs.DecodeOneAnswer.{decode_one_answer}
use Rattle.export.specs.Told.{told, DecodeTold, ReadTold, FaultTold}

pub decode_told_one : (m t s order : ℕ) (soft : List ℤ) (before figures : List ℕ) (a b : ℕ) (after other left remains : List ℕ)
    → DecodeTold m t s order soft before figures a after left → DecodeTold m t s order soft before figures b other remains
    → (a ≡ b) × (after ≡ other) × (left ≡ remains)
decode_told_one m t s order soft before figures a b after other left remains h k =
    let same = decode_one_answer m t s order soft before h.answer k.answer after other h.answers k.answers in
    let e = h.refusal ∙ ap (λ (x : Decoding). x.refusal) same.0 ∙ sym k.refusal in (
      e,
      same.1,
      h.tells ∙ ap (λ (x : Decoding). told a (x.distance ∷ x.flips ∷ x.candidates ∷ []) figures) same.0
          ∙ ap (λ (N : ℕ). told N (k.answer.distance ∷ k.answer.flips ∷ k.answer.candidates ∷ []) figures) e ∙ sym k.tells,
    )

pub read_told_one : (m t s : ℕ) (word message : List ℕ) (a b : ℕ) (left remains : List ℕ)
    → ReadTold m t s word message a left → ReadTold m t s word message b remains → (a ≡ b) × (left ≡ remains)
read_told_one m t s word message a b left remains h k =
    let same = read_one_answer m t s word h.answer k.answer h.answers k.answers in
    let e = h.refusal ∙ ap (λ (x : Reading). x.refusal) same ∙ sym k.refusal in (
      e,
      h.tells ∙ ap (λ (x : Reading). told a (x.message ∷ []) message) same ∙ ap (λ (N : ℕ). told N (k.answer.message ∷ []) message) e
          ∙ sym k.tells,
    )

pub fault_told_one : (m t s : ℕ) (word : List ℕ) (a b : ℕ) → FaultTold m t s word a → FaultTold m t s word b → a ≡ b
fault_told_one m t s word a b h k =
    h.place ∙ ap (λ (x : Reading). x.at) (read_one_answer m t s word h.answer k.answer h.answers k.answers) ∙ sym k.place
