-- For each input decode has one permitted answer and one permitted buffer. Assumes nothing.
use mathlib.Core.Path.{◌≡◌, sym, ap, ◌∙◌}
use mathlib.Core.List.{List}
use Prim.Native.Nat.{ℕ, ◌*◌}
use lib.IntN.{ℤ}
use Rattle.soft.specs.Distance.{soft_distance, flips_of}
use Rattle.soft.proofs.CandidateLaws.{counted_one, nearest_one}
use Rattle.words.specs.Packing.{written}
use Rattle.decode.specs.Decode.{Refused, Decoded, DecodeAnswers, refused, nothing, decoded}
use Rattle.decode.specs.declared.Decoding.{Decoding}

answer_path : (a c : Decoding) → a.refusal ≡ c.refusal → a.distance ≡ c.distance → a.flips ≡ c.flips → a.candidates ≡ c.candidates
    → a ≡ c
answer_path a c p q r s = λ i. record { refusal = p i; distance = q i; flips = r i; candidates = s i }

module _ (m t s order : ℕ) (soft : List ℤ) (before : List ℕ) (a c : Decoding) (after other : List ℕ) where
  both_refuse : (N : ℕ) → Refused N before a after → Refused N before c other → (a ≡ c) × (after ≡ other)
  both_refuse N h k = (h.says ∙ sym k.says, h.keeps ∙ sym k.keeps)

  both_decode : Decoded m t order soft before a after → Decoded m t order soft before c other → (a ≡ c) × (after ≡ other)
  both_decode h k = (
    answer_path a c (h.refusal ∙ sym k.refusal) (h.distance ∙ ap (soft_distance m soft) w ∙ sym k.distance)
        (h.flips ∙ ap (flips_of m soft) w ∙ sym k.flips)
        (counted_one m 1 (2 * t) order soft a.candidates c.candidates h.candidates k.candidates),
    h.writes ∙ ap (λ (x : ℕ). written m x before) w ∙ sym k.writes,
  )
    where
      w : h.word ≡ k.word
      w = nearest_one m 1 (2 * t) order soft h.word k.word h.nearest k.nearest

  pub decode_one_answer : DecodeAnswers m t s order soft before a after → DecodeAnswers m t s order soft before c other
      → (a ≡ c) × (after ≡ other)
  decode_one_answer (refused n h) (refused l k) = both_refuse _ h k
  decode_one_answer (refused n h) (nothing e f k) = absurd (n e)
  decode_one_answer (refused n h) (decoded e k) = absurd (n e)
  decode_one_answer (nothing e f h) (refused l k) = absurd (l e)
  decode_one_answer (nothing e f h) (nothing _ _ k) = both_refuse 6 h k
  decode_one_answer (nothing e f h) (decoded _ k) = absurd (f k.word k.nearest.candidate)
  decode_one_answer (decoded e h) (refused l k) = absurd (l e)
  decode_one_answer (decoded e h) (nothing _ f k) = absurd (f h.word h.nearest.candidate)
  decode_one_answer (decoded e h) (decoded _ k) = both_decode h k
