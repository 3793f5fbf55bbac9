-- What a line prints, case by case.
--   says_nothing, says_refused, says_header   the first line: words follow, refused, wrong
--   answer_says                               the first line's answer by the header that was read
--   answers_line                              a word line of a wrong form
--   answers_refused, answers_ok               what decode gave for its values
--   header_long, header_answer_long, word_answer_long   a line of more than 512 bytes
--   missing_header                            the first line of an empty input
-- Assumes nothing.
use mathlib.Core.Path.{◌≡◌, refl, sym, ap, ◌∙◌}
use mathlib.Core.Bool.{Bool, true, false, cond}
use mathlib.Core.List.{List, []}
use Prim.Native.Nat.{ℕ, ◌<◌}
use native.Mathlib.Omega.{arith}
use borrow.Author.Tests.{eq-eqb, ne_eqb}
use lib.Dec.{eqb}
use lib.IntN.{ℤ}
use lib.ListN.{length, take, replicate}
use Rattle.std.specs.Prelude.{Option, Some, None}
use Rattle.codes.specs.Code.{Known}
use Rattle.words.specs.Packing.{bytes_of}
use Rattle.frame.proofs.RefusalLaws.{decode_passed}
use Rattle.decode.specs.Decode.{DecodeAnswers, refused, nothing, decoded}
use Rattle.decode.specs.declared.Decoding.{Decoding}
use Rattle.decode.proofs.CalledLaws.{answers_as_result}
use Rattle.items.specs.Line.{items, is_number}
use Rattle.input_lines.specs.Header.{header_of}
use Rattle.input_lines.specs.WordLine.{values_of}
use Rattle.output_lines.specs.Output.{header_line, line_line, refused_line, ok_line}
use Rattle.lines.specs.Answer.{refusal_of, header_says, header_answer, header_goes_on, call_of, result_line, word_answer}
use Rattle.input_lines.specs.declared.header.Header.{Header}
use Rattle.input_lines.proofs.HeaderSteps.{too_long}
use Rattle.input_lines.proofs.ValuesSteps.{values_long}

module _ (h : Header) where
  pub says_nothing : refusal_of h ≡ 0 → header_says (Some h) ≡ []
  unfolding header_says
  says_nothing z = rw (eq-eqb (refusal_of h) 0 z)

  pub says_refused : (refusal_of h ≡ 0 → ⊥) → header_says (Some h) ≡ refused_line (refusal_of h)
  unfolding header_says
  says_refused n = rw (ne_eqb (refusal_of h) 0 n)

pub says_header : header_says None ≡ header_line
unfolding header_says
says_header = refl

-- words follow exactly where nothing is said
pub nothing_goes_on : (h : Header) → length (header_says (Some h)) ≡ 0 → header_goes_on (Some h) ≡ true
unfolding header_says header_goes_on refused_line
nothing_goes_on h e = go (eqb (refusal_of h) 0) e
  where
    go : (zero : Bool) → length (cond zero [] (refused_line (refusal_of h))) ≡ 0 → zero ≡ true
    go true e = refl
    go false e = absurd (omega (arith, e))

pub something_ends : (header : Option Header) → (length (header_says header) ≡ 0 → ⊥) → header_goes_on header ≡ false
unfolding header_says header_goes_on
something_ends None n = refl
something_ends (Some h) n = go (eqb (refusal_of h) 0) n
  where
    go : (zero : Bool) → (length (cond zero [] (refused_line (refusal_of h))) ≡ 0 → ⊥) → zero ≡ false
    go true n = absurd (n refl)
    go false n = refl

pub answer_says : (text : List ℕ) (header : Option Header) → header ≡ header_of text → header_answer text ≡ header_says header
unfolding header_answer
answer_says text header e = ap header_says (sym e)

-- where nothing is refused, the code is known
pub decoded_known : {m t s order : ℕ} {soft : List ℤ} {before after : List ℕ} {d : Decoding}
    → DecodeAnswers m t s order soft before d after → d.refusal ≡ 0 → Known m t
decoded_known {d = d} (refused n r) z = absurd (n (sym (ap (λ (x : Decoding). x.refusal) r.says) ∙ z))
decoded_known {d = d} (nothing e n r) z = let q : ◌≡◌ {A = ℕ} 6 0 = sym (ap (λ (x : Decoding). x.refusal) r.says)
    ∙ z in absurd (omega arith)
decoded_known {m} {t} {s} {order} {soft} {before} (decoded e r) z = (decode_passed m t s order (length soft) (length before) e).known

module _ (h : Header) (text : List ℕ) where
  pub answers_line : values_of text ≡ None → word_answer h text ≡ line_line
  unfolding word_answer
  answers_line e = rw e

  module _ (soft : List ℤ) (q : values_of text ≡ Some soft) (d : Decoding) (after : List ℕ)
      (answers : DecodeAnswers h.m h.t h.s h.order soft (replicate 8 0) d after) where
    answers_result : word_answer h text ≡ result_line h.m (record { answer = d; after = after })
    unfolding word_answer
    answers_result =
        rw q (ap (result_line h.m) (sym (answers_as_result (call_of h soft) (record { answer = d; after = after }) answers)))

    pub answers_refused : (d.refusal ≡ 0 → ⊥) → word_answer h text ≡ refused_line d.refusal
    unfolding result_line
    answers_refused n = answers_result ∙ rw (ne_eqb d.refusal 0 n)

    pub answers_ok : d.refusal ≡ 0 → word_answer h text ≡ ok_line (take (bytes_of h.m) after) d.distance d.flips d.candidates
    unfolding result_line
    answers_ok z = answers_result ∙ rw (eq-eqb d.refusal 0 z)

-- a line too long is as any other line too long
module _ (a b : List ℕ) (p : 512 < length a) (q : 512 < length b) where
  pub header_long : header_of a ≡ header_of b
  header_long = too_long a p ∙ sym (too_long b q)

  pub header_answer_long : header_answer a ≡ header_answer b
  unfolding header_answer
  header_answer_long = ap header_says header_long

pub word_answer_long : (h : Header) (a b : List ℕ) → 512 < length a → 512 < length b → word_answer h a ≡ word_answer h b
word_answer_long h a b p q = answers_line h a (values_long a p) ∙ sym (answers_line h b (values_long b q))

-- a missing header is a wrong one
pub missing_header : header_answer [] ≡ header_line
unfolding header_answer header_of items is_number
missing_header = says_header
