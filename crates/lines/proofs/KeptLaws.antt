-- Of a line's text the first 513 bytes are enough: a line of more than 512 is answered as any other such line. Assumes nothing.
use mathlib.Core.Path.{◌≡◌, refl, ap}
use mathlib.Core.Logic.{by_cases}
use mathlib.Core.List.{List, [], ◌∷◌, ◌++◌}
use Prim.Native.Nat.{ℕ, zero, suc, ◌<◌}
use native.Mathlib.Decide.{dec_lt}
use native.Mathlib.Omega.{arith}
use lib.ListN.{length, take, length-take}
use lib.Seq.{take_all}
use Rattle.input_lines.specs.Header.{header_of}
use Rattle.lines.specs.Answer.{header_answer, word_answer}
use Rattle.lines.proofs.AnswerLaws.{header_long, header_answer_long, word_answer_long}
use Rattle.lines.specs.Awaited.{line_says, phase_after, last_says}
use Rattle.lines.specs.Memory.{kept}
use Rattle.lines.specs.declared.phase.Phase.{Phase}
use Rattle.lines.specs.declared.phase.Phase.TheVariants.{First, Words, Ended}

-- what is the same of all texts of more than 512 bytes is said of a text by its first 513
by_kept : {A : Type 0} (f : List ℕ → A) → ((a b : List ℕ) → 512 < length a → 512 < length b → f a ≡ f b) → (text : List ℕ)
    → f (kept text) ≡ f text
by_kept f alike text =
    by_cases (dec_lt 513 (length text)) (λ h. alike (kept text) text (omega (arith, length-take 513 text)) (omega arith))
    (λ h. ap f (take_all 513 text (omega arith)))

pub line_kept : (phase : Phase) (text : List ℕ) → line_says phase (kept text) ≡ line_says phase text
line_kept First text = by_kept header_answer header_answer_long text
line_kept (Words h) text = by_kept (word_answer h) (word_answer_long h) text
line_kept Ended text = refl

pub phase_kept : (phase : Phase) (text : List ℕ) → phase_after phase (kept text) ≡ phase_after phase text
phase_kept First text = rw (by_kept header_of header_long text)
phase_kept (Words h) text = refl
phase_kept Ended text = refl

pub last_kept : (phase : Phase) (text : List ℕ) → last_says phase (kept text) ≡ last_says phase text
last_kept First text = line_kept First text
last_kept (Words h) [] = refl
last_kept (Words h) (b ∷ text) = line_kept (Words h) (b ∷ text)
last_kept Ended text = refl

take_again : (n : ℕ) (a b : List ℕ) → take n (take n a ++ b) ≡ take n (a ++ b)
take_again zero a b = refl
take_again (suc n) [] b = refl
take_again (suc n) (x ∷ a) b = ap (λ (l : List ℕ). x ∷ l) (take_again n a b)

pub kept_again : (a b : List ℕ) → kept (kept a ++ b) ≡ kept (a ++ b)
kept_again a b = take_again 513 a b
