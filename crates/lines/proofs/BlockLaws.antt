-- What a block prints and what is remembered after it, piece by piece: up to a newline, a newline, and the rest. A text without a newline,
-- byte by byte: tail_too, no_newline.
-- Assumes nothing.
use mathlib.Core.Path.{◌≡◌, refl, ap, ap₂, sym, ◌∙◌}
use mathlib.Core.Bool.{Bool, false}
use mathlib.Core.List.{List, [], ◌∷◌, ◌++◌, append-nil, append_assoc}
use Prim.Native.Nat.{ℕ, suc, ◌≤◌}
use native.Mathlib.Omega.{arith}
use borrow.Author.Tests.{ne_eqb}
use lib.Dec.{eqb}
use lib.ListN.{length, length-take}
use lib.Seq.{take_all, append_snoc}
use Rattle.output_lines.specs.Text.{newline}
use Rattle.lines.specs.Awaited.{line_says, phase_after}
use Rattle.lines.specs.Memory.{Memory, kept, says_if, byte_says, after_if, after_byte, block_says, after_block}
use Rattle.lines.specs.Claims.{NoNewline}
use Rattle.lines.proofs.KeptLaws.{kept_again}

pub says_append : (m : Memory) (a b : List ℕ) → block_says m (a ++ b) ≡ block_says m a ++ block_says (after_block m a) b
unfolding block_says after_block
says_append m [] b = refl
says_append m (x ∷ a) b =
    ap (λ (l : List ℕ). byte_says m x ++ l) (says_append (after_byte m x) a b)
    ∙ sym (append_assoc (byte_says m x) (block_says (after_byte m x) a) (block_says (after_block (after_byte m x) a) b))

pub after_append : (m : Memory) (a b : List ℕ) → after_block m (a ++ b) ≡ after_block (after_block m a) b
unfolding after_block
after_append m [] b = refl
after_append m (x ∷ a) b = after_append (after_byte m x) a b

pub tail_too : (b : ℕ) (piece : List ℕ) → NoNewline (b ∷ piece) → NoNewline piece
tail_too b piece none k h e = none (suc k) (omega arith) e

pub no_newline : (b : ℕ) (piece : List ℕ) → NoNewline (b ∷ piece) → eqb b newline ≡ false
no_newline b piece none = ne_eqb b newline (none 0 (omega arith))

pub says_piece : (m : Memory) (piece : List ℕ) → NoNewline piece → block_says m piece ≡ []
unfolding block_says
says_piece m [] none = refl
says_piece m (b ∷ piece) none =
    ap (λ (t : Bool). says_if t m ++ block_says (after_if t m b) piece) (no_newline b piece none)
    ∙ says_piece (after_if false m b) piece (tail_too b piece none)

abbrev with_text : Memory → List ℕ → Memory
with_text m text = record { phase = m.phase; text = text }

-- the memory with more of the line
abbrev pub more : Memory → List ℕ → Memory
more m piece = record { phase = m.phase; text = kept (m.text ++ piece) }

pub after_piece : (m : Memory) (piece : List ℕ) → length m.text ≤ 513 → NoNewline piece → after_block m piece ≡ more m piece
unfolding after_block
after_piece m [] fits none =
    ap (with_text m) (sym (take_all 513 m.text fits) ∙ ap kept (sym (append-nil m.text)))
after_piece m (b ∷ piece) fits none =
    ap (λ (t : Bool). after_block (after_if t m b) piece) (no_newline b piece none)
    ∙ after_piece (after_if false m b) piece (omega (arith, length-take 513 (m.text ++ b ∷ []))) (tail_too b piece none)
    ∙ ap (with_text m) (kept_again (m.text ++ b ∷ []) piece ∙ ap kept (append_snoc m.text b piece))

-- a line that ends in the block
pub says_line : (m : Memory) (piece : List ℕ) → length m.text ≤ 513 → NoNewline piece
    → block_says m (piece ++ newline ∷ []) ≡ line_says m.phase (kept (m.text ++ piece))
unfolding block_says
says_line m piece fits none =
    says_append m piece (newline ∷ [])
    ∙ ap₂ (λ (l : List ℕ) (n : Memory). l ++ block_says n (newline ∷ [])) (says_piece m piece none) (after_piece m piece fits none)
    ∙ append-nil (line_says m.phase (kept (m.text ++ piece)))

pub after_line : (m : Memory) (piece : List ℕ) → length m.text ≤ 513 → NoNewline piece
    → after_block m (piece ++ newline ∷ []) ≡ record { phase = phase_after m.phase (kept (m.text ++ piece)); text = [] }
unfolding after_block
after_line m piece fits none =
    after_append m piece (newline ∷ []) ∙ ap (λ (n : Memory). after_block n (newline ∷ [])) (after_piece m piece fits none)
