-- Pieces put one after the other make a line.
--   put_none, put_more   no piece, and a piece more
--   put_hex_byte         a byte more, as two hexadecimal digits
--   put_whole            a piece from the start on
-- Assumes nothing.
use mathlib.Core.Path.{◌≡◌, sym, ap, ap₂, subst, ◌∙◌}
use mathlib.Core.List.{List, [], ◌∷◌, ◌++◌, append_assoc, append-nil}
use Prim.Native.Nat.{ℕ, ◌+◌, ◌/◌, ◌%◌, ◌≤◌, ◌<◌}
use native.Mathlib.Nat.{zero-add, add-zero}
use native.Mathlib.Numerals.{add-one}
use native.Mathlib.Omega.{arith}
use lib.ListN.{length, get_or, take, drop, length-append, take-append-drop}
use lib.Seq.{take-suc, take_at, drop-append-add, drop-drop, length-take-le}
use Rattle.io.specs.Digits.{hex_digit_ascii}
use Rattle.output_lines.specs.Output.{hex_of}
use Rattle.output_lines.specs.Put.{Put}
use Rattle.output_lines.specs.Inner.PutAt.{PutAt}
use Rattle.output_lines.proofs.DecimalLaws.{hex_more}

pub put_none : (before : List ℕ) (at : ℕ) → PutAt [] at before at before
put_none before at = record {
  size = sym (add-zero at);
  holds = sym (ap (λ (l : List ℕ). l ++ drop at before) (append-nil (take at before)) ∙ take-append-drop at before);
}

module _ (before : List ℕ) (at : ℕ) (h : at ≤ length before) where
  front_size : (piece : List ℕ) → length (take at before ++ piece) ≡ at + length piece
  front_size piece = length-append (take at before) piece ∙ ap (λ (n : ℕ). n + length piece) (length-take-le at before h)

  pub put_more : (piece more mid after : List ℕ) (m r : ℕ) → PutAt piece at before m mid → PutAt more m mid r after
      → PutAt (piece ++ more) at before r after
  put_more piece more mid after m r p q =
      let front = take at before ++ piece in
      let size : m ≡ length front = p.size ∙ sym (front_size piece) in
      record {
        size = q.size ∙ ap (λ (n : ℕ). n + length more) p.size ∙ simp length-append (omega arith);
        holds =
            q.holds
            ∙ ap₂ (λ (x y : List ℕ). x ++ more ++ y)
            (ap (take m) p.holds ∙ take_at front (drop m before) m (sym size))
            (ap₂ drop (q.size ∙ ap (λ (n : ℕ). n + length more) size) p.holds ∙ drop-append-add front (drop m before) (length more)
            ∙ drop-drop (length more) m before ∙ ap (λ (n : ℕ). drop n before) (sym q.size))
            ∙ ap (λ (l : List ℕ). l ++ drop r before) (append_assoc (take at before) piece more);
      }

  pub put_hex_byte : (bytes mid after : List ℕ) (i m r : ℕ) → i < length bytes → PutAt (hex_of (take i bytes)) at before m mid
      → PutAt (hex_digit_ascii (get_or bytes i 0 / 16) ∷ hex_digit_ascii (get_or bytes i 0 % 16) ∷ []) m mid r after
      → PutAt (hex_of (take (i + 1) bytes)) at before r after
  put_hex_byte bytes mid after i m r l p q =
      let b = get_or bytes i 0 in
      let digits = hex_digit_ascii (b / 16) ∷ hex_digit_ascii (b % 16) ∷ [] in
      subst (λ (x : List ℕ). PutAt x at before r after)
      (sym (hex_more (take i bytes) b) ∙ ap hex_of (sym (take-suc bytes i 0 l) ∙ ap (λ (n : ℕ). take n bytes) (sym (add-one i))))
      (put_more (hex_of (take i bytes)) digits mid after m r p q)

pub put_whole : (piece before : List ℕ) (r : ℕ) (mid after : List ℕ) → PutAt piece 0 before r mid → after ≡ mid → Put piece before r after
put_whole piece before r mid after p e = record { size = p.size ∙ zero-add (length piece); holds = e ∙ p.holds }
