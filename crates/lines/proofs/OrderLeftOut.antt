-- A first line of three numbers is answered as the line of four whose last is its second.
--   lines_alone, lines_then   a text with no newline in it is one line, alone and before a newline
--   spaced_items, spaced_fits, spaced_full, spaced_no_newline   a line of numbers: its items, its length, and no newline in it
--   header_said               it is the header that its numbers are
--   same_alone, same_then     the two lines are answered alike, alone and before a newline
-- Assumes nothing.
use mathlib.Core.Path.{◌≡◌, refl, sym, ap, ap₂, ◌∙◌}
use mathlib.Core.Bool.{Bool, false, cond, ◌&&◌}
use mathlib.Core.List.{List, [], ◌∷◌, ◌++◌, map}
use Prim.Native.Nat.{ℕ, zero, suc, ◌*◌, ◌<◌, ◌≤◌}
use native.Mathlib.Omega.{arith}
use borrow.Author.Tests.{ne_eqb, le-leb}
use lib.Dec.{T, leb, leb→le, eqb}
use lib.ListN.{length, length-append}
use Rattle.field.proofs.TestLaws.{and_left, and_right, and_both, is_true}
use Rattle.std.specs.Prelude.{Option}
use Rattle.items.specs.Line.{on_first, items, is_digit, all_digits, is_number, number_of, every}
use Rattle.items.proofs.DigitLaws.{digit_low}
use Rattle.input_lines.specs.Header.{header_in, header_of}
use Rattle.input_lines.specs.declared.header.Header.{Header}
use Rattle.input_lines.proofs.NumberLaws.{number_full}
use Rattle.output_lines.specs.Text.{newline}
use Rattle.lines.specs.Answer.{header_says, header_answer, header_goes_on}
use Rattle.lines.specs.Program.{with_byte, lines_of, words_if, answers_to, program_output}
use Rattle.lines.specs.Claims.{NoNewline, spaced}
use Rattle.lines.proofs.BlockLaws.{tail_too, no_newline}

none_in_nothing : NoNewline []
none_in_nothing k l e = absurd (omega arith)

one_more : (b : ℕ) (text : List ℕ) → ¬ (b ≡ newline) → NoNewline text → NoNewline (b ∷ text)
one_more b text n h zero l e = n e
one_more b text n h (suc k) l e = h k (omega arith) e

none_in_both : (a b : List ℕ) → NoNewline a → NoNewline b → NoNewline (a ++ b)
none_in_both [] b h k = k
none_in_both (x ∷ a) b h k = one_more x (a ++ b) (h 0 (omega arith)) (none_in_both a b (tail_too x a h) k)

lines_then : (line rest : List ℕ) → NoNewline line → lines_of (line ++ newline ∷ rest) ≡ line ∷ lines_of rest
unfolding lines_of
lines_then [] rest h = refl
lines_then (b ∷ line) rest h =
    ap₂ (λ (t : Bool) (l : List (List ℕ)). with_byte t b l) (no_newline b line h) (lines_then line rest (tail_too b line h))

lines_alone : (line : List ℕ) → 0 < length line → NoNewline line → lines_of line ≡ line ∷ []
unfolding lines_of
lines_alone [] full h = absurd (omega arith)
lines_alone (b ∷ []) full h = ap (λ (t : Bool). with_byte t b []) (no_newline b [] h)
lines_alone (b ∷ c ∷ line) full h =
    ap₂ (λ (t : Bool) (l : List (List ℕ)). with_byte t b l) (no_newline b (c ∷ line) h)
    (lines_alone (c ∷ line) (omega arith) (tail_too b (c ∷ line) h))

-- a digit is neither a newline nor a space
module _ (b : ℕ) (a : List ℕ) (t : T (all_digits (b ∷ a))) where
  no_other : (x : ℕ) → x < 48 → ¬ (b ≡ x)
  no_other x l e = omega (arith, digit_low b (is_true (is_digit b) (and_left (is_digit b) (all_digits a) t)))

  no_space : eqb b 32 ≡ false
  no_space = ne_eqb b 32 (no_other 32 (omega arith))

  digits : T (all_digits a)
  digits = and_right (is_digit b) (all_digits a) t

none_in_digits : (a : List ℕ) → T (all_digits a) → NoNewline a
none_in_digits [] t = none_in_nothing
none_in_digits (b ∷ a) t = one_more b a (no_other b a t newline (omega arith)) (none_in_digits a (digits b a t))

-- digits are one item, alone and before a space
items_alone : (a : List ℕ) → T (all_digits a) → items a ≡ a ∷ []
unfolding items
items_alone [] t = refl
items_alone (b ∷ a) t =
    ap₂ (λ (u : Bool) (l : List (List ℕ)). cond u ([] ∷ items a) (on_first b l)) (no_space b a t)
    (items_alone a (digits b a t))

items_then : (a rest : List ℕ) → T (all_digits a) → items (a ++ 32 ∷ rest) ≡ a ∷ items rest
unfolding items
items_then [] rest t = refl
items_then (b ∷ a) rest t =
    ap₂ (λ (u : Bool) (l : List (List ℕ)). cond u ([] ∷ items (a ++ 32 ∷ rest)) (on_first b l)) (no_space b a t)
    (items_then a rest (digits b a t))

module _ (a : List ℕ) (t : T (is_number a)) where
  number_digits : T (all_digits a)
  unfolding is_number
  number_digits = and_right (leb 1 (length a) && leb (length a) 3) (all_digits a) t

  number_short : length a ≤ 3
  unfolding is_number
  number_short =
      leb→le (length a) 3
      (and_right (leb 1 (length a)) (leb (length a) 3) (and_left (leb 1 (length a) && leb (length a) 3) (all_digits a) t))

-- a line of numbers, one or more
module _ (a : List ℕ) (l : List (List ℕ)) (t : T (every is_number (a ∷ l))) where
  first : T (is_number a)
  first = and_left (is_number a) (every is_number l) t

  others : T (every is_number l)
  others = and_right (is_number a) (every is_number l) t

spaced_items : (a : List ℕ) (l : List (List ℕ)) → T (every is_number (a ∷ l)) → items (spaced (a ∷ l)) ≡ a ∷ l
spaced_items a [] t = items_alone a (number_digits a (first a [] t))
spaced_items a (b ∷ l) t =
    items_then a (spaced (b ∷ l)) (number_digits a (first a (b ∷ l) t))
    ∙ ap (λ (k : List (List ℕ)). a ∷ k) (spaced_items b l (others a (b ∷ l) t))

spaced_no_newline : (a : List ℕ) (l : List (List ℕ)) → T (every is_number (a ∷ l)) → NoNewline (spaced (a ∷ l))
spaced_no_newline a [] t = none_in_digits a (number_digits a (first a [] t))
spaced_no_newline a (b ∷ l) t =
    none_in_both a (32 ∷ spaced (b ∷ l)) (none_in_digits a (number_digits a (first a (b ∷ l) t)))
    (one_more 32 (spaced (b ∷ l)) (λ e. omega arith) (spaced_no_newline b l (others a (b ∷ l) t)))

spaced_fits : (a : List ℕ) (l : List (List ℕ)) → T (every is_number (a ∷ l)) → length (spaced (a ∷ l)) ≤ 4 * length (a ∷ l)
spaced_fits a [] t = omega (arith, number_short a (first a [] t))
spaced_fits a (b ∷ l) t =
    omega (
      arith,
      length-append a (32 ∷ spaced (b ∷ l)),
      number_short a (first a (b ∷ l) t),
      spaced_fits b l (others a (b ∷ l) t),
    )

spaced_full : (a : List ℕ) (l : List (List ℕ)) → T (every is_number (a ∷ l)) → 0 < length (spaced (a ∷ l))
spaced_full a [] t = number_full a (first a [] t)
spaced_full a (b ∷ l) t = omega (arith, length-append a (32 ∷ spaced (b ∷ l)))

header_said : (a : List ℕ) (l : List (List ℕ)) → T (every is_number (a ∷ l)) → length (a ∷ l) ≤ 128
    → header_of (spaced (a ∷ l)) ≡ header_in (map number_of (a ∷ l))
unfolding header_of
header_said a l t few =
    rw (
      le-leb (length (spaced (a ∷ l))) 512 (omega (arith, spaced_fits a l t)),
      spaced_items a l t,
      is_true (every is_number (a ∷ l)) t,
    )

-- what is printed for a first line and after it goes by its text only through its header
by_header : (a b : List ℕ) (words : List (List ℕ)) → header_of a ≡ header_of b → answers_to (a ∷ words) ≡ answers_to (b ∷ words)
unfolding answers_to header_answer
by_header a b words e = ap (λ (h : Option Header). header_says h ++ words_if (header_goes_on h) h words) e

module _ (a b c : List ℕ) (ha : T (is_number a)) (hb : T (is_number b)) (hc : T (is_number c)) where
  abbrev three : List ℕ
  three = spaced (a ∷ b ∷ c ∷ [])

  abbrev four : List ℕ
  four = spaced (a ∷ b ∷ c ∷ b ∷ [])

  -- a, b, c and further numbers are all numbers
  numbers : (l : List (List ℕ)) → T (every is_number l) → T (every is_number (a ∷ b ∷ c ∷ l))
  numbers l t =
      and_both (is_number a) _ ha (and_both (is_number b) _ hb (and_both (is_number c) _ hc t))

  in_three : T (every is_number (a ∷ b ∷ c ∷ []))
  in_three = numbers [] tt

  in_four : T (every is_number (a ∷ b ∷ c ∷ b ∷ []))
  in_four = numbers (b ∷ []) (and_both (is_number b) _ hb tt)

  same_header : header_of three ≡ header_of four
  same_header =
      header_said a (b ∷ c ∷ []) in_three (omega arith) ∙ sym (header_said a (b ∷ c ∷ b ∷ []) in_four (omega arith))

  pub same_alone : program_output three ≡ program_output four
  unfolding program_output
  same_alone =
      ap answers_to (lines_alone three (spaced_full a (b ∷ c ∷ []) in_three) (spaced_no_newline a (b ∷ c ∷ []) in_three))
      ∙ by_header three four [] same_header
      ∙ sym (ap answers_to (lines_alone four (spaced_full a (b ∷ c ∷ b ∷ []) in_four) (spaced_no_newline a (b ∷ c ∷ b ∷ []) in_four)))

  pub same_then : (rest : List ℕ) → program_output (three ++ newline ∷ rest) ≡ program_output (four ++ newline ∷ rest)
  unfolding program_output
  same_then rest =
      ap answers_to (lines_then three rest (spaced_no_newline a (b ∷ c ∷ []) in_three))
      ∙ by_header three four (lines_of rest) same_header
      ∙ sym (ap answers_to (lines_then four rest (spaced_no_newline a (b ∷ c ∷ b ∷ []) in_four)))
