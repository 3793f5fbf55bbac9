-- Reading a word line, as the loop takes it.
--   values_long                             a line too long
--   values_wrong, values_room, values_more  a wrong item; one that is a value has room, and stands in its place
--   values_end                              after the last item
--   Uncut, Turn, turn_of                    no item was cut so far; the line's next item by the one that comes
--   first_wrong, first_taken, uncut_more, all_come   what it is then, and that none was cut after it; all have come
-- Assumes nothing.
use mathlib.Core.Path.{◌≡◌, refl, sym, ap, subst, ◌∙◌}
use mathlib.Core.Bool.{Bool, true, false, cond, and-false}
use mathlib.Core.Logic.{by_cases}
use mathlib.Core.List.{List, [], ◌∷◌}
use Prim.Native.Nat.{ℕ, suc, ◌+◌, ◌*◌, ◌≤◌, ◌<◌}
use native.Mathlib.Decide.{dec_le}
use native.Mathlib.Numerals.{add-one}
use native.Mathlib.Omega.{arith}
use borrow.Author.Tests.{le-leb, lt-leb}
use lib.Dec.{leb}
use lib.IntN.{ℤ}
use lib.ListN.{length, get_or, take, drop, set, drop_of_length-le, length-drop, length-take}
use lib.Seq.{take-suc-set, drop-cons}
use mir.Syntax.{w8}
use mir.Val.{to_z, of_z}
use mir.ValLaws.{to_z-of_z}
use Rattle.field.proofs.TestLaws.{is_false}
use Rattle.std.specs.Prelude.{Some, None}
use Rattle.items.specs.Line.{items}
use Rattle.items.specs.Cut.{cut_off}
use Rattle.items.proofs.DigitLaws.{is_so}
use Rattle.input_lines.specs.WordLine.{is_value, value_of, values_of}
use Rattle.input_lines.proofs.NumberLaws.{value_full, value_short}
use Rattle.input_lines.proofs.SignedLaws.{value_fits}
use Rattle.input_lines.proofs.ReadSteps.{Reading, reading_more, reading_wrong, reading_end, reading_all, Taken, bytes_of}

pub values_long : (text : List ℕ) → 512 < length text → values_of text ≡ None
unfolding values_of
values_long text h = rw (lt-leb (length text) 512 h)

-- what comes of a line's items, where none that came so far was cut
abbrev pub Uncut : List (List ℕ) → ℕ → Type 0
Uncut parts count = drop count (cut_off parts) ≡ cut_off (drop count parts)

-- the line's next item is the one that comes, or both have more than four bytes
pub record Turn (parts : List (List ℕ)) (count : ℕ) (item : List ℕ) : Type 0 where
  pub first : List ℕ
  pub there : count < length parts
  pub at : first ≡ get_or parts count first
  pub same : length item ≤ 4 → (item ≡ first) × Uncut parts (count + 1)
  pub long : 4 < length item → 4 < length first

module _ (parts : List (List ℕ)) (count : ℕ) (item : List ℕ) (w : Uncut parts count) where
  pub turn_of : count < length (cut_off parts) → item ≡ get_or (cut_off parts) count item → Turn parts count item
  unfolding cut_off
  turn_of h e =
      go (drop count parts) refl (sym w ∙ drop-cons (cut_off parts) count item h
      ∙ ap (λ (x : List ℕ). x ∷ drop (suc count) (cut_off parts)) (sym e))
    where
      go : (left : List (List ℕ)) → drop count parts ≡ left → cut_off left ≡ item ∷ drop (suc count) (cut_off parts) → Turn parts count item
      go [] q k = cc
      go (first ∷ others) q k = by_cases (dec_le (length first) 4) short long
        where
          there : count < length parts
          there = omega (arith, length-drop count parts, ap length q)

          next : first ∷ others ≡ get_or parts count first ∷ drop (suc count) parts
          next = sym q ∙ drop-cons parts count first there

          short : length first ≤ 4 → Turn parts count item
          short l =
              let s : first ∷ cut_off others ≡ item ∷ drop (suc count) (cut_off parts) = rw (le-leb (length first) 4 l) at k in
              let same : item ≡ first = cc in
              let others_are : others ≡ drop (suc count) parts = cc (next) in
              let more : drop (suc count) (cut_off parts) ≡ cut_off others = cc in
              record {
                first = first;
                there = there;
                at = cc (next);
                same = λ h. (same, rw (add-one count) (more ∙ ap cut_off others_are));
                long = λ h. absurd (omega (arith, ap length same));
              }

          long : (length first ≤ 4 → ⊥) → Turn parts count item
          long l =
              let s : take 5 first ∷ [] ≡ item ∷ drop (suc count) (cut_off parts) = rw (lt-leb (length first) 4 (omega arith)) at k in
              let five : take 5 first ≡ item = cc in
              record {
                first = first;
                there = there;
                at = cc (next);
                same = λ h. absurd (omega (arith, ap length five, length-take 5 first));
                long = λ h. omega arith;
              }

-- so it is a value as the one that comes is
module _ (parts : List (List ℕ)) (count : ℕ) (item : List ℕ) (t : Turn parts count item) where
  pub first_wrong : is_value item ≡ false → is_value t.first ≡ false
  first_wrong e =
      by_cases (dec_le (length item) 4) (λ h. ap is_value (sym (t.same h).0) ∙ e)
      (λ h. is_false (is_value t.first) (λ y. omega (arith, value_short t.first y, t.long (omega arith))))

  pub first_taken : (v : ℤ) → Taken (is_value item) (value_of item) v → Taken (is_value t.first) (value_of t.first) v
  first_taken v k = subst (λ (x : List ℕ). Taken (is_value x) (value_of x) v) (t.same (value_short item (is_so k.test))).0 k

  pub uncut_more : (v : ℤ) → Taken (is_value item) (value_of item) v → Uncut parts (count + 1)
  uncut_more v k = (t.same (value_short item (is_so k.test))).1

pub all_come : (parts : List (List ℕ)) (count : ℕ) → Uncut parts count → length (cut_off parts) ≤ count → length parts ≤ count
unfolding cut_off
all_come parts count w h = go (drop count parts) refl (sym w ∙ drop_of_length-le (cut_off parts) h)
  where
    go : (left : List (List ℕ)) → drop count parts ≡ left → cut_off left ≡ [] → length parts ≤ count
    go [] q k = omega (arith, length-drop count parts, ap length q)
    go (first ∷ others) q k = absurd (some (leb (length first) 4) k)
      where
        some : (b : Bool) → cond b (first ∷ cut_off others) (take 5 first ∷ []) ≡ [] → ⊥
        some true e = cc
        some false e = cc

module _ (text : List ℕ) (values : List ℤ) (count : ℕ)
    (r : Reading is_value value_of text (take count values) (drop count (items text))) where
  module _ (item : List ℕ) (h : count < length (items text)) (e : item ≡ get_or (items text) count item) where
    next_left : drop count (items text) ≡ item ∷ drop (count + 1) (items text)
    next_left = rw (add-one count) (drop-cons (items text) count item h ∙ ap (λ (x : List ℕ). x ∷ drop (suc count) (items text)) (sym e))

    reading_next : Reading is_value value_of text (take count values) (item ∷ drop (count + 1) (items text))
    reading_next = subst (Reading is_value value_of text (take count values)) next_left r

    pub values_wrong : is_value item ≡ false → values_of text ≡ None
    unfolding values_of
    values_wrong w =
        rw (reading_wrong is_value value_of text (take count values) item _ reading_next w, and-false (leb (length text) 512))

    module _ (v : ℤ) (t : Taken (is_value item) (value_of item) v) where
      bytes_next : bytes_of (drop count (items text)) ≡ length item + 1 + bytes_of (drop (count + 1) (items text))
      unfolding bytes_of
      bytes_next = ap bytes_of next_left

      pub values_room : 2 * count + bytes_of (drop count (items text)) ≤ length text + 1
          → 2 * (count + 1) + bytes_of (drop (count + 1) (items text)) ≤ length text + 1
      values_room l = omega (arith, bytes_next, value_full item (is_so t.test))

      pub values_more : count < length values
          → Reading is_value value_of text (take (count + 1) (set values count (to_z w8 (of_z w8 v)))) (drop (count + 1) (items text))
      values_more l =
          rw (
            t.value,
            to_z-of_z w8 (value_of item) (value_fits item t.test),
            ap (λ (k : ℕ). take k (set values count (value_of item))) (add-one count),
            take-suc-set values count (value_of item) l,
          )
          (reading_more is_value value_of text (take count values) item _ reading_next t.test)

  pub values_end : length text ≤ 512 → length (items text) ≤ count → Some (take count values) ≡ values_of text
  unfolding values_of
  values_end h l =
      let q = subst (Reading is_value value_of text (take count values)) (drop_of_length-le (items text) l) r in
      rw (le-leb (length text) 512 h, reading_end is_value value_of text (take count values) q)
      (ap Some (reading_all is_value value_of text (take count values) q))
