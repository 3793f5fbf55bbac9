-- A line cut item by item, where its first item ends and where that item has more than four bytes.
--   Spaceless             no byte below a place is a space
--   drop_all               all that follows a place
--   first_cut, only_item, Begins, begins   the first item ends at the first space, or is the whole text; or it has so many bytes at least
--   cut_found, cut_none    what comes first of a line, with a space within its first five bytes and with none
-- Assumes nothing.
use mathlib.Core.Path.{◌≡◌, refl, sym, ap, ◌∙◌}
use mathlib.Core.Bool.{Bool, true, false}
use mathlib.Core.Logic.{by_cases}
use mathlib.Core.List.{List, [], ◌∷◌}
use Prim.Native.Nat.{ℕ, zero, suc, ◌+◌, ◌-◌, ◌≤◌, ◌<◌, min}
use native.Mathlib.Decide.{dec_le}
use native.Mathlib.Numerals.{add-one}
use native.Mathlib.Omega.{arith}
use borrow.Author.Tests.{le-leb, lt-leb, eq-eqb, ne_eqb}
use lib.Dec.{eqb}
use lib.ListN.{length, get_or, take, drop, length-take, length-drop}
use lib.Seq.{take-length}
use Rattle.std.proofs.lemmas.List.{get_or-take, take_all}
use Rattle.items.specs.Line.{items}
use Rattle.items.specs.Cut.{cut_off}

-- no byte below a place is a space
abbrev pub Spaceless : ℕ → List ℕ → Type 0
Spaceless n text = (k : ℕ) → k < n → get_or text k 0 ≡ 32 → ⊥

pub drop_all : (k : ℕ) (text : List ℕ) → take (length text - k) (drop k text) ≡ drop k text
drop_all k text = ap (λ n. take n (drop k text)) (sym (length-drop k text)) ∙ take-length (drop k text)

-- the first item ends at the first space
pub first_cut : (text : List ℕ) (end : ℕ) → end < length text → get_or text end 0 ≡ 32 → Spaceless end text
    → items text ≡ take end text ∷ items (drop (suc end) text)
unfolding items
first_cut [] end l e n = absurd (omega arith)
first_cut (b ∷ text) zero l e n = rw (eq-eqb b 32 e)
first_cut (b ∷ text) (suc end) l e n =
    rw (ne_eqb b 32 (n 0 (omega arith)), first_cut text end (omega arith) e (λ k h. n (suc k) (omega arith)))

-- or is the whole text
pub only_item : (text : List ℕ) → Spaceless (length text) text → items text ≡ text ∷ []
unfolding items
only_item [] n = refl
only_item (b ∷ text) n = rw (ne_eqb b 32 (n 0 (omega arith)), only_item text (λ k h. n (suc k) (omega arith)))

-- and has so many bytes at least where no space is among them
pub record Begins (n : ℕ) (text : List ℕ) : Type 0 where
  pub first : List ℕ
  pub others : List (List ℕ)
  pub parts : items text ≡ first ∷ others
  pub long : n ≤ length first
  pub same : take n first ≡ take n text

begins_none : (text : List ℕ) → Begins 0 text
unfolding items
begins_none [] = record { first = []; others = []; parts = refl; long = omega arith; same = refl }
begins_none (b ∷ text) = go (eqb b 32) (begins_none text) refl
  where
    go : (t : Bool) → Begins 0 text → eqb b 32 ≡ t → Begins 0 (b ∷ text)
    go true r e = record { first = []; others = items text; parts = rw e; long = omega arith; same = refl }
    go false r e = record { first = b ∷ r.first; others = r.others; parts = rw (e, r.parts); long = omega arith; same = refl }

pub begins : (n : ℕ) (text : List ℕ) → n ≤ length text → Spaceless n text → Begins n text
unfolding items
begins zero text l h = begins_none text
begins (suc n) [] l h = absurd (omega arith)
begins (suc n) (b ∷ text) l h =
    let r = begins n text (omega arith) (λ k i. h (suc k) (omega arith)) in
    record {
      first = b ∷ r.first;
      others = r.others;
      parts = rw (ne_eqb b 32 (h 0 (omega arith)), r.parts);
      long = omega (arith, r.long);
      same = ap (λ (l : List ℕ). b ∷ l) r.same;
    }

-- what comes first of a line
module _ (text : List ℕ) where
  cut_some : (end : ℕ) → end < length text → end ≤ 4 → get_or text end 0 ≡ 32 → Spaceless end text
      → cut_off (items text) ≡ take end text ∷ cut_off (items (take (length text - (end + 1)) (drop (end + 1) text)))
  unfolding cut_off
  cut_some end l s e n =
      rw (
        drop_all (end + 1) text,
        add-one end,
        first_cut text end l e n,
        le-leb (length (take end text)) 4 (omega (arith, length-take end text)),
      )

  pub cut_found : (end : ℕ) → end < length (take 5 text) → get_or (take 5 text) end 0 ≡ 32 → Spaceless end (take 5 text)
      → cut_off (items text) ≡ take end text ∷ cut_off (items (take (length text - (end + 1)) (drop (end + 1) text)))
  cut_found end l e s =
      let h : end < 5 = omega (arith, length-take 5 text) in
      cut_some end (omega (arith, length-take 5 text)) (omega arith) (sym (get_or-take 5 text end 0 h) ∙ e)
      (λ k i. λ f. s k i (get_or-take 5 text k 0 (omega arith) ∙ f))

  cut_short : length text ≤ 4 → Spaceless (length text) text → cut_off (items text) ≡ text ∷ []
  unfolding cut_off
  cut_short l h = rw (only_item text h, le-leb (length text) 4 l)

  cut_long : Begins 5 text → cut_off (items text) ≡ take 5 text ∷ []
  unfolding cut_off
  cut_long r = rw (r.parts, lt-leb (length r.first) 4 (omega (arith, r.long)), r.same)

  pub cut_none : (n : ℕ) → n ≡ min (length text) 5 → Spaceless (length (take 5 text)) (take 5 text)
      → cut_off (items text) ≡ take n text ∷ []
  cut_none n e s =
      let h : Spaceless n text = λ k i. λ f. s k (omega (arith, length-take 5 text)) (get_or-take 5 text k 0 (omega arith) ∙ f) in
      by_cases (dec_le (length text) 4) (short h) (long h)
    where
      short : Spaceless n text → length text ≤ 4 → cut_off (items text) ≡ take n text ∷ []
      short h l =
          rw (take_all n text (omega arith)) (cut_short l (λ k i. h k (omega arith)))

      long : Spaceless n text → (length text ≤ 4 → ⊥) → cut_off (items text) ≡ take n text ∷ []
      long h l =
          let five : n ≡ 5 = omega arith in
          rw five (cut_long (begins 5 text (omega arith) (λ k i. h k (omega arith))))
