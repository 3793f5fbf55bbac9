-- Reading the header number by number, from an iterator over the items of its line.
--   too_long     a line too long
--   Left         these numbers were read, and the iterator yields the items that are left
--   left_begin, left_more       before the first number, a number more
--   left_wrong, left_none       an item that is no number, no item more: which header the line is
--   one, two, three   after so many numbers
--   numbers_three, fifth, numbers_four   three numbers and no item more, four and an item more, four and none
--   header_of_three, header_of_four      the header of the first three of four numbers, and of all four
--   ended        an iterator that has ended yields nothing more
-- Assumes nothing.
use mathlib.Core.Path.{◌≡◌, refl, sym, ap}
use mathlib.Core.Bool.{Bool, true, false, cond, ◌&&◌, and-false, true≢false}
use mathlib.Core.List.{List, [], ◌∷◌, ◌++◌, map}
use Prim.Native.Nat.{ℕ, ◌≤◌, ◌<◌}
use native.Mathlib.Omega.{arith}
use borrow.Author.Tests.{le-leb, lt-leb}
use lib.Dec.{leb}
use lib.ListN.{length, get_or, take}
use denote.Param.Members.{Mut}
use denote.Ref.{Bor}
use Rattle.std.specs.Prelude.{Option, Some, None, is_some}
use Rattle.std.specs.Slice.Iter.{split_steps}
use Rattle.std.proofs.lemmas.Iterator.{YieldsList}
use Rattle.items.specs.Line.{line_fits, items, is_number, number_of, every}
use Rattle.input_lines.specs.Header.{header_with, header_in, header_of}
use Rattle.input_lines.proofs.ReadSteps.{Reading, reading_begin, reading_more, reading_wrong, reading_end, reading_all}
use Rattle.input_lines.proofs.ReadSteps.{refused, taken}

pub header_of_three : (l : List ℕ) → length l ≡ 4
    → header_in (take 3 l) ≡ Some (header_with (get_or l 0 0) (get_or l 1 0) (get_or l 2 0) (get_or l 1 0))
header_of_three [] h = absurd (omega arith)
header_of_three (a ∷ []) h = absurd (omega arith)
header_of_three (a ∷ b ∷ []) h = absurd (omega arith)
header_of_three (a ∷ b ∷ c ∷ l) h = refl

pub header_of_four : (l : List ℕ) → length l ≡ 4
    → header_in (take 4 l) ≡ Some (header_with (get_or l 0 0) (get_or l 1 0) (get_or l 2 0) (get_or l 3 0))
header_of_four [] h = absurd (omega arith)
header_of_four (a ∷ []) h = absurd (omega arith)
header_of_four (a ∷ b ∷ []) h = absurd (omega arith)
header_of_four (a ∷ b ∷ c ∷ []) h = absurd (omega arith)
header_of_four (a ∷ b ∷ c ∷ d ∷ l) h = refl

not_fit : (text : List ℕ) → (line_fits text && every is_number (items text)) ≡ false → header_of text ≡ None
unfolding header_of
not_fit text e = rw e

pub too_long : (text : List ℕ) → 512 < length text → header_of text ≡ None
too_long text h = not_fit text (rw (lt-leb (length text) 512 h))

module _ {S : Type 0} (steps : S → Option (Bor (List ℕ)) → S → Type 0) (text : List ℕ) where
  pub record Left (so : List ℕ) (s : S) : Type 0 where
    pub left : List (List ℕ)
    pub reading : Reading is_number number_of text so left
    pub road : YieldsList steps (λ x. x.now) s left

  pub left_begin : (s : S) → YieldsList steps (λ x. x.now) s (items text) → Left [] s
  left_begin s road = record { left = items text; reading = reading_begin is_number number_of text; road = road }

  -- the next item
  record Next (so : List ℕ) (x : Bor (List ℕ)) (u : S) : Type 0 where
    rest : List (List ℕ)
    reading : Reading is_number number_of text so (x.now ∷ rest)
    road : YieldsList steps (λ x. x.now) u rest

  next : (so : List ℕ) (s u : S) (x : Bor (List ℕ)) → Left so s → steps s (Some x) u → Next so x u
  next so s u x l k = go l.left l.reading l.road
    where
      go : (left : List (List ℕ)) → Reading is_number number_of text so left → YieldsList steps (λ x. x.now) s left → Next so x u
      go [] r road = absurd (road.runs x u k)
      go (item ∷ rest) r road =
          let a = road.runs.1 x u k in
          record { rest = rest; reading = rw a.0 r; road = record { runs = a.1 } }

  pub left_more : {so : List ℕ} (s : S) (x : Bor (List ℕ)) (u : S) (n : ℕ) → Left so s → steps s (Some x) u
      → Some n ≡ cond (is_number x.now) (Some (number_of x.now)) None → Left (so ++ (n ∷ [])) u
  left_more {so} s x u n l k e =
      let m = next so s u x l k in
      let t = taken (number_of x.now) n (is_number x.now) e in
      record {
        left = m.rest;
        reading = rw t.value (reading_more is_number number_of text so x.now m.rest m.reading t.test);
        road = m.road;
      }

  pub left_wrong : {so : List ℕ} (s : S) (x : Bor (List ℕ)) (u : S) → Left so s → steps s (Some x) u
      → ◌≡◌ {A = Option ℕ} None (cond (is_number x.now) (Some (number_of x.now)) None) → header_of text ≡ None
  left_wrong {so} s x u l k e =
      let m = next so s u x l k in
      let wrong = reading_wrong is_number number_of text so x.now m.rest m.reading (refused (number_of x.now) (is_number x.now) e) in
      not_fit text (rw (wrong, and-false (leb (length text) 512)))

  pub left_none : {so : List ℕ} (s u : S) → Left so s → steps s None u → length text ≤ 512 → header_of text ≡ header_in so
  unfolding header_of
  left_none {so} s u l k h = go l.left l.reading l.road
    where
      go : (left : List (List ℕ)) → Reading is_number number_of text so left → YieldsList steps (λ x. x.now) s left
          → cond (line_fits text && every is_number (items text)) (header_in (map number_of (items text))) None ≡ header_in so
      go [] r road =
          rw (le-leb (length text) 512 h, reading_end is_number number_of text so r)
          (ap header_in (sym (reading_all is_number number_of text so r)))
      go (item ∷ rest) r road = absurd (road.runs.0 u k)

  left_many : {a b c d : ℕ} (s : S) (x : Bor (List ℕ)) (u : S) → Left (a ∷ b ∷ c ∷ d ∷ []) s → steps s (Some x) u → header_of text ≡ None
  unfolding header_of
  left_many {a} {b} {c} {d} s x u l k =
      let m = next (a ∷ b ∷ c ∷ d ∷ []) s u x l k in
      go (line_fits text && every is_number (items text)) (ap header_in (sym m.reading.read))
    where
      go : (t : Bool) → header_in (map number_of (items text)) ≡ None → cond t (header_in (map number_of (items text))) None ≡ None
      go true e = e
      go false e = refl

  -- after one, two and three numbers
  module _ (s : S) (x1 : Bor (List ℕ)) (s1 : S) (m : ℕ) (road : YieldsList steps (λ x. x.now) s (items text))
      (k1 : steps s (Some x1) s1) (e1 : Some m ≡ cond (is_number x1.now) (Some (number_of x1.now)) None) where
    pub one : Left (m ∷ []) s1
    one = left_more s x1 s1 m (left_begin s road) k1 e1

    module _ (x2 : Bor (List ℕ)) (s2 : S) (t : ℕ) (k2 : steps s1 (Some x2) s2)
        (e2 : Some t ≡ cond (is_number x2.now) (Some (number_of x2.now)) None) where
      pub two : Left (m ∷ t ∷ []) s2
      two = left_more s1 x2 s2 t one k2 e2

      pub three : (x3 : Bor (List ℕ)) (s3 : S) (n : ℕ) → steps s2 (Some x3) s3
          → Some n ≡ cond (is_number x3.now) (Some (number_of x3.now)) None → Left (m ∷ t ∷ n ∷ []) s3
      three x3 s3 n k3 e3 = left_more s2 x3 s3 n two k3 e3

  -- three numbers are the header whose order is the second of them
  pub numbers_three : {a b c : ℕ} (s u : S) → Left (a ∷ b ∷ c ∷ []) s → steps s None u → length text ≤ 512
      → header_of text ≡ Some (header_with a b c b)
  numbers_three s u l k h = left_none s u l k h

  -- whether a fifth item follows four numbers; where none does, they are the header whose order is the fourth
  module _ {a b c d : ℕ} (s u : S) (l : Left (a ∷ b ∷ c ∷ d ∷ []) s) where
    pub fifth : (r : Option (Bor (List ℕ))) → is_some r ≡ true → steps s r u → header_of text ≡ None
    fifth None e k = absurd (true≢false (sym e))
    fifth (Some x) e k = left_many s x u l k

    pub numbers_four : (r : Option (Bor (List ℕ))) → is_some r ≡ false → steps s r u → length text ≤ 512
        → header_of text ≡ Some (header_with a b c d)
    numbers_four None e k h = left_none s u l k h
    numbers_four (Some x) e k h = absurd (true≢false e)

-- an iterator that has ended yields nothing more
pub ended : {F : Type 0} (g : Mut F (Bor ℕ × Unit {0}) Bool) (s t u : _) (r : Option (Bor (List ℕ))) → split_steps g s None t
    → is_some r ≡ true → split_steps g t r u → ⊥
ended g s t u None k e l = true≢false (sym e)
ended g s t u (Some x) k e l = let p = k.0 in let q = k.1 in let h = l.0 in cc
