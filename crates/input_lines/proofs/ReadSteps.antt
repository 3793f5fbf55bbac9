-- Reading a line item by item, for any test of an item and any reading of it.
--   Reading   `so` was read, and these items are left
--   reading_begin, reading_more, reading_wrong, reading_end   before the first item, an item more, a wrong item, after the last item
--   taken, refused   what an item is by the answer to it
--   bytes_of, bytes_all   how many bytes items have, each with the space or the line's end after it
-- Assumes nothing.
use mathlib.Core.Path.{◌≡◌, refl, sym, ap, ◌∙◌}
use mathlib.Core.Bool.{Bool, true, false, cond, ◌&&◌}
use mathlib.Core.List.{List, [], ◌∷◌, ◌++◌, map, append_assoc, append-nil}
use Prim.Native.Nat.{ℕ, suc, ◌+◌}
use native.Mathlib.Omega.{arith}
use lib.Dec.{eqb}
use lib.ListN.{length}
use Rattle.std.specs.Prelude.{Option, Some, None}
use Rattle.items.specs.Line.{on_first, items, every}

module _ {A : Type 0} (test : List ℕ → Bool) (f : List ℕ → A) (text : List ℕ) where
  pub record Reading (so : List A) (left : List (List ℕ)) : Type 0 where
    pub sure : every test left ≡ every test (items text)
    pub read : so ++ map f left ≡ map f (items text)

  pub reading_begin : Reading [] (items text)
  reading_begin = record { sure = refl; read = refl }

  module _ (so : List A) (item : List ℕ) (left : List (List ℕ)) (r : Reading so (item ∷ left)) where
    pub reading_more : test item ≡ true → Reading (so ++ (f item ∷ [])) left
    reading_more e = record {
      sure = ap (λ (b : Bool). b && every test left) (sym e) ∙ r.sure;
      read = append_assoc so (f item ∷ []) (map f left) ∙ r.read;
    }

    pub reading_wrong : test item ≡ false → every test (items text) ≡ false
    reading_wrong e = sym r.sure ∙ ap (λ (b : Bool). b && every test left) e

  module _ (so : List A) (r : Reading so []) where
    pub reading_end : every test (items text) ≡ true
    reading_end = sym r.sure

    pub reading_all : so ≡ map f (items text)
    reading_all = sym (append-nil so) ∙ r.read

-- an item is read, or refused
pub refused : {A : Type 0} (a : A) (t : Bool) → ◌≡◌ {A = Option A} None (cond t (Some a) None) → t ≡ false
refused a true e = cc
refused a false e = refl

pub record Taken {A : Type 0} (t : Bool) (a v : A) : Type 0 where
  pub test : t ≡ true
  pub value : v ≡ a

pub taken : {A : Type 0} (a v : A) (t : Bool) → Some v ≡ cond t (Some a) None → Taken t a v
taken a v true e = record { test = refl; value = cc }
taken a v false e = cc

unfoldable pub bytes_of : List (List ℕ) → ℕ
bytes_of [] = 0
bytes_of (item ∷ left) = length item + 1 + bytes_of left

pub bytes_all : (text : List ℕ) → bytes_of (items text) ≡ length text + 1
unfolding items bytes_of
bytes_all [] = refl
bytes_all (b ∷ text) = go (eqb b 32) (items text) (bytes_all text)
  where
    go : (t : Bool) (l : List (List ℕ)) → bytes_of l ≡ length text + 1
        → bytes_of (cond t ([] ∷ l) (on_first b l)) ≡ suc (length text) + 1
    go true l e = omega arith
    go false [] e = absurd (omega arith)
    go false (item ∷ l) e = omega arith
