-- The ranks in chains, each with the ranks whose columns' parts have one slot, and what is lent beside the prepared word. Everything but
-- the records computes.
--   slot_of z                       where the chains have the slot of a part
--   last_in parts n h               one more than the last rank below n whose part has the slot h, 0 where none has
--   Chained parts size chains      the chains of all ranks
--   Shut chains i z                a flip leads nowhere, as far as the chains tell
--   At, Next                       where the chains have the rank that is flipped next, and which it is
--   Tabled p parts chains          what is lent is that of the prepared word
-- Assumes nothing.
use Rattle.std.specs.Prelude.{◌≡◌, cond, List, ℕ, zero, suc, ◌+◌, ◌-◌, ◌%◌, ◌<◌, ◌≤◌, eqb, get_or}
use Rattle.field.specs.Field.{◌⊕◌}
use Rattle.search.specs.Part.{column_part}
use Rattle.prepare.specs.PlanOf.{plan_of}
use Rattle.prepare.specs.declared.Prepared.{Prepared}
use Rattle.parts.specs.Parts.{told}

-- past the links of the ranks: by the lowest ten bits
abbrev pub slot_of : ℕ → ℕ
slot_of z = z % 1024 + 64

unfoldable pub last_in : List ℕ → ℕ → ℕ → ℕ
last_in parts zero h = 0
last_in parts (suc n) h = cond (eqb (slot_of (get_or parts n 0)) h) (suc n) (last_in parts n h)

-- from the last rank that has a slot to the one before it that has the same
pub record Chained (parts : List ℕ) (size : ℕ) (chains : List ℕ) : Type 0 where
  pub heads : (z : ℕ) → get_or chains (slot_of z) 0 ≡ last_in parts size (slot_of z)
  pub links : (j : ℕ) → j < size → get_or chains j 0 ≡ last_in parts j (slot_of (get_or parts j 0))

-- the pattern with the part z is dropped, and no rank from i on has z's slot
pub record Shut (chains : List ℕ) (i z : ℕ) : Type 0 where
  pub some : z ≡ 0 → ⊥
  pub none : get_or chains (slot_of z) 0 ≤ i

-- with one flip left, the chains have at `at` one more than the last rank before `to` that has the part's slot, 0 where none has
abbrev pub At : List ℕ → List ℕ → ℕ → ℕ → ℕ → ℕ → Type 0
At parts chains part to at may = may ≡ 1 → get_or chains at 0 ≡ last_in parts to (slot_of part)

-- which rank is flipped next, of those from `from` on and before `to`, the last one first: r is one more than it, and `from` where
-- there is none
pub record Next (parts chains : List ℕ) (part from to may r : ℕ) : Type 0 where
  pub low : from ≤ r
  pub high : r ≤ to
  -- with one flip left, the last that has the part's slot
  pub one : may ≡ 1 → r ≡ from + (last_in parts to (slot_of part) - from)
  -- with two, the last that is not shut
  pub two : may ≡ 2 → (i : ℕ) → r ≤ i → i < to → Shut chains (i + 1) (part ⊕ get_or parts i 0)
  pub some : may ≡ 2 → from < r → Shut chains r (part ⊕ get_or parts (r - 1) 0) → ⊥
  -- with more, the last
  pub more : 2 < may → r ≡ to

pub record Tabled (p : Prepared) (parts chains : List ℕ) : Type 0 where
  pub columns : (j : ℕ) → j < p.size → get_or parts j 0 ≡ column_part (plan_of p) (told p) j
  pub chained : Chained parts p.size chains
