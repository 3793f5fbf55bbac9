-- The best candidate so far (document 01, "The search"). Everything here computes.
--   Best          what is known of the candidates seen so far
--   Weighed       a candidate with what it weighs
--   stays x c     the best so far stays the best beside the candidate c
--   better x c    the best with one more candidate seen
-- Assumes nothing.
use Rattle.std.specs.Prelude.{Bool, true, false, ◌&&◌, ◌||◌, ℕ, ◌+◌, ltb, eqb}

-- "The best so far goes through each pattern and comes back whole"
pub record Best : Type 0 where
  pub found : Bool
  pub word : ℕ
  pub distance : ℕ
  pub flips : ℕ
  pub count : ℕ

abbrev pub none : Best
none = record { found = false; word = 0; distance = 0; flips = 0; count = 0 }

-- a candidate with what it weighs
pub record Weighed : Type 0 where
  pub word : ℕ
  pub distance : ℕ
  pub flips : ℕ

abbrev pub pick : Bool → Best → Best → Best
pick true x y = x
pick false x y = y

-- the best so far stays: it is nearer, or "among candidates of equal distance the one with the lowest number"
unfoldable pub stays : Best → Weighed → Bool
stays x c = x.found && (ltb x.distance c.distance || (eqb x.distance c.distance && ltb x.word c.word))

-- the best with one more candidate seen
unfoldable pub better : Best → Weighed → Best
better x c =
    pick (stays x c)
    (record { found = true; word = x.word; distance = x.distance; flips = x.flips; count = x.count + 1 })
    (record { found = true; word = c.word; distance = c.distance; flips = c.flips; count = x.count + 1 })
