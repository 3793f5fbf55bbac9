-- The code's structs as the records of the definitions, and what a count has room for.
--   as_best, as_weighed          the code's Best and Candidate
--   is_found, weighed_or_zero    of the nearest, whether there is one, and what it weighs
--   most_counted                 the largest number that a count can be
-- Assumes nothing.
use Rattle.std.specs.Prelude.{Bool, true, false, ℕ, Option, Some, None}
use Rattle.search.specs.Best.{Best, Weighed}
use Rattle.candidates.specs.declared.best.Best as B
use Rattle.candidates.specs.declared.best.Candidate as C

abbrev pub as_weighed : C.Candidate → Weighed
as_weighed c = record { word = c.word; distance = c.distance; flips = c.flips }

abbrev pub is_found : Option C.Candidate → Bool
is_found None = false
is_found (Some c) = true

-- zeros where there is none, as the definition has them
abbrev pub weighed_or_zero : Option C.Candidate → Weighed
weighed_or_zero None = record { word = 0; distance = 0; flips = 0 }
weighed_or_zero (Some c) = as_weighed c

abbrev pub as_best : B.Best → Best
as_best x =
    let near = weighed_or_zero x.nearest in
    record { found = is_found x.nearest; word = near.word; distance = near.distance; flips = near.flips; count = x.count }

-- what thirty-two bits hold. No code has more than 37,882 patterns at order 3, and orders by segment (Req 10) will have up to 22,593,792
abbrev pub most_counted : ℕ
most_counted = 0xffffffff
