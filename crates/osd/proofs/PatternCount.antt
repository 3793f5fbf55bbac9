-- How many candidates the patterns can come to, so that their count fits its type. Assumes nothing.
use mathlib.Core.Bool.{Bool, true, false}
use Prim.Native.Nat.{ℕ, zero, suc, ◌+◌, ◌≤◌}
use native.Mathlib.Nat.{le_of_eq}
use native.Mathlib.Omega.{arith}
use Rattle.search.specs.Best.{Best, Weighed}
use Rattle.search.specs.Search.{patterns}
use Rattle.search.specs.Plan.{Plan}
use Rattle.search.specs.ByRank.{rank_binary, rank_weighed, differing, seen_if, tried}
use Rattle.search.proofs.SearchSteps.{better_count, patterns_pos, patterns_61}

seen_count : (t : Bool) (x : Best) (c : Weighed) → (seen_if t x c).count ≤ x.count + 1
seen_count true x c = le_of_eq (better_count x c)
seen_count false x c = omega arith

-- a pattern is one candidate at most
pub tried_count : (p : Plan) (f : ℕ) (x : Best) → (tried p f x).count ≤ x.count + 1
unfolding tried
tried_count p f x = seen_count (rank_binary p f) x (rank_weighed p (differing p f))

-- more ranks and more flips have more patterns
pub patterns_mono : (k l a b : ℕ) → k ≤ l → a ≤ b → patterns k a ≤ patterns l b
unfolding patterns
patterns_mono zero l a b h i = patterns_pos l b
patterns_mono (suc k) zero a b h i = absurd (omega arith)
patterns_mono (suc k) (suc l) zero zero h i = patterns_mono k l 0 0 (omega arith) i
patterns_mono (suc k) (suc l) zero (suc b) h i = omega (arith, patterns_mono k l 0 (suc b) (omega arith) i)
patterns_mono (suc k) (suc l) (suc a) zero h i = absurd (omega arith)
patterns_mono (suc k) (suc l) (suc a) (suc b) h i =
    omega (arith, patterns_mono k l (suc a) (suc b) (omega arith) i, patterns_mono k l a b (omega arith) (omega arith))

pub patterns_most : (k may : ℕ) → k ≤ 61 → may ≤ 3 → patterns k may ≤ 37882
patterns_most k may h i = omega (arith, patterns_mono k 61 may 3 h i, patterns_61)
