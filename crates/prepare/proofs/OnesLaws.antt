-- What a turn over the set bits takes. Assumes nothing.
use mathlib.Core.Path.{◌≡◌}
use Prim.Native.Nat.{ℕ}
use Rattle.std.specs.Prelude.{Option, Some, None}
use Rattle.std.proofs.lemmas.Option.{MatchOption-at_some, MatchOption-at_none}
use Rattle.prepare.specs.Ones.{Took, TakesLowest}

pub took : (g j h : ℕ) (r : Option ℕ) → r ≡ Some j → TakesLowest g r h → Took g j h
took g j h r e t = MatchOption-at_some (g ≡ 0) (λ k. Took g k h) j e t

pub took_none : (g h : ℕ) (r : Option ℕ) → r ≡ None → TakesLowest g r h → g ≡ 0
took_none g h r e t = MatchOption-at_none (g ≡ 0) (λ k. Took g k h) e t
