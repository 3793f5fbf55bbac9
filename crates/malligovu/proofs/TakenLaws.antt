-- What follows from a read, as the code goes by its outcome, and that some bytes are taken whatever it is. Assumes nothing.
use mathlib.Core.Path.{◌≡◌, refl}
use mathlib.Core.Bool.{Bool, true, false}
use mathlib.Core.List.{List, []}
use Prim.Native.Nat.{ℕ, zero, suc}
use native.Mathlib.Omega.{arith}
use Rattle.lines.specs.Memory.{Memory, after_block}
use Rattle.stream.specs.Stepped.{Ready, memory_of}
use Rattle.stream.specs.declared.State.{State}
use Rattle.stdio.specs.Outcome.{Within}
use Rattle.stdio.specs.declared.Outcome.{Outcome}
use Rattle.stdio.specs.declared.Outcome.TheVariants.{Moved, Later, Failed}
use Rattle.malligovu.specs.Taken.{Takes, Took, Follows, TakesSome, Turns}

module _ (s : State) (line : List ℕ) (ready : Ready s line) (block before : List ℕ) where
  -- no byte is taken
  pub takes_none : Takes (memory_of s line) [] s line
  unfolding after_block
  takes_none = record { remembers = refl; ready = ready }

  took_nothing : Took (memory_of s line) [] [] before s line before
  took_nothing = record { takes = takes_none; printed = record { count = 0; writes = record { size = refl; holds = refl } } }

  pub follows_later : {got : Outcome} → got ≡ Later → Follows got (memory_of s line) block before s true line before
  follows_later e = rw e (took_nothing, refl)

  pub follows_failed : {got : Outcome} → got ≡ Failed → Follows got (memory_of s line) block before s false line before
  follows_failed e = rw e (took_nothing, refl)

module _ (m : Memory) (block before : List ℕ) (s : State) (on : Bool) (line after : List ℕ) where
  takes_some : (got : Outcome) → Within got block → Follows got m block before s on line after → TakesSome m block s line
  takes_some (Moved zero) within follows = record { count = 0; within = omega arith; takes = follows.0.takes }
  takes_some (Moved (suc n)) within follows = record { count = suc n; within = within.0; takes = follows.took.takes }
  takes_some Later within follows = record { count = 0; within = omega arith; takes = follows.0.takes }
  takes_some Failed within follows = record { count = 0; within = omega arith; takes = follows.0.takes }

  pub turns : (got : Outcome) → Within got block → Follows got m block before s on line after → Turns m block before s on line after
  turns got within follows = record { got = got; within = within; follows = follows; takes = takes_some got within follows }
