-- `codec::parity::remainder` meets its contract: what is left to divide gives the same remainder at every turn. Assumes nothing.
use Prim.Native.Nat.{◌-◌}
use Rattle.codes.specs.Code.{dimension_of, parity_of, generator_of}
use Rattle.codec.proofs.RemainderSteps.{Dividing}
use Rattle.codec.proofs.parity.remainder.Given as goal

abbrev pub invariant-loop : goal.invariant-loop
invariant-loop l =
    let m = l.fn.code.m in
    let t = l.fn.code.t in
    let k = dimension_of m t in
    Dividing (parity_of m t) (generator_of m t) k l.word (k - l.counter) l.left l.moved
