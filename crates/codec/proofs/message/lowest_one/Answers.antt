-- `codec::message::lowest_one` meets its contract. Assumes nothing.
use Prim.Native.Nat.{◌^◌}
use native.Mathlib.Nat.{div-le_self, lt_of_le_of_lt}
use native.Mathlib.Omega.{arith}
use Rattle.codes.proofs.LowestOne.{lowest_from}
use Rattle.codec.proofs.message.lowest_one.Goals as goal

pub returns : goal.returns
returns c =
    lowest_from 64 c.args.word c.args.from c.requires.1
    (lt_of_le_of_lt (div-le_self c.args.word (2 ^ c.args.from)) (omega arith))
