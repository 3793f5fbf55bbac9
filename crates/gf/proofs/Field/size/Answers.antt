-- `gf::Field::size` meets its contract: the power of 2 fits its type. Assumes nothing.
use Prim.Native.Nat.{◌^◌, ◌≤◌}
use native.Mathlib.Omega.{arith}
use lib.Pow.{pow_mono}
use Rattle.gf.proofs.Field.size.Goals as goal

pub returns : goal.returns
returns c =
    let small : 2 ^ c.args.self.m ≤ 2 ^ 6 = pow_mono {i = c.args.self.m} {j = 6} (omega arith) in
    (omega arith, omega arith)
