-- `text::whole` meets its contract: what is kept is kept again. Assumes nothing.
use mathlib.Core.Path.{ap, ◌∙◌}
use mathlib.Core.List.{List, ◌++◌}
use Prim.Native.Nat.{ℕ}
use native.Mathlib.Omega.{arith}
use lib.ListN.{take, length-take}
use lib.Seq.{take_all}
use Rattle.lines.specs.Memory.{kept}
use Rattle.stream.proofs.text.whole.Goals as goal

pub returns : goal.returns
returns c =
    let line : List ℕ = take c.args.held c.args.line.now ++ c.args.piece.now in
    ap kept c.hold-held.ensures.text ∙ take_all 513 (kept line) (omega (arith, length-take 513 line))
