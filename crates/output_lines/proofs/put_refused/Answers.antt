-- `output_lines::put_refused` meets its contract: a number of eight bits has at most three digits. Assumes nothing.
use mathlib.Core.List.{[], ◌∷◌}
use native.Mathlib.Omega.{arith}
use Rattle.std.proofs.Common.{rules}
use Rattle.output_lines.specs.Text.{newline}
use Rattle.output_lines.specs.Output.{figure, refused_line}
use Rattle.output_lines.proofs.DecimalLaws.{decimal_most}
use Rattle.output_lines.proofs.PutLaws.{put_whole, put_more}
use Rattle.output_lines.proofs.put_refused.Goals as goal

pub put_figure-requires : goal.put_figure-requires
put_figure-requires c =
    omega (arith, c.put.ensures.puts.size, decimal_most c.from.result 2 (omega (arith, c.from.ensures)))

pub put-requires-2 : goal.put-requires-2
put-requires-2 c =
    omega (
      arith,
      c.put.ensures.puts.size,
      c.put_figure.ensures.puts.size,
      decimal_most c.from.result 2 (omega (arith, c.from.ensures)),
    )

pub returns : goal.returns
unfolding refused_line
returns c =
    let out = c.args.out.now in
    rw (← c.from.ensures)
    (put_whole _ out _ _ _
    (put_more out 0 (omega arith) _ (newline ∷ []) _ _ _ _
    (put_more out 0 (omega arith) _ (figure c.from.result) _ _ _ _ c.put.ensures.puts c.put_figure.ensures.puts)
    c.put-2.ensures.puts) (search rules))
