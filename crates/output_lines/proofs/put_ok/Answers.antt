-- `output_lines::put_ok` meets its contract: piece after piece, none past the 41st byte. Assumes nothing.
use mathlib.Core.List.{[], ◌∷◌}
use native.Mathlib.Omega.{arith}
use Rattle.std.proofs.Common.{rules}
use Rattle.output_lines.specs.Text.{newline}
use Rattle.output_lines.specs.Output.{hex_of, figure, ok_line}
use Rattle.output_lines.proofs.DecimalLaws.{decimal_most, hex_length}
use Rattle.output_lines.proofs.PutLaws.{put_whole, put_more}
use Rattle.output_lines.proofs.put_ok.Goals as goal

-- the bytes that are put: 3, at most 16 for the word, and at most 6, 4 and 11 for the figures
pub put_figure-requires : goal.put_figure-requires
put_figure-requires c =
    omega (
      arith,
      hex_length c.args.word.now,
      c.put.ensures.puts.size,
      c.put_hex.ensures.puts.size,
      decimal_most c.from.result 4 (omega (arith, c.ranges.distance, c.from.ensures)),
    )

pub put_figure-requires-2 : goal.put_figure-requires-2
put_figure-requires-2 c =
    omega (
      arith,
      hex_length c.args.word.now,
      c.put.ensures.puts.size,
      c.put_hex.ensures.puts.size,
      c.put_figure.ensures.puts.size,
      decimal_most c.from.result 4 (omega (arith, c.ranges.distance, c.from.ensures)),
      decimal_most c.from-2.result 2 (omega (arith, c.ranges.flips, c.from-2.ensures)),
    )

pub put_figure-requires-3 : goal.put_figure-requires-3
put_figure-requires-3 c =
    omega (
      arith,
      hex_length c.args.word.now,
      c.put.ensures.puts.size,
      c.put_hex.ensures.puts.size,
      c.put_figure.ensures.puts.size,
      c.put_figure-2.ensures.puts.size,
      decimal_most c.from.result 4 (omega (arith, c.ranges.distance, c.from.ensures)),
      decimal_most c.from-2.result 2 (omega (arith, c.ranges.flips, c.from-2.ensures)),
      decimal_most c.from-3.result 9 (omega (arith, c.ranges.candidates, c.from-3.ensures)),
    )

pub put-requires-2 : goal.put-requires-2
put-requires-2 c =
    omega (
      arith,
      hex_length c.args.word.now,
      c.put.ensures.puts.size,
      c.put_hex.ensures.puts.size,
      c.put_figure.ensures.puts.size,
      c.put_figure-2.ensures.puts.size,
      c.put_figure-3.ensures.puts.size,
      decimal_most c.from.result 4 (omega (arith, c.ranges.distance, c.from.ensures)),
      decimal_most c.from-2.result 2 (omega (arith, c.ranges.flips, c.from-2.ensures)),
      decimal_most c.from-3.result 9 (omega (arith, c.ranges.candidates, c.from-3.ensures)),
    )

pub returns : goal.returns
unfolding ok_line
returns c =
    let out = c.args.out.now in
    rw (← c.from.ensures, ← c.from-2.ensures, ← c.from-3.ensures)
    (put_whole _ out _ _ _
    (put_more out 0 (omega arith) _ (newline ∷ []) _ _ _ _
    (put_more out 0 (omega arith) _ (figure c.from-3.result) _ _ _ _
    (put_more out 0 (omega arith) _ (figure c.from-2.result) _ _ _ _
    (put_more out 0 (omega arith) _ (figure c.from.result) _ _ _ _
    (put_more out 0 (omega arith) _ (hex_of c.args.word.now) _ _ _ _ c.put.ensures.puts c.put_hex.ensures.puts)
    c.put_figure.ensures.puts) c.put_figure-2.ensures.puts) c.put_figure-3.ensures.puts) c.put-2.ensures.puts) (search rules))
