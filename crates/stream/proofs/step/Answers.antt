-- `stream::step` meets its contract. Assumes nothing.
use mathlib.Core.Path.{refl}
use native.Mathlib.Omega.{arith}
use Rattle.lines.specs.Memory.{block_says, after_block}
use Rattle.stream.specs.Stepped.{memory_of}
use Rattle.stream.proofs.BlockSteps.{line_more, rest_held}
use Rattle.stream.proofs.step.Goals as goal

pub loop-end-init : goal.loop-end-init
unfolding block_says after_block
loop-end-init c =
    record {
      within = omega arith;
      ready = c.requires.ready;
      remembers = refl;
      writes = record { size = refl; holds = refl };
      room = omega arith;
      size = refl;
      enough = c.requires.block_in_bounds;
    }

pub loop-end-preserved : goal.loop-end-preserved
loop-end-preserved c =
    let f = c.finish-answered in
    let l = c.loop-end in
    let a = c.args in
    line_more (memory_of a.state a.line.now) a.block.now a.out.now l.current l.line l.out l.at l.wrote l.invariant
    c.in-Some.end c.in-Some.ensures.0 c.in-Some.ensures.1 f.result f.new.line f.new.out f.ensures f.auto.line f.auto.out

pub returns : goal.returns
returns c =
    let a = c.args in
    let l = c.loop-end in
    let h = c.hold-held in
    rest_held (memory_of a.state a.line.now) a.block.now a.out.now l.current l.line l.out l.at l.wrote l.invariant
    c.in_default.ensures h.result h.new.line h.ensures
