-- `output_lines::Line::put_hex` meets its contract. The loop's invariant: the digits of the bytes so far are put. Assumes nothing.
use mathlib.Core.Path.{refl, subst, ◌∙◌}
use mathlib.Core.List.{List}
use Prim.Native.Nat.{ℕ}
use native.Mathlib.Omega.{arith}
use lib.ListN.{take}
use lib.Seq.{length-take-le, take_all}
use Rattle.output_lines.proofs.DecimalLaws.{hex_length}
use Rattle.output_lines.specs.Output.{hex_of}
use Rattle.output_lines.specs.Inner.PutAt.{PutAt}
use Rattle.output_lines.proofs.PutLaws.{put_none, put_hex_byte}
use Rattle.output_lines.proofs.Line.put_hex.Goals as goal

pub loop-b-init : goal.loop-b-init
unfolding hex_of
loop-b-init c = record { same_reference = refl; same_size = refl; puts = put_none _ _ }

-- two digits for each byte before, and two for this one
pub put-requires : goal.put-requires
put-requires c =
    let a = c.args in
    let l = c.loop-b in
    omega (
      arith,
      hex_length (take l.b-index a.bytes.now),
      length-take-le l.b-index a.bytes.now (omega arith),
      l.invariant.puts.size,
    )

pub loop-b-preserved : goal.loop-b-preserved
loop-b-preserved c =
    let a = c.args in
    let l = c.loop-b in
    let p = c.put.ensures in
    record {
      same_reference = p.same_reference ∙ l.invariant.same_reference;
      same_size = p.same_size ∙ l.invariant.same_size;
      puts =
          put_hex_byte a.self.now.out.now a.self.now.at (omega arith) a.bytes.now _ _ l.b-index _ _ (omega arith) l.invariant.puts
          (rw (← c.glyph.ensures, ← c.glyph-in-loop-b.ensures) p.puts);
    }

pub returns : goal.returns
returns c =
    let a = c.args in
    let l = c.loop-b in
    record {
      same_reference = l.invariant.same_reference;
      same_size = l.invariant.same_size;
      puts =
          subst (λ (x : List ℕ). PutAt (hex_of x) a.self.now.at a.self.now.out.now l.self.at l.self.out.now)
          (take_all l.b-index a.bytes.now (omega arith)) l.invariant.puts;
    }
