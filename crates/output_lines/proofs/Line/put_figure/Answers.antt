-- `output_lines::Line::put_figure` meets its contract: what io::decimal gives is the number's decimal. Assumes nothing.
use mathlib.Core.Path.{subst, ◌∙◌}
use mathlib.Core.List.{List, [], ◌∷◌}
use Prim.Native.Nat.{ℕ}
use native.Mathlib.Omega.{arith}
use Rattle.output_lines.specs.Output.{decimal}
use Rattle.output_lines.specs.Inner.PutAt.{PutAt}
use Rattle.output_lines.proofs.DecimalLaws.{decimal_is}
use Rattle.output_lines.proofs.PutLaws.{put_more}
use Rattle.output_lines.proofs.Line.put_figure.Goals as goal

pub put-requires-2 : goal.put-requires-2
put-requires-2 c =
    let d = c.decimal-k in
    rw (d.ensures.digits ∙ decimal_is c.args.n d.result d.ensures.len) (omega (arith, c.put.ensures.puts.size))

pub returns : goal.returns
returns c =
    let a = c.args in
    let d = c.decimal-k in
    record {
      same_reference = c.put-2.ensures.same_reference ∙ c.put.ensures.same_reference;
      same_size = c.put-2.ensures.same_size ∙ c.put.ensures.same_size;
      puts =
          put_more a.self.now.out.now a.self.now.at (omega arith) (32 ∷ []) (decimal a.n) _ _ _ _ c.put.ensures.puts
          (subst (λ (x : List ℕ). PutAt x c.put.new.self.at c.put.new.self.out.now c.put-2.new.self.at c.put-2.new.self.out.now)
          (d.ensures.digits ∙ decimal_is a.n d.result d.ensures.len) c.put-2.ensures.puts);
    }
