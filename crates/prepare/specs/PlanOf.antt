-- A prepared word's struct as the plan of the definitions. Assumes nothing.
use Rattle.search.specs.Plan.{Plan}
use Rattle.prepare.specs.Planned.{planned}
use Rattle.prepare.specs.declared.Prepared.{Prepared}

abbrev pub plan_of : Prepared → Plan
plan_of p = planned p.size p.rows p.hards p.sides p.base p.order p.weight p.symbols
