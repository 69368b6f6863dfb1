use Rattle.std.proofs.Common.{take}
use Rattle.xm_colours.specs.Family.{colours_at}
use Rattle.xm_flow.specs.Inner.Building.{AreMade}
use Rattle.xm_flow.specs.FlowRows.{columns, rows_from}
use Rattle.xm_flow.proofs.build.rows_of.Given as goal

abbrev pub invariant-loop-p : goal.invariant-loop-p
invariant-loop-p l = AreMade (columns l.design) (rows_from (colours_at l.design.colours) 0 (take l.p l.design.net.prims)) l.rows.items
