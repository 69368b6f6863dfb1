use Rattle.std.proofs.Common.{◌++◌, List, map, take}
use Rattle.xm_colours.specs.Family.{colours_at}
use Rattle.xm_flow.specs.Inner.Building.{AreMade}
use Rattle.xm_flow.specs.FlowRows.{FlowRow, columns, merge_row}
use Rattle.xm_flow.proofs.kind.merge_rows.Given as goal

abbrev pub invariant-loop-i : goal.invariant-loop-i
invariant-loop-i l =
    (flow : List FlowRow) → AreMade (columns l.design) flow l.initial.rows.items →
    AreMade (columns l.design) (flow ++ map (merge_row (colours_at l.design.colours) l.a l.b l.out) (take l.i l.colours)) l.rows.items
