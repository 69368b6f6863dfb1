use Rattle.std.proofs.Common.{◌++◌, List, map, take}
use Rattle.xm_colours.specs.Family.{colours_at}
use Rattle.xm_flow.specs.Inner.Building.{AreMade}
use Rattle.xm_flow.specs.FlowRows.{FlowRow, columns, image_row}
use Rattle.xm_flow.proofs.kind.image_rows.Given as goal

abbrev pub invariant-loop-i : goal.invariant-loop-i
invariant-loop-i l =
    (flow : List FlowRow) → AreMade (columns l.design) flow l.initial.rows.items →
    AreMade (columns l.design) (flow ++ map (image_row (colours_at l.design.colours) l.input l.table l.out) (take l.i l.colours)) l.rows.items
