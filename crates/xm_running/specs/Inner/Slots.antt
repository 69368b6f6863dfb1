-- Inner: the cell that a slot holds. No public clause cites this.
use Rattle.xm_model.specs.declared.state.Cell.{Cell}
use Rattle.xm_model.specs.declared.state.Cell.TheVariants as cell
use Rattle.xm_running.specs.declared.slot.Kept.{Kept}
use Rattle.xm_running.specs.declared.slot.Kept.TheVariants as kept

abbrev pub cell_of : Kept → Cell
cell_of (kept.Packets packets) = cell.Packets packets
cell_of (kept.Pending colour) = cell.Pending colour
cell_of (kept.Held held) = cell.Held held
cell_of (kept.Pref side) = cell.Pref side
cell_of kept.Nothing = cell.Nothing
