use Rattle.std.proofs.Common.{◌≡◌, ◌<◌, ℕ, map, length, Some, slice_get}
use Rattle.xm_model.specs.Component.{Component, component_of}
use Rattle.xm_step.specs.Inner.Cells.{IsKept}
use Rattle.xm_step.specs.Roomy.{cell_at}
use Rattle.xm_step.proofs.running.running_of.Given as goal

abbrev pub invariant-loop-p : goal.invariant-loop-p
invariant-loop-p l = record {
  len : length l.slots.items ≡ l.p;
  kept : (k : ℕ) (m : Component) → k < l.p → slice_get (map component_of l.prims) k ≡ Some m → IsKept m (cell_at l.cells k) (cell_at l.slots.items k);
}
