use Rattle.std.proofs.Common.{◌≡◌, ◌<◌, ◌≤◌, ℕ, map, Some, slice_get}
use Rattle.xm_model.specs.Component.{Component, component_of}
use Rattle.xm_parts.specs.Inner.Going.{HasGone}
use Rattle.xm_parts.specs.Rows.{cell_in, part_signals, prim_in}
use Rattle.xm_parts.proofs.step.go_on_all.Given as goal

abbrev pub invariant-loop-k : goal.invariant-loop-k
invariant-loop-k l = record {
  gone : (k : ℕ) (m : Component) → k < l.k → slice_get (map component_of l.locals) k ≡ Some m → HasGone m (cell_in l.old k) (cell_in l.out k) (part_signals l.wires l.far);
  rest : (k : ℕ) → l.k ≤ k → cell_in l.out k ≡ cell_in l.initial.out k;
  prims : (k : ℕ) → prim_in l.out k ≡ prim_in l.initial.out k;
}
