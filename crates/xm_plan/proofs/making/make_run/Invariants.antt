use Rattle.std.proofs.Common.{◌-◌, ◌≤◌, ◌<◌, length, map}
use Rattle.xm_model.specs.Component.{component_of}
use Rattle.xm_model.specs.Views.{content_at, signals_of}
use Rattle.xm_plan.specs.Inner.Made.{SettlesOn}
use Rattle.xm_plan.specs.Planned.{choice_for}
use Rattle.xm_plan.proofs.making.make_run.Given as goal

abbrev pub decreases-loop-k : goal.decreases-loop-k
decreases-loop-k g l = length l.operations - l.k

abbrev pub invariant-loop-k : goal.invariant-loop-k
invariant-loop-k g l = record {
  later : l.fn.from < l.k;
  within : l.k ≤ length l.operations;
  settled : SettlesOn (map component_of l.prims) (content_at (map g.C.HasCell.cell l.cells)) (choice_for l.choices l.row) l.changed l.operations l.fn.from (signals_of l.fn.wires) l.k (signals_of l.wires);
}
